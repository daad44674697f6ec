use Rattle.std.proofs.Common.{◌++◌, List, ℕ, sym, ap, ◌∙◌}
use Rattle.range_reply.specs.Written.{head_of}
use Rattle.range_server.proofs.Talks.{sends_both}
use Rattle.range_server.proofs.serving.send_reply.Goals as goal

pub returns : goal.returns
returns g c =
    sends_both c.head.result.now c.body_of_reply-body.result.now _ c.write-2.result
    (ap (λ (xs : List ℕ). head_of c.args.reply.now ++ xs) (sym c.body_of_reply-body.ensures) ∙ ap (λ (xs : List ℕ). xs ++ c.body_of_reply-body.result.now) (sym c.head.ensures))
    c.in_ok-write.ensures c.write-2.ensures
