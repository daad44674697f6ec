use Rattle.std.proofs.Common.{◌∙◌, ◌||◌, ◌==◌, ◌+◌, Bool, List, ℕ, Some, length, sym, ap}
use Rattle.range_reply.specs.Heads.{most_heads, next_len}
use Rattle.range_server.specs.Core.{Core, used_len}
use Rattle.range_server.proofs.Cuts.{used_to_end}
use Rattle.range_server.proofs.Roads.{sound_answered}
use Rattle.range_server.proofs.one_core.ServerCore.take.Goals as goal

pub invariant_of-self : goal.invariant_of-self
invariant_of-self c =
    let old : Core = record { size = c.self.inside.size; kept = c.self.inside.kept.items; answered = c.self.inside.answered; closed = c.self.inside.closed } in (
      c.self.invariant.0,
      sound_answered old c.as_slice.result.now _ _ c.self.invariant.1 c.if-self.false c.clear.ensures
          (c.is_last-self-inside.ensures ∙ ap (λ (b : Bool). b || (c.self.inside.answered + 1 == most_heads)) c.answer-reply.ensures.closes),
    )

pub returns-in-Some-clause-used : goal.returns-in-Some-clause-used
returns-in-Some-clause-used c =
    let old : Core = record { size = c.self.inside.size; kept = c.self.inside.kept.items; answered = c.self.inside.answered; closed = c.self.inside.closed } in
    let ended = c.in-Some.ensures.ended in
    sym (used_to_end old c.args.bytes.now c.in-Some.used c.if-self.false ended.0
    (sym (ap next_len ended.1) ∙ ended.2 ∙ ap (λ (xs : List ℕ). Some (length xs)) ended.1))
    ∙ ap (λ (core : Core). used_len core c.args.bytes.now) c.self.view_is
