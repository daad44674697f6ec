use Rattle.std.proofs.Common.{◌∙◌, Err, ap}
use Rattle.std.proofs.lemmas.Result.{err_from_is_err_and}
use Rattle.range_server.proofs.Served.{serves_part, used_more, used_nothing}
use Rattle.range_server.proofs.serving.serve_piece.Goals as goal

pub loop-rest-init : goal.loop-rest-init
loop-rest-init g c =
    used_nothing c.args.image.now c.args.core.now c.args.piece.now (g.L.Link.shown c.args.link.now) c.args.receipt.now c.requires.sound c.requires.counts

pub returns-in_err-used : goal.returns-in_err-used
returns-in_err-used g c =
    let p = err_from_is_err_and c.from_residual.result c.from_residual.ensures.1 in
    serves_part c.from_residual.result c.loop-rest.invariant c.in_err-used.ensures (p.1 ∙ ap Err p.2)

pub loop-rest-preserved : goal.loop-rest-preserved
loop-rest-preserved g c = used_more c.loop-rest.invariant c.in_ok-used.ensures c.behind-rest.ensures
