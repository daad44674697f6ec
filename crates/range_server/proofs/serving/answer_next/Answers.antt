use Rattle.std.proofs.Common.{◌∙◌, Err, ap}
use Rattle.std.proofs.lemmas.Result.{err_from_is_err_and}
use Rattle.range_server.proofs.Served.{next_answers, next_part, next_waits}
use Rattle.range_server.proofs.serving.answer_next.Goals as goal

pub returns-in_default : goal.returns-in_default
returns-in_default g c =
    let taken = c.take-used.ensures in
    next_waits c.args.image.now c.args.core.now c.take-used.new.self c.args.piece.now (g.L.Link.shown c.args.link.now) c.args.receipt.now c.take-used.result.used
    c.take-used.result.reply c.requires.sound c.requires.going c.requires.some c.requires.counts taken.used taken.within taken.core c.in_default.is taken.silent

pub returns-in_err-send_reply : goal.returns-in_err-send_reply
returns-in_err-send_reply g c =
    let taken = c.take-used.ensures in
    let p = err_from_is_err_and c.from_residual.result c.from_residual.ensures.1 in
    next_part c.args.image.now c.args.core.now c.take-used.new.self c.args.piece.now (g.L.Link.shown c.args.link.now) (g.L.Link.shown c.send_reply.new.link)
    c.args.receipt.now c.take-used.result.used c.take-used.result.reply c.in-Some.reply c.in_err-send_reply.field-0.0 c.from_residual.result
    c.requires.sound c.requires.size c.requires.counts taken.used taken.core c.in-Some.is taken.answer c.in_err-send_reply.ensures (p.1 ∙ ap Err p.2)

pub returns : goal.returns
returns g c =
    let taken = c.take-used.ensures in
    next_answers c.args.image.now c.args.core.now c.take-used.new.self c.args.piece.now (g.L.Link.shown c.args.link.now) (g.L.Link.shown c.send_reply.new.link)
    c.args.receipt.now c.with.result c.take-used.result.used c.take-used.result.reply c.in-Some.reply
    c.requires.sound c.requires.going c.requires.some c.requires.size taken.used taken.within taken.core c.in-Some.is taken.answer c.in_ok-send_reply.ensures c.with.ensures
