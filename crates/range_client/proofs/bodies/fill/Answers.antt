use Rattle.std.proofs.Common.{take, sym, ap, ◌∙◌, arith}
use Rattle.std.proofs.lemmas.List.{take-take}
use Rattle.std.proofs.lemmas.Result.{err_from_is_err_and}
use Rattle.range_client.proofs.Filling.{fills_more, fills_nothing, fills_stopped}
use Rattle.range_client.proofs.bodies.fill.Goals as goal

pub loop-at-init : goal.loop-at-init
loop-at-init g c = fills_nothing (g.L.Link.shown c.args.link.now) c.args.into.now c.args.from c.requires

pub returns-in_err-at-clause-front : goal.returns-in_err-at-clause-front
returns-in_err-at-clause-front g c =
    let so_far = c.loop-at.invariant in
    sym (take-take c.args.from c.loop-at.at c.read_some.new.bytes so_far.order) ∙ ap (take c.args.from) c.read_some.ensures.front
    ∙ take-take c.args.from c.loop-at.at c.loop-at.into so_far.order ∙ so_far.front

pub returns-in_err-at-clause-stops : goal.returns-in_err-at-clause-stops
returns-in_err-at-clause-stops g c =
    let p = err_from_is_err_and c.from_residual.result c.from_residual.ensures.1 in
    rw (p.1, p.2)
    (fills_stopped (g.L.Link.shown c.args.link.now) (g.L.Link.shown c.loop-at.link) (g.L.Link.shown c.read_some.new.link) c.args.into.now c.loop-at.into c.read_some.new.bytes
    c.args.from c.loop-at.at c.in_err-at.field-0.0 c.loop-at.invariant (omega arith) (omega arith) c.in_err-at.ensures.stops)

pub loop-at-preserved : goal.loop-at-preserved
loop-at-preserved g c =
    fills_more (g.L.Link.shown c.args.link.now) (g.L.Link.shown c.loop-at.link) (g.L.Link.shown c.read_some.new.link) c.args.into.now c.loop-at.into c.read_some.new.bytes
    c.args.from c.loop-at.at c.in_ok-at.at c.loop-at.invariant (omega (arith, c.in_ok-at.ensures.count)) (omega (arith, c.in_ok-at.ensures.count)) (omega arith) c.read_some.ensures.front c.in_ok-at.ensures.takes
