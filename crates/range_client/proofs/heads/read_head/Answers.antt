use Rattle.std.proofs.Common.{arith, refl, take}
use Rattle.std.proofs.lemmas.Result.{err_from_is_err_and}
use Rattle.range_client.proofs.Ending.{comes_more, comes_nothing, head_came, head_stopped}
use Rattle.range_client.proofs.heads.read_head.Goals as goal

pub loop-len-init : goal.loop-len-init
loop-len-init g c = comes_nothing (g.L.Link.shown c.args.link.now) c.args.bytes.now c.args.len.now c.requires.empty

pub returns-in_err-len-clause-stopped : goal.returns-in_err-len-clause-stopped
returns-in_err-len-clause-stopped g c =
    let p = err_from_is_err_and c.from_residual.result c.from_residual.ensures.1 in
    rw (p.1, p.2)
    (head_stopped (g.L.Link.shown c.args.link.now) (g.L.Link.shown c.loop-len.link) (g.L.Link.shown c.read_some.new.link) c.loop-len.bytes c.read_some.new.bytes
    c.loop-len.len c.in_err-len.field-0.0 (omega arith) c.read_some.ensures.front c.loop-len.invariant c.in_err-len.ensures.stops)

pub returns-in-Some-clause-came : goal.returns-in-Some-clause-came
returns-in-Some-clause-came g c =
    let so_far = c.loop-len.invariant in
    let count = c.in_ok-len.ensures.count in
    head_came (g.L.Link.shown c.args.link.now) (g.L.Link.shown c.loop-len.link) (g.L.Link.shown c.read_some.new.link) c.loop-len.bytes c.read_some.new.bytes
    (take c.in_ok-len.field-0 c.read_some.new.bytes) c.loop-len.len c.in_ok-len.field-0 c.args.ahead c.in-Some.end count.0 (omega (arith, count)) (omega (arith, count))
    c.read_some.ensures.front refl so_far.endless so_far.takes c.in_ok-len.ensures.takes c.in-Some.ensures.some

pub loop-len-preserved : goal.loop-len-preserved
loop-len-preserved g c =
    let count = c.in_ok-len.ensures.count in
    comes_more (g.L.Link.shown c.args.link.now) (g.L.Link.shown c.loop-len.link) (g.L.Link.shown c.read_some.new.link) c.loop-len.bytes c.read_some.new.bytes
    (take c.in_ok-len.field-0 c.read_some.new.bytes) c.loop-len.len c.in_ok-len.field-0 count.0 (omega (arith, count)) c.read_some.ensures.front
    refl c.loop-len.invariant c.in_ok-len.ensures.takes c.in_default.ensures.none
