use Rattle.std.proofs.Common.{◌-◌, length}
use Rattle.range_client.proofs.Filling.{FillsOn}
use Rattle.range_client.proofs.bodies.fill.Given as goal

abbrev pub invariant-loop-at : goal.invariant-loop-at
invariant-loop-at g l = FillsOn (g.L.Link.shown l.fn.link) (g.L.Link.shown l.link) l.fn.into l.into l.from l.at

abbrev pub decreases-loop-at : goal.decreases-loop-at
decreases-loop-at g l = length l.into - l.at
