use Rattle.std.proofs.Common.{◌-◌, length}
use Rattle.range_client.proofs.Ending.{ComesOn}
use Rattle.range_client.proofs.heads.read_head.Given as goal

abbrev pub invariant-loop-len : goal.invariant-loop-len
invariant-loop-len g l = ComesOn (g.L.Link.shown l.fn.link) (g.L.Link.shown l.link) l.bytes l.len

abbrev pub decreases-loop-len : goal.decreases-loop-len
decreases-loop-len g l = length l.bytes - l.len
