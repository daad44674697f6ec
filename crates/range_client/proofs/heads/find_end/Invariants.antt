use Rattle.std.proofs.Common.{◌+◌}
use Rattle.range_client.specs.Fronts.{IsEndlessBetween}
use Rattle.range_client.proofs.heads.find_end.Given as goal

abbrev pub invariant-loop-end : goal.invariant-loop-end
invariant-loop-end l = IsEndlessBetween l.bytes l.from (l.end + 1)
