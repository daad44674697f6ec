use Rattle.std.proofs.Common.{◌-◌}
use Rattle.level_bounds.specs.Growing.{IsGrown}
use Rattle.level_bounds.proofs.levels.Levels.new.Given as goal

abbrev pub invariant-loop-width : goal.invariant-loop-width
invariant-loop-width l = IsGrown l.features l.size l.count l.width l.through

abbrev pub decreases-loop-width : goal.decreases-loop-width
decreases-loop-width l = 44 - l.count
