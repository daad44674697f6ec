use Rattle.std.proofs.Common.{length, ◌-◌, option_map}
use Rattle.level_bounds.specs.Shapes.{shape_of}
use Rattle.fgb_check.specs.Walks.{Stands}
use Rattle.fgb_check.proofs.slice.count_features.Given as goal

abbrev pub invariant-loop-at : goal.invariant-loop-at
invariant-loop-at l = Stands l.bytes (option_map shape_of l.levels) l.at l.tally

abbrev pub decreases-loop-at : goal.decreases-loop-at
decreases-loop-at l = length l.bytes - l.at
