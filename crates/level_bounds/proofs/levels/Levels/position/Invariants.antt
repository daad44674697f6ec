use Rattle.std.proofs.Common.{◌+◌, ◌<◌, ◌≤◌}
use Rattle.level_bounds.specs.Levels.{place}
use Rattle.level_bounds.specs.Shapes.{shape_of}
use Rattle.level_bounds.proofs.levels.Levels.position.Given as goal

abbrev pub invariant-loop-k : goal.invariant-loop-k
invariant-loop-k l = record {
  under : l.k < (shape_of l.self).top + 1;
  from : place (shape_of l.self) l.k 0 ≤ l.node;
}

abbrev pub decreases-loop-k : goal.decreases-loop-k
decreases-loop-k l = l.k
