use Rattle.std.proofs.Common.{◌≤◌, length, take}
use Rattle.level_bounds.specs.Shapes.{shape_of}
use Rattle.box_search.specs.Runs.{AreNear}
use Rattle.box_search.proofs.Lists.{nums}
use Rattle.box_search.proofs.level.Descent.run_len.Given as goal

abbrev pub invariant-loop-i : goal.invariant-loop-i
invariant-loop-i l = (1 ≤ l.i) × (l.i ≤ length l.nodes) × AreNear (shape_of l.self.levels.now) l.k l.self.gap (nums (take l.i l.nodes))
