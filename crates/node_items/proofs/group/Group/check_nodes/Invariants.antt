use Rattle.std.proofs.Common.{ℕ, ◌<◌}
use Rattle.level_bounds.specs.Shapes.{shape_of}
use Rattle.node_items.proofs.Groups.{IsClean}
use Rattle.node_items.proofs.group.Group.check_nodes.Given as goal

abbrev pub invariant-loop-i : goal.invariant-loop-i
invariant-loop-i l = (j : ℕ) → j < l.i → IsClean (shape_of l.levels) l.self j
