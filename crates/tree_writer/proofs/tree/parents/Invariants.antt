use Rattle.std.proofs.Common.{◌≡◌, map}
use Rattle.std.specs.List.{range_with_len}
use Rattle.level_bounds.specs.Shapes.{shape_of}
use Rattle.tree_writer.specs.Rows.{parent_over}
use Rattle.tree_writer.proofs.tree.parents.Given as goal

abbrev pub invariant-loop-i : goal.invariant-loop-i
invariant-loop-i l = l.parents.items ≡ map (parent_over (shape_of l.levels) l.nodes l.level) (range_with_len 0 l.i)
