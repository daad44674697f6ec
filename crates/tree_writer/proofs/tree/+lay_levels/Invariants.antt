use Rattle.std.proofs.Common.{◌-◌}
use Rattle.level_bounds.specs.Shapes.{shape_of}
use Rattle.tree_writer.proofs.tree.+lay_levels.Given as goal

abbrev pub decreases-lay_levels : goal.decreases-lay_levels
decreases-lay_levels g l = (shape_of l.levels.now).top - l.level
