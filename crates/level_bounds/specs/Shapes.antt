-- The shape of the tree whose levels are kept.
use Rattle.std.specs.Prelude.{◌-◌}
use Rattle.level_bounds.specs.Levels.{Shape}
use Rattle.level_bounds.specs.declared.levels.Levels.{Levels}

abbrev pub shape_of : Levels → Shape
shape_of l = record { leaves = l.features; node_size = l.node_size; top = l.count - 1 }
