-- A tree that is cut off above a level.
use Rattle.std.specs.Prelude.{ℕ}
use Rattle.level_bounds.specs.Levels.{Shape}

-- its levels up to this one
abbrev pub up_to : ℕ → ℕ → ℕ → Shape
up_to leaves node_size top = record { leaves = leaves; node_size = node_size; top = top }
