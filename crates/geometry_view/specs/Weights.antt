-- What a shape weighs, by what is seen of it. A tree that was read weighs at most 4 times the bytes of a buffer.
use Rattle.std.specs.Prelude.{ℕ, ◌+◌, ◌*◌, ◌-◌, length}
use Rattle.fgb_schema.specs.Shapes.{Shape, Shapes, shape, none, more}

-- 4 for itself, 4 for each ring but the first, 16 for each point, 8 for each ordinate, and its parts
abbrev mutual
  pub shape_weight : Shape → ℕ
  shape_weight (shape kind own rings ordinates parts) =
      4 + 4 * (length rings - 1) + 16 * length own
      + 8 * (length ordinates.z + length ordinates.m + length ordinates.t + length ordinates.tm) + parts_weight parts

  -- for each part 4, and the part itself
  pub parts_weight : Shapes → ℕ
  parts_weight none = 0
  parts_weight (more first rest) = 4 + shape_weight first + parts_weight rest
