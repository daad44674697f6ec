-- Points on a grid, each with its number.
use Rattle.std.specs.Prelude.{◌≡◌, ℕ, ◌+◌, ◌*◌, ◌%◌, ℤ, pos, ◌-ℤ◌, int_lt, unsigned_abs, List, [], ◌∷◌, Some, codes, ⊤}
use Rattle.order_keys.specs.Keys.{IsExactly}
use Rattle.fgb_values.specs.Values.{Whole}
use Rattle.fgb_schema.specs.Headers.{Header}
use Rattle.fgb_schema.specs.Shapes.{shape, none, no_ordinates}
use Rattle.fgb_schema.specs.Features.{Feature}
use Rattle.header_tables.specs.Records.{plain, plain_column}

-- the header of Points with a number, the column `id` of type ULong
abbrev pub grid_header : Header
grid_header = record (plain 1) { columns = plain_column (codes "id") 8 ∷ [] }

-- the whole numbers at which point i of a grid from this start on stands
abbrev pub across : ℕ → ℕ → ℤ
across start i = pos ((37 * i + start) % 361) -ℤ pos 180

abbrev pub up : ℕ → ℕ → ℤ
up start i = pos ((53 * i + start) % 181) -ℤ pos 90

-- the pattern of a whole number
abbrev pub IsPattern : ℤ → ℕ → Type 0
IsPattern z p = IsExactly p (int_lt z (pos 0)) (unsigned_abs z) 1

-- a Point with these coordinates, and with this number
abbrev pub numbered : ℕ → ℕ → ℕ → Feature
numbered x y i = record {
  shape = Some (shape 1 ((x, y) ∷ []) [] no_ordinates none);
  properties = record { column = 0; kind = 8; content = Whole (pos i) } ∷ [];
  columns = [];
}

-- feature i of a grid from this start on
pub record IsGridFeature (start i : ℕ) (f : Feature) : Type 0 where
  pub x : ℕ
  pub y : ℕ
  pub x_is : IsPattern (across start i) x
  pub y_is : IsPattern (up start i) y
  pub is : f ≡ numbered x y i

-- these are the features from this number on, in order
abbrev pub AreGridFrom : ℕ → ℕ → List Feature → Type 0
AreGridFrom start first [] = ⊤
AreGridFrom start first (f ∷ rest) = IsGridFeature start first f × AreGridFrom start (first + 1) rest
