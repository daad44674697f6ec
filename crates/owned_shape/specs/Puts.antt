-- A shape with more in it.
use Rattle.std.specs.Prelude.{ℕ, ◌+◌, ◌==◌, ◌&&◌, ◌||◌, Bool, List, [], ◌∷◌, ◌++◌, length, if◌then◌else◌}
use Rattle.geometry_view.specs.declared.kind.Ordinate.{Ordinate}
use Rattle.geometry_view.specs.declared.kind.Ordinate.TheVariants.{Z, M, T, Tm}
use Rattle.fgb_schema.specs.Tables.{has_rings}
use Rattle.fgb_schema.specs.Shapes.{Shape, shape, Shapes, shapes_of, Ordinates, type_in, points_in, rings_in, ordinates_in, parts_in}

abbrev pub shapes_in : Shape → Shapes
shapes_in (shape kind own rings ordinates parts) = parts

-- some points behind the others; where the type has rings, they are one more
abbrev pub with_points : Shape → List (ℕ × ℕ) → Shape
with_points s later = shape (type_in s) (points_in s ++ later)
    (if has_rings (type_in s) then rings_in s ++ (length (points_in s), length (points_in s) + length later) ∷ [] else rings_in s)
    (ordinates_in s)
    (shapes_in s)

-- one of the four lists is this one
abbrev pub with_list : Ordinate → List ℕ → Ordinates → Ordinates
with_list Z list lists = record lists { z = list }
with_list M list lists = record lists { m = list }
with_list T list lists = record lists { t = list }
with_list Tm list lists = record lists { tm = list }

abbrev pub with_ordinates : Shape → Ordinate → List ℕ → Shape
with_ordinates s which list = shape (type_in s) (points_in s) (rings_in s) (with_list which list (ordinates_in s)) (shapes_in s)

-- a part behind the others
abbrev pub with_part : Shape → Shape → Shape
with_part s part = shape (type_in s) (points_in s) (rings_in s) (ordinates_in s) (shapes_of (parts_in s ++ part ∷ []))

-- whether a part of that type can be put into a shape of this type
abbrev pub takes_part : ℕ → ℕ → Bool
takes_part kind part = kind == 7 || (kind == 6 && part == 3)
