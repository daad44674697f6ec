-- The shape that a geometry shows, a tree of at most 16 levels, and its own box (FlatGeobuf, feature.fbs, Geometry).
use Rattle.std.specs.Prelude.{ℕ, zero, suc, ◌==◌, List, [], ◌∷◌, ◌++◌, map, if◌then◌else◌, Option, Some, None, find}
use Rattle.std.specs.List.{range_with_len, list_all}
use Rattle.order_keys.specs.declared.bounds.Bounds.{Bounds}
use Rattle.order_keys.specs.declared.coord.Coord.{Coord}
use Rattle.order_keys.specs.Keys.{at_most}
use Rattle.order_keys.specs.Boxes.{empty}
use Rattle.flat_layout.specs.Layout.{target, is_absent, led_to, words, longs, entry_place}
use Rattle.fgb_schema.specs.Tables.{kind_of, has_points, has_rings, has_parts, part_type}
use Rattle.fgb_schema.specs.Paths.{count_in, point_count}

-- z, m, t and tm, each empty or with one pattern for each point
pub record Ordinates : Type 0 where
  pub z : List ℕ
  pub m : List ℕ
  pub t : List ℕ
  pub tm : List ℕ

abbrev pub no_ordinates : Ordinates
no_ordinates = record { z = []; m = []; t = []; tm = [] }

-- type, points, rings as their first point and their end, ordinates, parts
mutual
  pub data Shape : Type 0 where
    shape : ℕ → List (ℕ × ℕ) → List (ℕ × ℕ) → Ordinates → Shapes → Shape

  pub data Shapes : Type 0 where
    none : Shapes
    more : Shape → Shapes → Shapes

-- the points of a list of x and y by turns
abbrev pub pairs_of : List ℕ → List (ℕ × ℕ)
pairs_of (x ∷ y ∷ rest) = (x, y) ∷ pairs_of rest
pairs_of rest = []

-- the numbers of the vector in field f, none where it is absent
abbrev pub longs_in : List ℕ → ℕ → ℕ → List ℕ
longs_in b t f = if is_absent b t f then [] else longs b (led_to b t f)

abbrev pub words_in : List ℕ → ℕ → ℕ → List ℕ
words_in b t f = if is_absent b t f then [] else words b (led_to b t f)

-- rings that end at these points, the first of which begins at this one
abbrev pub rings_from : ℕ → List ℕ → List (ℕ × ℕ)
rings_from first [] = []
rings_from first (end ∷ rest) = (first, end) ∷ rings_from end rest

-- where no ends are given, all points are one ring
abbrev pub rings_of : List ℕ → ℕ → List (ℕ × ℕ)
rings_of [] points = if points == 0 then [] else (0, points) ∷ []
rings_of (end ∷ rest) points = rings_from 0 (end ∷ rest)

-- some shapes, one after another
abbrev pub shapes_of : List Shape → Shapes
shapes_of [] = none
shapes_of (first ∷ rest) = more first (shapes_of rest)

-- what the geometry at t, for which this type holds, shows with these parts
abbrev pub shape_with : ℕ → List ℕ → ℕ → Shapes → Shape
shape_with kind b t parts = shape kind
    (if has_points kind then pairs_of (longs_in b t 1) else [])
    (if has_rings kind then rings_of (words_in b t 0) (point_count b t) else [])
    (if has_points kind then record { z = longs_in b t 2; m = longs_in b t 3; t = longs_in b t 4; tm = longs_in b t 5 } else no_ordinates)
    parts

-- what the parts of the geometry at t show, each by its place
abbrev pub parts_by : (ℕ → Shape) → List ℕ → ℕ → Shapes
parts_by show b t = shapes_of (map (λ i. show (target b (entry_place b (led_to b t 7) i))) (range_with_len 0 (count_in b t 7)))

-- the shape of the geometry at t, to which this type is given from outside, with at most so many levels below its own
unfoldable pub shape_at : ℕ → ℕ → List ℕ → ℕ → Shape
shape_at zero outer b t = shape_with (kind_of outer b t) b t none
shape_at (suc levels) outer b t =
    shape_with (kind_of outer b t) b t (if has_parts (kind_of outer b t) then parts_by (shape_at levels (part_type (kind_of outer b t)) b) b t else none)

-- what a shape is made of
abbrev pub type_in : Shape → ℕ
type_in (shape kind own rings ordinates parts) = kind

abbrev pub points_in : Shape → List (ℕ × ℕ)
points_in (shape kind own rings ordinates parts) = own

abbrev pub rings_in : Shape → List (ℕ × ℕ)
rings_in (shape kind own rings ordinates parts) = rings

abbrev pub ordinates_in : Shape → Ordinates
ordinates_in (shape kind own rings ordinates parts) = ordinates

abbrev pub parts_in : Shape → List Shape
parts_in (shape kind own rings ordinates parts) = list_of parts
  where
    list_of : Shapes → List Shape
    list_of none = []
    list_of (more first rest) = first ∷ list_of rest

-- all points of a shape: its own, followed by those of its parts
abbrev mutual
  pub points : Shape → List (ℕ × ℕ)
  points (shape kind own rings ordinates parts) = own ++ points_of_all parts

  pub points_of_all : Shapes → List (ℕ × ℕ)
  points_of_all none = []
  points_of_all (more first rest) = points first ++ points_of_all rest

-- the first of some patterns that comes at or before each of them, and the first that comes at or after each
abbrev pub first_least : List ℕ → Option ℕ
first_least xs = find (λ x. list_all (at_most x) xs) xs

abbrev pub first_greatest : List ℕ → Option ℕ
first_greatest xs = find (λ x. list_all (λ y. at_most y x) xs) xs

-- a pattern, or this one where there is none
abbrev pub or_else : Option ℕ → Coord → Coord
or_else None c = c
or_else (Some x) c = record { 0 = x }

-- the box of some points: the first least and the first greatest x and y, or the empty box where there are none
abbrev pub box_of_points : List (ℕ × ℕ) → Bounds
box_of_points ps = record {
  min_x = or_else (first_least (map (λ p. p.0) ps)) empty.min_x;
  min_y = or_else (first_least (map (λ p. p.1) ps)) empty.min_y;
  max_x = or_else (first_greatest (map (λ p. p.0) ps)) empty.max_x;
  max_y = or_else (first_greatest (map (λ p. p.1) ps)) empty.max_y;
}
