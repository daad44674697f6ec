-- The spelling of a shape as a function (OGC 06-103r4, section 8.2).
use Rattle.std.specs.Prelude.{ℕ, nat_lt, not, ◌&&◌, ◌||◌, Bool, List, [], ◌∷◌, length, if◌then◌else◌, Option, Some, None}
use Rattle.std.specs.List.{list_all}
use Rattle.std.specs.Bool.{beq}
use Rattle.std.specs.Option.{option_map}
use Rattle.fgb_schema.specs.Shapes.{Shape, points_in, ordinates_in}
use Rattle.wkb_writer.specs.declared.dimension.Dimension.{Dimension}
use Rattle.wkb_writer.specs.Dimensions.{dimension_of, flat, tree}
use Rattle.wkb_writer.specs.Wkb.{value}

-- a list of times
abbrev pub is_timed : Shape → Bool
is_timed s = nat_lt 0 (length (ordinates_in s).t) || nat_lt 0 (length (ordinates_in s).tm)

-- points of its own
abbrev pub has_points : Shape → Bool
has_points s = nat_lt 0 (length (points_in s))

abbrev pub is_dimension : Dimension → Dimension → Bool
is_dimension d e = beq d.z e.z && beq d.m e.m

-- no times, and no points of its own of another dimension
unfoldable pub fits : Dimension → Shape → Bool
fits d s = not (is_timed s) && (not (has_points s) || is_dimension (dimension_of s) d)

-- the dimension of the first shape with points of its own, x and y alone where there is none
abbrev pub first_dimension : List Shape → Dimension
first_dimension [] = flat
first_dimension (s ∷ rest) = if has_points s then dimension_of s else first_dimension rest

-- the one dimension of the points at all depths, if there are no times and no points of another
unfoldable pub dimension_in : Shape → Option Dimension
dimension_in g = if list_all (fits (first_dimension (tree g))) (tree g) then Some (first_dimension (tree g)) else None

-- the spelling of a shape, if it has one
unfoldable pub spelling : Shape → Option (List ℕ)
spelling g = option_map (λ d. value d g) (dimension_in g)
