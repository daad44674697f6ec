-- The shape of a value (OGC 06-103r4, section 8.2).
use Rattle.std.specs.Prelude.{ℕ, ◌+◌, ◌==◌, List, [], ◌∷◌, map, take, drop, length, if◌then◌else◌}
use Rattle.std.specs.List.{flat_map}
use Rattle.fgb_schema.specs.Shapes.{Shape, shape, Shapes, none, more, Ordinates, no_ordinates}
use Rattle.wkb_writer.specs.declared.dimension.Dimension.{Dimension}
use Rattle.wkb_grammar.specs.Grammar.{Position, Value, value, Body, point, line, polygon, multi, Values, nothing, also, is_nowhere}

-- the z and the m of points, where the dimension has them; the z stands in front
abbrev pub lists_of : Dimension → List Position → Ordinates
lists_of d ps = record {
  z = if d.z then flat_map (λ p. take 1 p.beside) ps else [];
  m = if d.m then flat_map (λ p. drop (if d.z then 1 else 0) p.beside) ps else [];
  t = [];
  tm = [];
}

-- a shape of this kind with these points and rings, and no parts
abbrev pub shape_of_points : ℕ → Dimension → List Position → List (ℕ × ℕ) → Shape
shape_of_points kind d ps rings = shape kind (map (λ p. (p.x, p.y)) ps) rings (lists_of d ps) none

-- the first point and the end of each of some lines, which follow one another from this point on
abbrev pub rings_along : ℕ → List (List Position) → List (ℕ × ℕ)
rings_along first [] = []
rings_along first (ps ∷ rest) = (first, first + length ps) ∷ rings_along (first + length ps) rest

-- lines as one list of points
abbrev pub joined : List (List Position) → List Position
joined lines = flat_map (λ ps. ps) lines

-- the points of a value that is a Point or a line
abbrev pub positions_in : Value → List Position
positions_in (value s d (point p)) = p ∷ []
positions_in (value s d (line ps)) = ps
positions_in (value s d body) = []

abbrev pub positions_of_each : Values → List (List Position)
positions_of_each nothing = []
positions_of_each (also first rest) = positions_in first ∷ positions_of_each rest

-- the shape of a value: the members of a MultiPoint are its points, those of a MultiLineString its rings, others its parts
abbrev mutual
  pub shape_of : Value → Shape
  shape_of (value s d body) = shape_of_body d body

  pub shape_of_body : Dimension → Body → Shape
  shape_of_body d (point p) = shape_of_points 1 d (if is_nowhere p then [] else p ∷ []) []
  shape_of_body d (line ps) = shape_of_points 2 d ps []
  shape_of_body d (polygon rings) = shape_of_points 3 d (joined rings) (rings_along 0 rings)
  shape_of_body d (multi kind members) =
      if kind == 4 then shape_of_points 4 d (joined (positions_of_each members)) []
      else if kind == 5 then shape_of_points 5 d (joined (positions_of_each members)) (rings_along 0 (positions_of_each members))
      else shape kind [] [] no_ordinates (shapes_in members)

  pub shapes_in : Values → Shapes
  shapes_in nothing = none
  shapes_in (also first rest) = more (shape_of first) (shapes_in rest)
