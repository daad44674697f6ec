-- The points that were taken, as lists of numbers and as a shape.
use Rattle.std.specs.Prelude.{◌≡◌, ℕ, List, [], ◌∷◌, ◌++◌, map, length, option_to_list, if◌then◌else◌}
use Rattle.std.specs.List.{flat_map}
use Rattle.fgb_schema.specs.Shapes.{Shape, shape, none, Ordinates, no_ordinates, pairs_of}
use Rattle.owned_shape.specs.Puts.{with_points}
use Rattle.wkb_writer.specs.declared.dimension.Dimension.{Dimension}
use Rattle.wkb_grammar.specs.Grammar.{Position, IsSpelled}
use Rattle.wkb_grammar.specs.ShapesShown.{lists_of, joined, rings_along}
use Rattle.wkb_reader.specs.declared.points.Points.{Points}
use Rattle.wkb_reader.specs.declared.points.Position.{Position as ReadPosition}

abbrev pub position_of : ReadPosition → Position
position_of p = record { x = p.x; y = p.y; beside = option_to_list p.z ++ option_to_list p.m }

-- patterns, and z and m just where the dimension has them
pub record IsFor (d : Dimension) (p : ReadPosition) : Type 0 where
  pub spelled : IsSpelled d (position_of p)
  pub has_z : length (option_to_list p.z) ≡ (if d.z then 1 else 0)
  pub has_m : length (option_to_list p.m) ≡ (if d.m then 1 else 0)

-- x and y by turns
abbrev pub xy_of : List Position → List ℕ
xy_of ps = flat_map (λ p. p.x ∷ p.y ∷ []) ps

-- the z and the m of these points were put behind those of others
pub record AddsBeside (d : Dimension) (old new : Points) (ps : List Position) : Type 0 where
  pub z : new.z.items ≡ old.z.items ++ (lists_of d ps).z
  pub m : new.m.items ≡ old.m.items ++ (lists_of d ps).m

-- these points were put behind others
pub record Adds (d : Dimension) (old new : Points) (ps : List Position) : Type 0 where
  pub xy : new.xy.items ≡ old.xy.items ++ xy_of ps
  pub beside : AddsBeside d old new ps

-- the numbers beside x and y
abbrev pub lists_in : Points → Ordinates
lists_in points = record { z = points.z.items; m = points.m.items; t = []; tm = [] }

-- the shape of this kind with these points, and no rings
abbrev pub gathered : ℕ → Points → Shape
gathered kind points = shape kind (pairs_of points.xy.items) [] (lists_in points) none

-- x and y of each point
abbrev pub corners : List Position → List (ℕ × ℕ)
corners ps = map (λ p. (p.x, p.y)) ps

-- a line was put into a shape, whose numbers beside x and y are kept apart
pub record AddsRing (d : Dimension) (old new : Shape) (kept still : Points) (ps : List Position) : Type 0 where
  pub line : new ≡ with_points old (corners ps)
  pub beside : AddsBeside d kept still ps

-- these lines are the rings of a shape of this kind, whose numbers beside x and y are kept apart
pub record HasRings (d : Dimension) (kind : ℕ) (s : Shape) (kept : Points) (lines : List (List Position)) : Type 0 where
  pub rings : s ≡ shape kind (corners (joined lines)) (rings_along 0 lines) no_ordinates none
  pub z : kept.z.items ≡ (lists_of d (joined lines)).z
  pub m : kept.m.items ≡ (lists_of d (joined lines)).m
