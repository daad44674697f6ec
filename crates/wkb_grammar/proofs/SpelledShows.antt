-- The value that the writer writes shows the shape.
use Rattle.std.proofs.Common.{◌≡◌, ℕ, ◌≤◌, Bool, true, false, IsTrue, List, [], ◌∷◌, length, map, if◌then◌else◌, refl, sym, ap, ap₂, ◌∙◌, arith}
use Rattle.std.specs.List.{All}
use Rattle.std.proofs.lemmas.List.Elements.{All-head}
use Rattle.fgb_schema.specs.Tables.{is_kind, has_points, has_rings, has_parts}
use Rattle.fgb_schema.specs.Shapes.{shape, none, no_ordinates}
use Rattle.owned_shape.specs.Records.{AreChained}
use Rattle.wkb_writer.specs.declared.dialect.Dialect.{Dialect}
use Rattle.wkb_writer.specs.declared.dimension.Dimension.{Dimension}
use Rattle.wkb_grammar.specs.Grammar.{Position, Values, is_nowhere, IsPosition}
use Rattle.wkb_grammar.specs.ShapesShown.{lists_of, shape_of_points, rings_along, joined, positions_of_each, shape_of_body, shapes_in}
use Rattle.wkb_grammar.proofs.Rings.{ring_in, joined_whole, rings_back}
use Rattle.wkb_grammar.proofs.SpelledIs.{somewhere, empty_is_nowhere}
use Rattle.wkb_grammar.proofs.Spelling.{by_kind, values_of, point_value, line_value, only_point, body_by}

-- the points of Points, and the lines of LineStrings
points_of_each : (dialect : Dialect) (d : Dimension) (ps : List Position) → joined (positions_of_each (values_of (map (point_value dialect d) ps))) ≡ ps
points_of_each dialect d [] = refl
points_of_each dialect d (p ∷ ps) = ap (λ rest. p ∷ rest) (points_of_each dialect d ps)

lines_of_each : (dialect : Dialect) (d : Dimension) (lines : List (List Position)) → positions_of_each (values_of (map (line_value dialect d) lines)) ≡ lines
lines_of_each dialect d [] = refl
lines_of_each dialect d (ps ∷ lines) = ap (λ rest. ps ∷ rest) (lines_of_each dialect d lines)

-- the points of a Point
single_points : (d : Dimension) (ps : List Position) → length ps ≤ 1 → All (IsPosition d) ps → (if is_nowhere (only_point d ps) then [] else only_point d ps ∷ []) ≡ ps
single_points d [] few is = rw (empty_is_nowhere d) refl
single_points d (p ∷ []) few is = rw (somewhere p (All-head (IsPosition d) p [] is).finite_x) refl
single_points d (p ∷ q ∷ rest) few is = absurd (omega arith)

-- no points have no ordinates
no_lists : (z m : Bool) → lists_of (record { z = z; m = m }) [] ≡ no_ordinates
no_lists true true = refl
no_lists true false = refl
no_lists false true = refl
no_lists false false = refl

-- a shape with parts alone
pointless : (d : Dimension) (ps : List Position) (rings : List (ℕ × ℕ)) (members : Values) (kind : ℕ) → ps ≡ [] → rings ≡ []
    → shape kind [] [] no_ordinates (shapes_in members) ≡ shape kind (map (λ p. (p.x, p.y)) ps) rings (lists_of d ps) (shapes_in members)
pointless d ps rings members kind no_points no_rings =
    ap (λ lists. shape kind [] [] lists (shapes_in members)) (sym (no_lists d.z d.m))
    ∙ ap₂ (λ qs rs. shape kind (map (λ p. (p.x, p.y)) qs) rs (lists_of d qs) (shapes_in members)) (sym no_points) (sym no_rings)

-- what a shape of this kind with these points, rings and members is: the parts that the kind has not are not there
pub record Shows (d : Dimension) (ps : List Position) (rings : List (ℕ × ℕ)) (members : Values) (kind : ℕ) : Type 0 where
  pub single : kind ≡ 1 → length ps ≤ 1
  pub chained : has_rings kind ≡ true → AreChained 0 (length ps) rings
  pub no_points : has_points kind ≡ false → ps ≡ []
  pub no_rings : has_rings kind ≡ false → rings ≡ []
  pub no_parts : has_parts kind ≡ false → shapes_in members ≡ none

pub shape_by : (dialect : Dialect) (d : Dimension) (ps : List Position) (rings : List (ℕ × ℕ)) (members : Values) (kind : ℕ) → IsTrue (is_kind kind) → All (IsPosition d) ps → Shows d ps rings members kind
    → shape_of_body d (body_by dialect d kind ps rings members) ≡ shape kind (map (λ p. (p.x, p.y)) ps) rings (lists_of d ps) (shapes_in members)
shape_by dialect d ps rings members kind is positioned shows =
    let Whole : ℕ → Type 0 = λ k. shape_of_body d (body_by dialect d k ps rings members) ≡ shape k (map (λ p. (p.x, p.y)) ps) rings (lists_of d ps) (shapes_in members) in
    by_kind (λ k. Shows d ps rings members k → Whole k)
    (λ s. ap₂ (λ qs rs. shape_of_points 1 d qs rs) (single_points d ps (s.single refl) positioned) (sym (s.no_rings refl)) ∙ ap (shape 1 (map (λ p. (p.x, p.y)) ps) rings (lists_of d ps)) (sym (s.no_parts refl)))
    (λ s. ap (λ rs. shape_of_points 2 d ps rs) (sym (s.no_rings refl)) ∙ ap (shape 2 (map (λ p. (p.x, p.y)) ps) rings (lists_of d ps)) (sym (s.no_parts refl)))
    (λ s. ap₂ (λ qs rs. shape_of_points 3 d qs rs) (joined_whole ps rings (s.chained refl)) (rings_back ps 0 (length ps) rings (s.chained refl) (omega arith))
    ∙ ap (shape 3 (map (λ p. (p.x, p.y)) ps) rings (lists_of d ps)) (sym (s.no_parts refl)))
    (λ s. ap₂ (λ qs rs. shape_of_points 4 d qs rs) (points_of_each dialect d ps) (sym (s.no_rings refl)) ∙ ap (shape 4 (map (λ p. (p.x, p.y)) ps) rings (lists_of d ps)) (sym (s.no_parts refl)))
    (λ s. ap (λ lines. shape_of_points 5 d (joined lines) (rings_along 0 lines)) (lines_of_each dialect d (map (ring_in ps) rings))
    ∙ ap₂ (λ qs rs. shape_of_points 5 d qs rs) (joined_whole ps rings (s.chained refl)) (rings_back ps 0 (length ps) rings (s.chained refl) (omega arith))
    ∙ ap (shape 5 (map (λ p. (p.x, p.y)) ps) rings (lists_of d ps)) (sym (s.no_parts refl)))
    (λ s. pointless d ps rings members 6 (s.no_points refl) (s.no_rings refl))
    (λ s. pointless d ps rings members 7 (s.no_points refl) (s.no_rings refl))
    kind is shows
