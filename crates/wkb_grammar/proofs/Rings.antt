-- The points of rings that follow one another.
use Rattle.std.proofs.Common.{◌≡◌, ℕ, ◌+◌, ◌-◌, ◌≤◌, List, [], ◌∷◌, ◌++◌, length, map, take, drop, refl, sym, ap, ap₂, ◌∙◌, append_assoc, append-nil, arith}
use Rattle.std.proofs.lemmas.List.{drop_all, drop-drop, drop-map, length-drop, length-take, take-append-drop, take-map}
use Rattle.std.proofs.lemmas.List.Elements.{All-take, All-drop}
use Rattle.std.specs.List.{AllByRecursion}
use Rattle.owned_shape.specs.Records.{AreChained}
use Rattle.owned_shape.proofs.Chains.{within_last}
use Rattle.wkb_writer.specs.declared.dimension.Dimension.{Dimension}
use Rattle.wkb_writer.specs.Wkb.{ring_of}
use Rattle.wkb_grammar.specs.Grammar.{Position, ordinates_of, IsPosition, IsLine}
use Rattle.wkb_grammar.specs.ShapesShown.{rings_along, joined}

-- the positions of a ring
abbrev pub ring_in : List Position → ℕ × ℕ → List Position
ring_in ps ring = take (ring.1 - ring.0) (drop ring.0 ps)

pub ring_rows : (ps : List Position) (ring : ℕ × ℕ) → ring_of (map ordinates_of ps) ring ≡ map ordinates_of (ring_in ps ring)
ring_rows ps ring =
    ap (take (ring.1 - ring.0)) (drop-map ordinates_of ring.0 ps) ∙ take-map ordinates_of (ring.1 - ring.0) (drop ring.0 ps)

length-ring_in : (ps : List Position) (ring : ℕ × ℕ) → ring.1 ≤ length ps → length (ring_in ps ring) ≡ ring.1 - ring.0
length-ring_in ps ring inside =
    omega (arith, length-take (ring.1 - ring.0) (drop ring.0 ps), length-drop ring.0 ps)

-- the points of all the rings from this point on
joined_to : (ps : List Position) (first last : ℕ) (rings : List (ℕ × ℕ)) → AreChained first last rings → joined (map (ring_in ps) rings) ++ drop last ps ≡ drop first ps
joined_to ps first last [] chained = ap (λ n. drop n ps) (sym chained)
joined_to ps first last (ring ∷ rest) chained =
    let behind = joined_to ps ring.1 last rest chained.2 in
    let far : ring.0 + (ring.1 - ring.0) ≡ ring.1 = omega (arith, chained.0, chained.1) in
    append_assoc (ring_in ps ring) (joined (map (ring_in ps) rest)) (drop last ps)
    ∙ ap (λ l. ring_in ps ring ++ l) (behind ∙ sym (drop-drop (ring.1 - ring.0) ring.0 ps ∙ ap (λ n. drop n ps) far))
    ∙ take-append-drop (ring.1 - ring.0) (drop ring.0 ps)
    ∙ ap (λ n. drop n ps) chained.0

pub joined_whole : (ps : List Position) (rings : List (ℕ × ℕ)) → AreChained 0 (length ps) rings → joined (map (ring_in ps) rings) ≡ ps
joined_whole ps rings chained =
    sym (append-nil (joined (map (ring_in ps) rings)))
    ∙ ap (λ l. joined (map (ring_in ps) rings) ++ l) (sym (drop_all (length ps) ps (omega arith)))
    ∙ joined_to ps 0 (length ps) rings chained

pub rings_back : (ps : List Position) (first last : ℕ) (rings : List (ℕ × ℕ)) → AreChained first last rings → last ≤ length ps → rings_along first (map (ring_in ps) rings) ≡ rings
rings_back ps first last [] chained inside = refl
rings_back ps first last (ring ∷ rest) chained inside =
    let long = length-ring_in ps ring (omega (arith, within_last ring.1 last rest chained.2)) in
    let end : first + length (ring_in ps ring) ≡ ring.1 = omega (arith, long, chained.0, chained.1) in
    ap₂ (λ a b. (a, b) ∷ rings_along b (map (ring_in ps) rest)) (sym chained.0) end
    ∙ ap (λ l. ring ∷ l) (rings_back ps ring.1 last rest chained.2 inside)

-- the points of a line are no more than those of the shape
pub ring_is_line : (d : Dimension) (ps : List Position) (ring : ℕ × ℕ) → IsLine d ps → IsLine d (ring_in ps ring)
ring_is_line d ps ring is = (
  All-take (IsPosition d) (ring.1 - ring.0) (drop ring.0 ps) (All-drop (IsPosition d) ring.0 ps is.0),
  omega (arith, is.1, length-take (ring.1 - ring.0) (drop ring.0 ps), length-drop ring.0 ps),
)

pub rings_are_lines : (d : Dimension) (ps : List Position) (rings : List (ℕ × ℕ)) → IsLine d ps → AllByRecursion (IsLine d) (map (ring_in ps) rings)
rings_are_lines d ps [] is = tt
rings_are_lines d ps (ring ∷ rest) is = (ring_is_line d ps ring is, rings_are_lines d ps rest is)
