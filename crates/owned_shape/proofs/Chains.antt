-- Rings that follow one another.
use Rattle.std.proofs.Common.{◌≡◌, ℕ, suc, ◌+◌, ◌<◌, ◌≤◌, List, [], ◌∷◌, ◌++◌, length, map, refl, ap, sym, subst, ◌∙◌, arith}
use Rattle.std.specs.Prelude.{slice_index}
use Rattle.fgb_schema.specs.Shapes.{rings_from}
use Rattle.owned_shape.specs.Records.{AreChained}

-- one ring more
pub chained-more : (first last end : ℕ) (rings : List (ℕ × ℕ)) → AreChained first last rings → last ≤ end → AreChained first end (rings ++ (last, end) ∷ [])
chained-more first last end [] chained later = (sym chained, omega (arith, chained, later), refl)
chained-more first last end (ring ∷ rest) chained later = (chained.0, chained.1, chained-more ring.1 last end rest chained.2 later)

pub rings_from-more : (first last end : ℕ) (ends : List ℕ) → AreChained first last (rings_from first ends) → rings_from first (ends ++ end ∷ []) ≡ rings_from first ends ++ (last, end) ∷ []
rings_from-more first last end [] chained = ap (λ n. (n, end) ∷ []) chained
rings_from-more first last end (e ∷ rest) chained = ap (λ rs. (first, e) ∷ rs) (rings_from-more e last end rest chained.2)

-- they are told by their ends
pub rings_from-ends : (first last : ℕ) (rings : List (ℕ × ℕ)) → AreChained first last rings → rings_from first (map (λ ring. ring.1) rings) ≡ rings
rings_from-ends first last [] chained = refl
rings_from-ends first last (ring ∷ rest) chained =
    ap (λ n. (n, ring.1) ∷ rings_from ring.1 (map (λ ring. ring.1) rest)) (sym chained.0) ∙ ap (λ rs. ring ∷ rs) (rings_from-ends ring.1 last rest chained.2)

-- and lie in front of the last point
pub within_last : (first last : ℕ) (rings : List (ℕ × ℕ)) → AreChained first last rings → first ≤ last
within_last first last [] chained = omega (arith, chained)
within_last first last (ring ∷ rest) chained = omega (arith, chained.1, within_last ring.1 last rest chained.2)

-- ends that do not descend
pub chained_ends : (first : ℕ) (end : ℕ) (rest : List ℕ) → first ≤ end → ((i : ℕ) → i + 1 < length (end ∷ rest) → slice_index (end ∷ rest) i ≤ slice_index (end ∷ rest) (i + 1))
    → AreChained first (slice_index (end ∷ rest) (length rest)) (rings_from first (end ∷ rest))
chained_ends first end [] begins up = (refl, begins, refl)
chained_ends first end (next ∷ rest) begins up =
    let more : (i : ℕ) → i + 1 < length (next ∷ rest) → slice_index (next ∷ rest) i ≤ slice_index (next ∷ rest) (i + 1) =
    λ i early. let at : suc i + 1 ≡ suc (i + 1) = omega arith in subst (λ n. slice_index (next ∷ rest) i ≤ slice_index (end ∷ next ∷ rest) n) at (up (suc i) (omega (arith, early))) in
    (refl, begins, chained_ends end next rest (up 0 (omega arith)) more)
