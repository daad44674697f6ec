-- Rings that follow one another are told by their ends, or by the points alone.
use Rattle.std.proofs.Common.{◌≡◌, ◌⊎◌, inl, inr, ⊎_elim, ℕ, zero, suc, ◌+◌, ◌-◌, ◌<◌, ◌≤◌, ◌==◌, false, List, [], ◌∷◌, length, map, refl, ap, ap₂, sym, subst, ◌∙◌, arith}
use Rattle.std.specs.Prelude.{slice_index}
use Rattle.std.specs.List.{AllByRecursion}
use Rattle.std.proofs.lemmas.Bool.{cases_Bool, ne_eqb}
use Rattle.std.proofs.lemmas.Bool.Decides.{eqb_tells}
use Rattle.fgb_schema.specs.Paths.{Descends}
use Rattle.fgb_schema.specs.Shapes.{rings_from, rings_of}
use Rattle.shape_tables.specs.Laying.{told_ends}
use Rattle.shape_tables.specs.Records.{AreChained}

abbrev ends_of : List (ℕ × ℕ) → List ℕ
ends_of rings = map (λ ring. ring.1) rings

rings_from-ends : (first last : ℕ) (rings : List (ℕ × ℕ)) → AreChained first last rings → rings_from first (ends_of rings) ≡ rings
rings_from-ends first last [] chained = refl
rings_from-ends first last (ring ∷ rest) chained =
    ap (λ n. (n, ring.1) ∷ rings_from ring.1 (ends_of rest)) (sym chained.0) ∙ ap (λ rs. ring ∷ rs) (rings_from-ends ring.1 last rest chained.2)

-- one ring: it is empty, or all points
one_ring : (points : ℕ) (ring : ℕ × ℕ) → AreChained 0 points (ring ∷ []) → rings_of (told_ends (ring ∷ [])) points ≡ ring ∷ []
one_ring points ring chained = elim (eqb_tells ring.0 ring.1) [
  | inl same ↦ rw same.0 (ap (λ n. (n, ring.1) ∷ []) (sym chained.0))
  | inr other ↦
      let some : (points == 0) ≡ false = ne_eqb points 0 (λ zero_points. other.1 (chained.0 ∙ sym zero_points ∙ sym chained.2)) in
      rw (other.0, some) (ap₂ (λ a b. (a, b) ∷ []) (sym chained.0) (sym chained.2))
]

pub rings_back : (points : ℕ) (rings : List (ℕ × ℕ)) → AreChained 0 points rings → rings_of (told_ends rings) points ≡ rings
rings_back points [] chained = subst (λ n. rings_of [] n ≡ []) chained refl
rings_back points (ring ∷ []) chained = one_ring points ring chained
rings_back points (ring ∷ next ∷ rest) chained = rings_from-ends 0 points (ring ∷ next ∷ rest) chained

-- ends that fit so many points
pub record AreEnds (points : ℕ) (ends : List ℕ) : Type 0 where
  pub ascend : Descends ends → ⊥
  pub last : 0 < length ends → slice_index ends (length ends - 1) ≡ points
  pub within : AllByRecursion (λ end. end ≤ points) ends

ascending : (first last : ℕ) (rings : List (ℕ × ℕ)) (i : ℕ) → AreChained first last rings → i + 1 < length (ends_of rings) → slice_index (ends_of rings) i ≤ slice_index (ends_of rings) (i + 1)
ascending first last [] i chained early = absurd (omega (arith, early))
ascending first last (ring ∷ []) i chained early = absurd (omega (arith, early))
ascending first last (ring ∷ next ∷ rest) zero chained early = chained.2.1
ascending first last (ring ∷ next ∷ rest) (suc i) chained early =
    let at : suc i + 1 ≡ suc (i + 1) = omega arith in
    subst (λ n. slice_index (ends_of (next ∷ rest)) i ≤ slice_index (ends_of (ring ∷ next ∷ rest)) n) (sym at) (ascending ring.1 last (next ∷ rest) i chained.2 (omega (arith, early)))

last_end : (first last : ℕ) (ring : ℕ × ℕ) (rest : List (ℕ × ℕ)) → AreChained first last (ring ∷ rest) → slice_index (ends_of (ring ∷ rest)) (length (ends_of rest)) ≡ last
last_end first last ring [] chained = chained.2
last_end first last ring (next ∷ rest) chained = last_end ring.1 last next rest chained.2

within_last : (first last : ℕ) (rings : List (ℕ × ℕ)) → AreChained first last rings → first ≤ last
within_last first last [] chained = omega (arith, chained)
within_last first last (ring ∷ rest) chained = omega (arith, chained.1, within_last ring.1 last rest chained.2)

each_within : (first last : ℕ) (rings : List (ℕ × ℕ)) → AreChained first last rings → AllByRecursion (λ end. end ≤ last) (ends_of rings)
each_within first last [] chained = tt
each_within first last (ring ∷ rest) chained = (within_last ring.1 last rest chained.2, each_within ring.1 last rest chained.2)

no_ends : (points : ℕ) → AreEnds points []
no_ends points = record {
  ascend = λ down. omega (arith, down.early);
  last = λ some. absurd (omega (arith, some));
  within = tt;
}

all_ends : (points : ℕ) (rings : List (ℕ × ℕ)) → AreChained 0 points rings → AreEnds points (ends_of rings)
all_ends points [] chained = no_ends points
all_ends points (ring ∷ rest) chained = record {
  ascend = λ down. omega (arith, down.below, ascending 0 points (ring ∷ rest) down.index chained down.early);
  last = λ some.
      let at : length (ends_of rest) ≡ length (ends_of (ring ∷ rest)) - 1 = omega arith in
      subst (λ n. slice_index (ends_of (ring ∷ rest)) n ≡ points) at (last_end 0 points ring rest chained);
  within = each_within 0 points (ring ∷ rest) chained;
}

none_or_all : (rings : List (ℕ × ℕ)) → (told_ends rings ≡ []) ⊎ (told_ends rings ≡ ends_of rings)
none_or_all [] = inl refl
none_or_all (ring ∷ []) = elim (cases_Bool (ring.0 == ring.1)) [
  | inl same ↦ inr (rw same refl)
  | inr other ↦ inl (rw other refl)
]
none_or_all (ring ∷ next ∷ rest) = inr refl

pub ends_fit : (points : ℕ) (rings : List (ℕ × ℕ)) → AreChained 0 points rings → AreEnds points (told_ends rings)
ends_fit points rings chained = ⊎_elim
    (λ none. subst (AreEnds points) (sym none) (no_ends points))
    (λ all. subst (AreEnds points) (sym all) (all_ends points rings chained))
    (none_or_all rings)
