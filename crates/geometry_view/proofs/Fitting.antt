-- What the vectors of a geometry break beyond the layout: of a vector that is there, and of the geometry.
use Rattle.std.proofs.Common.{◌≡◌, ◌⊎◌, inl, inr, ⊎_elim, ℕ, ◌+◌, ◌-◌, ◌*◌, ◌%◌, ◌<◌, ◌≤◌, ◌==◌, Bool, true, false, List, slice_index, Result, Ok, Err, refl, sym, subst, ◌∙◌, arith}
use Rattle.std.specs.Prelude.{IsTrue}
use Rattle.std.specs.List.{All}
use Rattle.std.proofs.lemmas.Bool.{cases_Bool, cases_eq, true≢false}
use Rattle.std.proofs.lemmas.Bool.Decides.{nat_tests}
use Rattle.std.proofs.lemmas.List.Elements.{All-from_get_or}
use Rattle.flat_layout.specs.declared.Rule.{Rule}
use Rattle.flat_layout.specs.declared.Rule.TheVariants.{PointCount, NotFinite, Ends}
use Rattle.flat_layout.specs.Layout.{is_absent, led_to, count, longs, words}
use Rattle.flat_layout.specs.declared.Broken.{Broken}
use Rattle.flat_layout.specs.Promises.{IsClean, Judges}
use Rattle.flat_layout.proofs.Judging.{names-weaker}
use Rattle.flat_layout.proofs.Numbers.{length-longs, length-words}
use Rattle.order_keys.specs.Keys.{is_finite}
use Rattle.fgb_schema.specs.Tables.{has_points, has_rings}
use Rattle.fgb_schema.specs.Paths.{BreaksPairs, odd, several, infinite, Descends, BreaksEnds, descending, wrong_end, BreaksOrdinates, IsAmong, count_in, point_count}
use Rattle.geometry_view.specs.Fits.{BreaksFinite, BreaksRings, falls, ends_wrong, BreaksCount}
use Rattle.geometry_view.specs.Lists.{BreaksVectors, BreaksFit, pairs, ends, ordinates}
use Rattle.geometry_view.proofs.VectorFields.{count_there, point_vectors, ring_clean, point_clean, listed}

module _ (b : List ℕ) (v : ℕ) where
  -- the patterns of a vector of points
  abbrev pub EachFinite : Type 0
  EachFinite = All (λ x. IsTrue (is_finite x)) (longs b v)

  pub infinite_at : (base i at : ℕ) → i < count b v → is_finite (slice_index (longs b v) i) ≡ false → at ≡ base + v + 4 + 8 * i
      → (q : ℕ) × (at ≡ base + q) × BreaksFinite b v q NotFinite
  infinite_at base i at early wrong place = (v + 4 + 8 * i, omega (arith, place), (i, early, record { infinite = wrong; place = refl; rule = refl }))

  pub finite_clean : ((i : ℕ) → i < count b v → is_finite (slice_index (longs b v) i) ≡ true) → EachFinite × IsClean (BreaksFinite b v)
  finite_clean each = (
    All-from_get_or (λ x. IsTrue (is_finite x)) (longs b v) 0 (λ i early. each i (omega (arith, early, length-longs b v))),
    λ q r broken. let e : true ≡ false = sym (each broken.0 broken.1) ∙ broken.2.infinite in true≢false e,
  )

  pairs_finite : (k q : ℕ) (r : Rule) → BreaksFinite b v q r → BreaksPairs k b v q r
  pairs_finite k q r broken = infinite broken.0 broken.1 broken.2

  pub pairs_several : (k : ℕ) → (k == 1) ≡ true → 2 < count b v → (count b v % 2 ≡ 1 → ⊥) → BreaksPairs k b v v PointCount
  pairs_several k is more even = let e : k ≡ 1 = grind (arith, nat_tests) in several e (omega (arith, more, even))

  pairs_clean : (k : ℕ) → (count b v % 2 ≡ 1 → ⊥) → ((k == 1) ≡ false ⊎ count b v ≤ 2) → IsClean (BreaksFinite b v) → IsClean (BreaksPairs k b v)
  pairs_clean k even few finite q r (odd is) = even is
  pairs_clean k even few finite q r (several is more) = ⊎_elim
      (λ other. let e : (k == 1) ≡ true = grind (arith, nat_tests) in let w : true ≡ false = sym e ∙ other in true≢false w)
      (λ two. omega (arith, two, more))
      few
  pairs_clean k even few finite q r (infinite i early broken) = finite q r (i, early, broken)

  pub judge_finite : (base k : ℕ) (r : Result (Unit {0}) Broken) → (count b v % 2 ≡ 1 → ⊥) → ((k == 1) ≡ false ⊎ count b v ≤ 2)
      → Judges base (BreaksFinite b v) (λ _. EachFinite) r → Judges base (BreaksPairs k b v) (λ _. EachFinite) r
  judge_finite base k (Ok u) even few judged = (judged.0, pairs_clean k even few judged.1)
  judge_finite base k (Err e) even few judged = names-weaker base (BreaksFinite b v) (BreaksPairs k b v) e (pairs_finite k) judged

  -- the ends of the rings
  pub descends_at : (i last end : ℕ) → i < count b v → (i ≡ 0 → last ≡ 0) → (0 < i → last ≡ slice_index (words b v) (i - 1)) → end ≡ slice_index (words b v) i → end < last → Descends (words b v)
  descends_at i last end early first before here less =
      let some : 0 < i = ⊎_elim (λ none. let z = first none in absurd (omega (arith, less, z))) (λ some. omega (arith, some)) (cases_eq i 0) in
      let next : (i - 1) + 1 ≡ i = omega (arith, some) in record {
        index = i - 1;
        early = omega (arith, early, some, length-words b v);
        below = subst (λ j. slice_index (words b v) j < slice_index (words b v) (i - 1)) (sym next) (omega (arith, before some, here, less));
      }

  -- i: where the loop has come to, which is the end
  pub ends_elsewhere : (points i last : ℕ) → i ≡ count b v → 0 < count b v → (0 < i → last ≡ slice_index (words b v) (i - 1)) → (last ≡ points → ⊥) → BreaksRings points b v v Ends
  ends_elsewhere points i last whole some here other =
      let at : last ≡ slice_index (words b v) (count b v - 1) = subst (λ n. last ≡ slice_index (words b v) (n - 1)) whole (here (omega (arith, whole, some))) in
      ends_wrong some (λ e. other (at ∙ e))

  pub rings_clean : (points i last : ℕ) → i ≡ count b v → ((k : ℕ) → k + 1 < i → slice_index (words b v) k ≤ slice_index (words b v) (k + 1))
      → (0 < i → last ≡ slice_index (words b v) (i - 1)) → (0 < count b v → last ≡ points) → IsClean (BreaksRings points b v)
  rings_clean points i last whole up here right q r (falls down) =
      omega (arith, up down.index (omega (arith, whole, down.early, length-words b v)), down.below)
  rings_clean points i last whole up here right q r (ends_wrong some other) =
      let at : last ≡ slice_index (words b v) (count b v - 1) = subst (λ n. last ≡ slice_index (words b v) (n - 1)) whole (here (omega (arith, whole, some))) in
      other (sym at ∙ right some)

-- types with rings have points
pub rings_points : (k : ℕ) → has_rings k ≡ true → has_points k ≡ true
rings_points k rings = grind (arith, nat_tests)

-- beside the layout, of the geometry at t, for which type k holds and whose vectors are clean
module _ (k points : ℕ) (b : List ℕ) (t : ℕ) where
  -- what is broken of a vector that is read and is there
  abbrev pub BreaksThere : Bool → (List ℕ → ℕ → ℕ → Rule → Type 0) → ℕ → ℕ → Rule → Type 0
  BreaksThere is_read Breaks f q r = (is_read ≡ true) × (is_absent b t f ≡ false) × Breaks b (led_to b t f) q r

  -- this is the number of points
  abbrev pub IsPoints : Type 0
  IsPoints = has_points k ≡ true → points ≡ point_count b t

  there_or_none : (f : ℕ) → 0 < count_in b t f → is_absent b t f ≡ false
  there_or_none f some = elim (cases_Bool (is_absent b t f)) [
    | inl absent ↦ let none : count_in b t f ≡ 0 = rw absent refl in absurd (omega (arith, some, none))
    | inr present ↦ present
  ]

  module _ (clean : IsClean (BreaksVectors k b t)) where
    pub pairs_broken : (q : ℕ) (r : Rule) → BreaksThere (has_points k) (BreaksPairs k) 1 q r → BreaksFit k b t q r
    pairs_broken q r broken = pairs broken.0 broken.1 (listed 8 b t 1 (point_clean k b t clean broken.0 (1, 8) (inl refl))) broken.2

    ends_of : has_rings k ≡ true → points ≡ point_count b t → (q : ℕ) (r : Rule) → is_absent b t 0 ≡ false → BreaksRings points b (led_to b t 0) q r → BreaksEnds b t q r
    ends_of rings same q r present (falls down) = descending (listed 4 b t 0 (ring_clean k b t clean rings)) down
    ends_of rings same q r present (ends_wrong some other) =
        wrong_end (listed 4 b t 0 (ring_clean k b t clean rings)) (listed 8 b t 1 (point_clean k b t clean (rings_points k rings) (1, 8) (inl refl))) some (λ e. other (e ∙ sym same))

    pub ends_broken : IsPoints → (q : ℕ) (r : Rule) → BreaksThere (has_rings k) (BreaksRings points) 0 q r → BreaksFit k b t q r
    ends_broken same q r broken = ends broken.0 broken.1 (ends_of broken.0 (same (rings_points k broken.0)) q r broken.1 broken.2)

    pub count_broken : IsPoints → (f : ℕ) → 2 ≤ f → f ≤ 5 → IsAmong (f, 8) point_vectors → (q : ℕ) (r : Rule) → BreaksThere (has_points k) (BreaksCount points) f q r → BreaksFit k b t q r
    count_broken same f low high among q r broken = ordinates f broken.0 low high (record {
      listed = listed 8 b t f (point_clean k b t clean broken.0 (f, 8) among);
      beside = listed 8 b t 1 (point_clean k b t clean broken.0 (1, 8) (inl refl));
      some = let e = count_there b t f broken.1 in omega (arith, e, broken.2.some);
      other = λ e. broken.2.other (sym (count_there b t f broken.1) ∙ e ∙ sym (same broken.0));
      place = broken.2.place;
      rule = broken.2.rule;
    })

  rings_of : has_rings k ≡ true → points ≡ point_count b t → (q : ℕ) (r : Rule) → BreaksEnds b t q r → BreaksRings points b (led_to b t 0) q r
  rings_of rings same q r (descending is_listed down) = falls down
  rings_of rings same q r (wrong_end is_listed beside some other) = ends_wrong some (λ e. other (e ∙ same))

  count_of : has_points k ≡ true → points ≡ point_count b t → (f q : ℕ) (r : Rule) → BreaksOrdinates b t f q r → BreaksThere (has_points k) (BreaksCount points) f q r
  count_of is same f q r broken =
      let present = there_or_none f broken.some in (
        is,
        present,
        record {
          some = let e = count_there b t f present in omega (arith, e, broken.some);
          other = λ e. broken.other (count_there b t f present ∙ e ∙ same);
          place = broken.place;
          rule = broken.rule;
        },
      )

  -- z, m, t or tm
  of_ordinates : (P : ℕ → Type 0) → P 2 → P 3 → P 4 → P 5 → (f : ℕ) → 2 ≤ f → f ≤ 5 → P f
  of_ordinates P z m t' tm f low high = elim (cases_eq f 2) [
    | inl e ↦ subst P (sym e) z
    | inr e2 ↦ elim (cases_eq f 3) [
      | inl e ↦ subst P (sym e) m
      | inr e3 ↦ elim (cases_eq f 4) [
        | inl e ↦ subst P (sym e) t'
        | inr e4 ↦ let e : f ≡ 5 = omega (arith, low, high, e2, e3, e4) in subst P (sym e) tm
      ]
    ]
  ]

  pub fit_clean : IsPoints → IsClean (BreaksThere (has_points k) (BreaksPairs k) 1) → IsClean (BreaksThere (has_rings k) (BreaksRings points) 0)
      → IsClean (BreaksThere (has_points k) (BreaksCount points) 2) → IsClean (BreaksThere (has_points k) (BreaksCount points) 3)
      → IsClean (BreaksThere (has_points k) (BreaksCount points) 4) → IsClean (BreaksThere (has_points k) (BreaksCount points) 5) → IsClean (BreaksFit k b t)
  fit_clean same xy rings z m t' tm q r (pairs is present is_listed broken) = xy q r (is, present, broken)
  fit_clean same xy rings z m t' tm q r (ends is present broken) = rings q r (is, present, rings_of is (same (rings_points k is)) q r broken)
  fit_clean same xy rings z m t' tm q r (ordinates f is low high broken) =
      of_ordinates (λ f. IsClean (BreaksThere (has_points k) (BreaksCount points) f)) z m t' tm f low high q r (count_of is (same is) f q r broken)
