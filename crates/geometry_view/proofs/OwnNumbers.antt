-- What the getters of a geometry read of its lists: points, rings and parts, one by one.
use Rattle.std.proofs.Common.{◌≡◌, ◌≢◌, inl, inr, ℕ, zero, suc, ◌+◌, ◌-◌, ◌*◌, ◌/◌, ◌<◌, Bool, true, false, List, [], ◌∷◌, length, Option, Some, None, refl, ap, sym, subst, ◌∙◌, arith}
use Rattle.std.specs.Prelude.{slice_get, slice_index, if◌then◌else◌}
use Rattle.std.specs.Option.{ForSome, MatchOption}
use Rattle.std.proofs.lemmas.List.{nil_from_length}
use Rattle.std.proofs.lemmas.Bool.{cases_eq}
use Rattle.std.proofs.lemmas.Bool.Decides.{eqb_tells}
use Rattle.std.proofs.lemmas.List.FromFn.{length-map-range_with_len}
use Rattle.flat_layout.specs.Layout.{count, entry_place, longs, target, words}
use Rattle.flat_layout.proofs.Numbers.{length-longs, length-words}
use Rattle.flat_views.specs.declared.vectors.VecView.{VecView}
use Rattle.flat_views.specs.declared.vectors.TableVec.{TableVec}
use Rattle.flat_views.specs.Vectors.{longs_shown, words_shown, vector_bytes, vector_place, vector_width}
use Rattle.flat_views.specs.TableVecs.{tables_bytes, tables_place}
use Rattle.fgb_schema.specs.Shapes.{Shape, Ordinates, pairs_of, rings_from, rings_of, shape_at}
use Rattle.fgb_schema.proofs.CleanEntries.{made_at}
use Rattle.geometry_view.specs.declared.kind.Ordinate.{Ordinate}
use Rattle.geometry_view.specs.Views.{listed, parts_shown}

-- half as many points as numbers, each from two of them
pub length-pairs : (xs : List ℕ) → length (pairs_of xs) ≡ length xs / 2
length-pairs [] = refl
length-pairs (x ∷ []) = refl
length-pairs (x ∷ y ∷ rest) = omega (arith, length-pairs rest)

pub pairs_at : (xs : List ℕ) (i : ℕ) → i < length (pairs_of xs) → slice_get (pairs_of xs) i ≡ Some (slice_index xs (2 * i), slice_index xs (2 * i + 1))
pairs_at [] i early = absurd (omega (arith, early))
pairs_at (x ∷ []) i early = absurd (omega (arith, early))
pairs_at (x ∷ y ∷ rest) zero early = refl
pairs_at (x ∷ y ∷ rest) (suc i) early =
    let e : 2 * suc i ≡ suc (suc (2 * i)) = omega arith in
    let f : 2 * suc i + 1 ≡ suc (suc (2 * i + 1)) = omega arith in
    pairs_at rest i (omega (arith, early)) ∙ ap (λ k. Some (slice_index (x ∷ y ∷ rest) k, slice_index (x ∷ y ∷ rest) (suc (suc (2 * i + 1))))) (sym e)
    ∙ ap (λ k. Some (slice_index (x ∷ y ∷ rest) (2 * suc i), slice_index (x ∷ y ∷ rest) k)) (sym f)

-- a ring begins where the one before ends
pub length-rings_from : (first : ℕ) (ends : List ℕ) → length (rings_from first ends) ≡ length ends
length-rings_from first [] = refl
length-rings_from first (end ∷ rest) = ap (λ n. suc n) (length-rings_from end rest)

pub rings_from_first : (first : ℕ) (ends : List ℕ) → 0 < length ends → slice_get (rings_from first ends) 0 ≡ Some (first, slice_index ends 0)
rings_from_first first [] early = absurd (omega (arith, early))
rings_from_first first (end ∷ rest) early = refl

pub rings_from_later : (first : ℕ) (ends : List ℕ) (i : ℕ) → suc i < length ends → slice_get (rings_from first ends) (suc i) ≡ Some (slice_index ends i, slice_index ends (suc i))
rings_from_later first [] i early = absurd (omega (arith, early))
rings_from_later first (end ∷ rest) zero early = rings_from_first end rest (omega (arith, early))
rings_from_later first (end ∷ rest) (suc i) early = rings_from_later end rest i (omega (arith, early))

-- the points of a vector: how many, and each
module _ (v : VecView) where
  abbrev pub pairs_in : List (ℕ × ℕ)
  pairs_in = pairs_of (longs (vector_bytes v) (vector_place v))

  pub pairs_count : length pairs_in ≡ count (vector_bytes v) (vector_place v) / 2
  pairs_count = length-pairs (longs (vector_bytes v) (vector_place v)) ∙ ap (λ n. n / 2) (length-longs (vector_bytes v) (vector_place v))

  -- both numbers of a point are in the vector
  pub pair_early : (i : ℕ) → i < length pairs_in → 2 * i + 1 < count (vector_bytes v) (vector_place v)
  pair_early i early = omega (arith, early, pairs_count)

-- the shapes of a list: how many, and each
module _ (levels outer : ℕ) (tables : TableVec) where
  abbrev pub part_shown : ℕ → Shape
  part_shown i = shape_at levels outer (tables_bytes tables) (target (tables_bytes tables) (entry_place (tables_bytes tables) (tables_place tables) i))

  pub parts_count : length (parts_shown levels outer (Some tables)) ≡ count (tables_bytes tables) (tables_place tables)
  parts_count = length-map-range_with_len part_shown 0 (count (tables_bytes tables) (tables_place tables))

  pub part_some : (i : ℕ) → i < count (tables_bytes tables) (tables_place tables) → slice_get (parts_shown levels outer (Some tables)) i ≡ Some (part_shown i)
  part_some i early = made_at part_shown (count (tables_bytes tables) (tables_place tables)) i early

-- the ends that are given, or one ring of all points
pub record IsGiven (list : Option VecView) (v : VecView) : Type 0 where
  pub is : list ≡ Some v
  pub some : 0 < count (vector_bytes v) (vector_place v)

filled_words : (list : Option VecView) (v : VecView) → IsGiven list v → 0 < length (words_shown list)
filled_words list v given = subst (λ o. 0 < length (words_shown o)) (sym given.is) (omega (arith, given.some, length-words (vector_bytes v) (vector_place v)))

rings_filled : (ends : List ℕ) (points : ℕ) → 0 < length ends → rings_of ends points ≡ rings_from 0 ends
rings_filled [] points some = absurd (omega (arith, some))
rings_filled (end ∷ rest) points some = refl

pub rings_given : (list : Option VecView) (v : VecView) (points : ℕ) → IsGiven list v → length (rings_of (words_shown list) points) ≡ count (vector_bytes v) (vector_place v)
rings_given list v points given =
    ap length (rings_filled (words_shown list) points (filled_words list v given)) ∙ length-rings_from 0 (words_shown list) ∙ ap (λ o. length (words_shown o)) given.is
    ∙ length-words (vector_bytes v) (vector_place v)

pub ring_first : (list : Option VecView) (v : VecView) (points : ℕ) → IsGiven list v → slice_get (rings_of (words_shown list) points) 0 ≡ Some (0, slice_index (words (vector_bytes v) (vector_place v)) 0)
ring_first list v points given =
    ap (λ rs. slice_get rs 0) (rings_filled (words_shown list) points (filled_words list v given)) ∙ rings_from_first 0 (words_shown list) (filled_words list v given)
    ∙ ap (λ o. Some (0, slice_index (words_shown o) 0)) given.is

pub ring_later : (list : Option VecView) (v : VecView) (points i : ℕ) → IsGiven list v → 0 < i → i < count (vector_bytes v) (vector_place v)
    → slice_get (rings_of (words_shown list) points) i ≡ Some (slice_index (words (vector_bytes v) (vector_place v)) (i - 1), slice_index (words (vector_bytes v) (vector_place v)) i)
ring_later list v points zero given later early = absurd (omega (arith, later))
ring_later list v points (suc i) given later early =
    let size = length-words (vector_bytes v) (vector_place v) in
    let e : i ≡ suc i - 1 = omega arith in
    ap (λ rs. slice_get rs (suc i)) (rings_filled (words_shown list) points (filled_words list v given))
    ∙ ap (λ o. slice_get (rings_from 0 (words_shown o)) (suc i)) given.is
    ∙ rings_from_later 0 (words (vector_bytes v) (vector_place v)) i (omega (arith, early, size))
    ∙ ap (λ k. Some (slice_index (words (vector_bytes v) (vector_place v)) k, slice_index (words (vector_bytes v) (vector_place v)) (suc i))) e

-- no ends are given
abbrev pub IsEmpty : Option VecView → Type 0
IsEmpty list = ForSome list (λ v. count (vector_bytes v) (vector_place v) ≡ 0)

pub words_empty : (list : Option VecView) → IsEmpty list → words_shown list ≡ []
words_empty None empty = refl
words_empty (Some v) empty = nil_from_length (words (vector_bytes v) (vector_place v)) (length-words (vector_bytes v) (vector_place v) ∙ empty v refl)

pub longs_empty : (list : Option VecView) → IsEmpty list → longs_shown list ≡ []
longs_empty None empty = refl
longs_empty (Some v) empty = nil_from_length (longs (vector_bytes v) (vector_place v)) (length-longs (vector_bytes v) (vector_place v) ∙ empty v refl)

pub rings_none : (list : Option VecView) (points : ℕ) → IsEmpty list → points ≡ 0 → rings_of (words_shown list) points ≡ []
rings_none list points empty zero_points = ap (λ ends. rings_of ends points) (words_empty list empty) ∙ ap (λ n. rings_of [] n) zero_points

pub rings_one : (list : Option VecView) (points : ℕ) → IsEmpty list → 0 < points → rings_of (words_shown list) points ≡ (0, points) ∷ []
rings_one list points empty some = ap (λ ends. rings_of ends points) (words_empty list empty) ∙ (elim (eqb_tells points 0) [
  | inl is ↦ absurd (omega (arith, is.1, some))
  | inr not ↦ rw not.0 refl
])

-- the rings of a type that has rings
abbrev pub rings_if : Bool → Option VecView → ℕ → List (ℕ × ℕ)
rings_if has list points = if has then rings_of (words_shown list) points else []

pub ring_of_all : (has : Bool) (list : Option VecView) (points i : ℕ) → IsEmpty list → i < length (rings_if has list points) → slice_get (rings_if has list points) i ≡ Some (0, points)
ring_of_all false list points i empty early = absurd (omega (arith, early))
ring_of_all true list points i empty early = elim (cases_eq points 0) [
  | inl nothing ↦ let e : length (rings_of (words_shown list) points) ≡ 0 = ap length (rings_none list points empty nothing) in absurd (omega (arith, early, e))
  | inr several ↦
      let one = rings_one list points empty (omega (arith, several)) in
      let e : length (rings_of (words_shown list) points) ≡ 1 = ap length one in
      let first : i ≡ 0 = omega (arith, early, e) in
      ap (λ k. slice_get (rings_of (words_shown list) points) k) first ∙ ap (λ rs. slice_get rs 0) one
]

pub ring_early : (has : Bool) (list : Option VecView) (v : VecView) (points i : ℕ) → IsGiven list v → i < length (rings_if has list points) → i < count (vector_bytes v) (vector_place v)
ring_early false list v points i given early = absurd (omega (arith, early))
ring_early true list v points i given early = omega (arith, early, rings_given list v points given)

-- where a ring begins
pub data Begins (numbers : List ℕ) (i first : ℕ) : Type 0 where
  at_zero : i ≡ 0 → first ≡ 0 → Begins numbers i first
  at_end : 0 < i → first ≡ slice_index numbers (i - 1) → Begins numbers i first

pub ring_of_given : (has : Bool) (list : Option VecView) (v : VecView) (points i first end : ℕ) → IsGiven list v → i < length (rings_if has list points)
    → Begins (words (vector_bytes v) (vector_place v)) i first → end ≡ slice_index (words (vector_bytes v) (vector_place v)) i → slice_get (rings_if has list points) i ≡ Some (first, end)
ring_of_given false list v points i first end given early begins ends = absurd (omega (arith, early))
ring_of_given true list v points i first end given early (at_zero zero_i zero_first) ends =
    ap (λ k. slice_get (rings_of (words_shown list) points) k) zero_i ∙ ring_first list v points given
    ∙ ap (λ k. Some (k, slice_index (words (vector_bytes v) (vector_place v)) 0)) (sym zero_first)
    ∙ ap (λ k. Some (first, slice_index (words (vector_bytes v) (vector_place v)) k)) (sym zero_i) ∙ ap (λ k. Some (first, k)) (sym ends)
ring_of_given true list v points i first end given early (at_end later begins) ends =
    ring_later list v points i given later (ring_early true list v points i given early)
    ∙ ap (λ k. Some (k, slice_index (words (vector_bytes v) (vector_place v)) i)) (sym begins) ∙ ap (λ k. Some (first, k)) (sym ends)

-- how many there are
pub rings_not : (has : Bool) (list : Option VecView) (points : ℕ) → has ≡ false → 0 ≡ length (rings_if has list points)
rings_not has list points no_rings = rw no_rings refl

pub rings_many : (has : Bool) (list : Option VecView) (v : VecView) (points : ℕ) → has ≡ true → IsGiven list v → count (vector_bytes v) (vector_place v) ≡ length (rings_if has list points)
rings_many has list v points rings given = rw rings (sym (rings_given list v points given))

pub rings_all : (has : Bool) (list : Option VecView) (points : ℕ) → has ≡ true → IsEmpty list → 0 < points → 1 ≡ length (rings_if has list points)
rings_all has list points rings empty some = rw rings (sym (ap length (rings_one list points empty some)))

pub rings_never : (has : Bool) (list : Option VecView) (points : ℕ) → has ≡ true → IsEmpty list → points ≡ 0 → 0 ≡ length (rings_if has list points)
rings_never has list points rings empty nothing = rw rings (sym (ap length (rings_none list points empty nothing)))

-- one of the lists of ordinates, if it has elements
pub filled_ordinate : (which : Ordinate) (lists : Ordinates) (list result : Option VecView) → listed which lists ≡ longs_shown list
    → MatchOption result (IsEmpty list) (λ v. (list ≡ Some v) × (0 < count (vector_bytes v) (vector_place v))) → ForSome list (λ v. vector_width v ≡ 8)
    → MatchOption result (listed which lists ≡ []) (λ v. (longs_shown result ≡ listed which lists) × (listed which lists ≢ []) × (vector_width v ≡ 8))
filled_ordinate which lists list None same given wide = same ∙ longs_empty list given
filled_ordinate which lists list (Some v) same given wide = (
  sym (ap longs_shown given.0) ∙ sym same,
  λ (nothing : listed which lists ≡ []).
      let size = length-longs (vector_bytes v) (vector_place v) in
      let zero_long : length (longs (vector_bytes v) (vector_place v)) ≡ 0 = ap length (sym (ap longs_shown given.0) ∙ sym same ∙ nothing) in
      omega (arith, given.1),
  wide v given.0,
)
