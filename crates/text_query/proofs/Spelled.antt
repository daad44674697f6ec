-- The spelling of a shape is what it is written as.
use Rattle.std.proofs.Common.{◌≡◌, ◌≢◌, ◌⊎◌, inl, inr, ℕ, zero, suc, ◌<◌, not, nat_lt, ◌&&◌, ◌||◌, Bool, true, false, List, [], ◌∷◌, ◌++◌, length, get_or, Some, None, refl, ap, sym, subst, ◌∙◌, arith}
use Rattle.std.specs.List.{All, Any, list_all}
use Rattle.std.specs.Bool.{beq}
use Rattle.std.proofs.lemmas.Bool.{true≢false}
use Rattle.std.proofs.lemmas.Bool.Decides.{nat_tests}
use Rattle.std.proofs.lemmas.List.Elements.{All-weaker}
use Rattle.std.proofs.lemmas.List.Sums.{AllPass-from_list_all, list_all-from_AllPass}
use Rattle.fgb_schema.specs.Shapes.{Shape, shape, Shapes, none, more, points, points_of_all, points_in, ordinates_in}
use Rattle.wkb_writer.specs.Commons.{HasPoints}
use Rattle.wkb_writer.specs.declared.dimension.Dimension.{Dimension}
use Rattle.wkb_writer.specs.Dimensions.{Differ, Fits, HasNoWkb, IsTimed, dimension_of, flat, tree, trees}
use Rattle.wkb_writer.specs.Wkb.{IsWkb, value}
use Rattle.wkb_writer.proofs.Joins.{all_any, any_left, any_right, dimension_at, same_dimension}
use Rattle.text_query.specs.Spelling.{has_points, fits, first_dimension, dimension_in, spelling}

-- ## Tests

filled : {A : Type 0} (xs : List A) → nat_lt 0 (length xs) ≡ true → xs ≢ []
filled [] some = cc some
filled (x ∷ xs) some = λ e. cc e

above : (n : ℕ) → nat_lt 0 (suc n) ≡ true
above n = grind (arith, nat_tests)

not_filled : {A : Type 0} (xs : List A) → nat_lt 0 (length xs) ≡ false → xs ≡ []
not_filled [] empty = refl
not_filled (x ∷ xs) empty = absurd (true≢false (sym (above (length xs)) ∙ empty))

to_filled : {A : Type 0} (xs : List A) → xs ≢ [] → nat_lt 0 (length xs) ≡ true
to_filled [] some = absurd (some refl)
to_filled (x ∷ xs) some = above (length xs)

to_empty : {A : Type 0} (xs : List A) → xs ≡ [] → nat_lt 0 (length xs) ≡ false
to_empty xs empty = ap (λ l. nat_lt 0 (length l)) empty

beq_self : (a : Bool) → beq a a ≡ true
beq_self true = refl
beq_self false = refl

-- by whether there are times, whether there are points, and whether their z and m are the same
apart : (t tm some z m : Bool) → (not (t || tm) && (not some || (z && m))) ≡ true → (t ≡ false) × (tm ≡ false) × (some ≡ true → (z ≡ true) × (m ≡ true))
apart true tm some z m is = cc is
apart false true some z m is = cc is
apart false false false z m is = (refl, refl, λ no. cc no)
apart false false true true true is = (refl, refl, λ yes. (refl, refl))
apart false false true true false is = cc is
apart false false true false m is = cc is

together : (t tm some z m : Bool) → t ≡ false → tm ≡ false → (some ≡ true → (z ≡ true) × (m ≡ true)) → (not (t || tm) && (not some || (z && m))) ≡ true
together t tm true z m no_t no_tm same = let both = same refl in rw (no_t, no_tm, both.0, both.1) refl
together t tm false z m no_t no_tm same = rw (no_t, no_tm) refl

module _ (d : Dimension) (s : Shape) where
  fits_true : Fits d s → fits d s ≡ true
  unfolding fits
  fits_true is = together _ _ _ _ _ (to_empty (ordinates_in s).t is.no_t) (to_empty (ordinates_in s).tm is.no_tm) (λ some.
      let same = is.same (filled (points_in s) some) in
      (subst (λ e. beq (dimension_of s).z e.z ≡ true) same (beq_self (dimension_of s).z), subst (λ e. beq (dimension_of s).m e.m ≡ true) same (beq_self (dimension_of s).m)))

  true_fits : fits d s ≡ true → Fits d s
  unfolding fits
  true_fits is =
      let facts = apart (nat_lt 0 (length (ordinates_in s).t)) (nat_lt 0 (length (ordinates_in s).tm)) (has_points s) (beq (dimension_of s).z d.z) (beq (dimension_of s).m d.m) is in
      record {
        no_t = not_filled (ordinates_in s).t facts.0;
        no_tm = not_filled (ordinates_in s).tm facts.1;
        same = λ some. let both = facts.2 (to_filled (points_in s) some) in same_dimension (dimension_of s) d both.0 both.1;
      }

-- ## The dimension of the first shape with points

any_at : (s : Shape) (rest : List Shape) (k : ℕ) (x : Shape) → k < length (s ∷ rest) → get_or (s ∷ rest) k x ≡ x → HasPoints x → HasPoints s ⊎ Any HasPoints rest
any_at s rest zero x early at some = inl (subst HasPoints (sym at) some)
any_at s rest (suc k) x early at some = inr (k, x, omega arith, at, some)

abbrev IsFirst : List Shape → Type 0
IsFirst xs = ((first_dimension xs ≡ flat) × (Any HasPoints xs → ⊥)) ⊎ ((some : Any HasPoints xs) × (dimension_of some.1 ≡ first_dimension xs))

first_of : (xs : List Shape) → IsFirst xs
first_of [] = inl (refl, λ some. omega (arith, some.2))
first_of (s ∷ rest) = by (has_points s) refl (first_of rest)
  where
    by : (b : Bool) → has_points s ≡ b → IsFirst rest → IsFirst (s ∷ rest)
    by true is later = inr ((0, s, omega arith, refl, filled (points_in s) is), rw is refl)
    by false is later = elim later [
      | inl found ↦ inl (
        rw is found.0,
        λ some. elim (any_at s rest some.0 some.1 some.2 some.3 some.4) [
          | inl here ↦ here (not_filled (points_in s) is)
          | inr behind ↦ found.1 behind
        ],
      )
      | inr found ↦ let early = found.0.2 in inr ((suc found.0.0, found.0.1, omega (arith, early), found.0.3, found.0.4), rw is found.1)
    ]

-- no points, or a part with points
mutual
  some_points : (g : Shape) → (points g ≡ []) ⊎ Any HasPoints (tree g)
  some_points (shape kind (p ∷ own) rings lists parts) = inr (0, shape kind (p ∷ own) rings lists parts, omega arith, refl, λ gone. cc gone)
  some_points (shape kind [] rings lists parts) = elim (some_in_parts parts) [
    | inl gone ↦ inl gone
    | inr some ↦ inr (any_right HasPoints (shape kind [] rings lists parts ∷ []) (trees parts) some)
  ]

  some_in_parts : (parts : Shapes) → (points_of_all parts ≡ []) ⊎ Any HasPoints (trees parts)
  some_in_parts none = inl refl
  some_in_parts (more first rest) = elim (some_points first) [
    | inr some ↦ inr (any_left HasPoints (tree first) (trees rest) some)
    | inl gone ↦ elim (some_in_parts rest) [
      | inl others ↦ inl (ap (λ ps. ps ++ points_of_all rest) gone ∙ others)
      | inr some ↦ inr (any_right HasPoints (tree first) (trees rest) some)
    ]
  ]

-- ## The spelling

module _ (g : Shape) where
  -- the dimension of a shape that can be written is the first
  first_is : (d : Dimension) → All (Fits d) (tree g) → (points g ≡ [] → d ≡ flat) → first_dimension (tree g) ≡ d
  first_is d all pointless = elim (first_of (tree g)) [
    | inr found ↦ sym found.1 ∙ dimension_at d (tree g) all found.0
    | inl found ↦ elim (some_points g) [ inl gone ↦ found.0 ∙ sym (pointless gone) | inr some ↦ absurd (found.1 some) ]
  ]

  pub spelled : (bytes : List ℕ) → IsWkb g bytes → spelling g ≡ Some bytes
  unfolding spelling dimension_in
  spelled bytes is =
      let first : first_dimension (tree g) ≡ is.dimension = first_is is.dimension is.is.fits is.is.pointless in
      let all : list_all (fits (first_dimension (tree g))) (tree g) ≡ true = subst (λ d. list_all (fits d) (tree g) ≡ true) (sym first)
      (list_all-from_AllPass (fits is.dimension) (tree g) (All-weaker (Fits is.dimension) (λ s. fits is.dimension s ≡ true) (fits_true is.dimension) (tree g) is.is.fits)) in
      rw all (ap (λ d. Some (value d g)) first ∙ ap Some (sym is.spelled))

  -- all its parts fit no dimension
  none_fits : (d : Dimension) → All (Fits d) (tree g) → HasNoWkb g → ⊥
  none_fits d all refused = elim refused [
    | inl timed ↦
        let here = all_any (Fits d) IsTimed (tree g) all timed in
        elim timed.4 [ inl t ↦ t here.no_t | inr tm ↦ tm here.no_tm ]
    | inr two ↦
        let one = all_any (Fits d) (λ s. Any (Differ s) (tree g)) (tree g) all two in
        let other = all_any (Fits d) (Differ two.1) (tree g) all two.4 in
        let differ = two.4.4 in
        differ.apart (one.same differ.points ∙ sym (other.same differ.others))
  ]

  pub unspelled : HasNoWkb g → spelling g ≡ None
  unfolding spelling dimension_in
  unspelled refused = by (list_all (fits (first_dimension (tree g))) (tree g)) refl
    where
      by : (b : Bool) → list_all (fits (first_dimension (tree g))) (tree g) ≡ b → spelling g ≡ None
      by true is = absurd (none_fits (first_dimension (tree g))
          (All-weaker (λ s. fits (first_dimension (tree g)) s ≡ true) (Fits (first_dimension (tree g))) (true_fits (first_dimension (tree g))) (tree g)
          (AllPass-from_list_all (fits (first_dimension (tree g))) (tree g) is)) refused)
      by false is = rw is refl
