-- The first element of a list that passes a test, and the first pair of a number.
use Rattle.std.proofs.Common.{◌≡◌, ◌≢◌, ℕ, zero, suc, ◌+◌, ◌<◌, ◌≤◌, Bool, true, false, List, [], ◌∷◌, length, Option, Some, None, refl, ap, subst, ◌∙◌, arith, below_more}
use Rattle.std.specs.Prelude.{slice_get}
use Rattle.std.specs.List.{position, position_or_len}
use Rattle.std.proofs.lemmas.Bool.Decides.{nat_tests}
use Rattle.fgb_schema.specs.Properties.{Property}
use Rattle.fgb_where.specs.Holding.{first_pair}

module _ {X : Type 0} (p : X → Bool) where
  -- in front of the i-th none passes
  abbrev pub NoneBefore : List X → ℕ → Type 0
  NoneBefore xs i = (k : ℕ) → k < i → (x : X) → slice_get xs k ≡ Some x → p x ≡ false

  step : (x : X) (xs : List X) → p x ≡ false → position_or_len p (x ∷ xs) ≡ 1 + position_or_len p xs
  step x xs fails = rw fails refl

  none_after : (x : X) (xs : List X) (i : ℕ) → NoneBefore (x ∷ xs) (suc i) → NoneBefore xs i
  none_after x xs i none k early y at = none (suc k) (omega arith) y at

  -- nor in front of the next, where the i-th does not
  pub none_more : (xs : List X) (i : ℕ) (x : X) → NoneBefore xs i → slice_get xs i ≡ Some x → p x ≡ false → NoneBefore xs (i + 1)
  none_more xs i x none at fails =
      below_more (λ k. (y : X) → slice_get xs k ≡ Some y → p y ≡ false) i none (λ y there. let same : x ≡ y = cc in subst (λ z. p z ≡ false) same fails)

  place_at : (xs : List X) (i : ℕ) (x : X) → NoneBefore xs i → slice_get xs i ≡ Some x → p x ≡ true → (position_or_len p xs ≡ i) × (i < length xs)
  place_at [] i x none at passes = let e : None ≡ Some x = at in absurd (cc)
  place_at (y ∷ ys) zero x none at passes =
      let e : p y ≡ true = ap (λ o. elim o as (λ _. Bool) [ None ↦ true | Some z ↦ p z ]) at ∙ passes in
      (rw e refl, omega arith)
  place_at (y ∷ ys) (suc i) x none at passes =
      let rest = place_at ys i x (none_after y ys i none) at passes in
      let first = step y ys (none 0 (omega arith) y refl) in
      (first ∙ ap (λ n. 1 + n) rest.0 ∙ (omega arith), omega (arith, rest.1))

  pub position_at : (xs : List X) (i : ℕ) (x : X) → NoneBefore xs i → slice_get xs i ≡ Some x → p x ≡ true → position p xs ≡ Some i
  position_at xs i x none at passes = let there = place_at xs i x none at passes in grind (arith, nat_tests, there.0, there.1)

  place_none : (xs : List X) → NoneBefore xs (length xs) → position_or_len p xs ≡ length xs
  place_none [] none = refl
  place_none (x ∷ xs) none =
      step x xs (none 0 (omega arith) x refl) ∙ ap (λ n. 1 + n) (place_none xs (none_after x xs (length xs) none)) ∙ (omega arith)

  pub position_none : (xs : List X) (i : ℕ) → length xs ≤ i → NoneBefore xs i → position p xs ≡ None
  position_none xs i far none = let all = place_none xs (λ k early. none k (omega arith)) in grind (arith, nat_tests, all)

-- the first pair is the one in front, or that of the others
pub pair_here : (number : ℕ) (p : Property) (rest : List Property) → p.column ≡ number → first_pair number (p ∷ rest) ≡ Some p
pair_here number p rest same = grind (arith, nat_tests)

pub pair_later : (number : ℕ) (p : Property) (rest : List Property) → p.column ≢ number → first_pair number (p ∷ rest) ≡ first_pair number rest
pair_later number p rest other = grind (arith, nat_tests)
