-- What holds of each element of a list.
use Rattle.std.proofs.Common.{ℕ, zero, suc, ◌+◌, ◌≤◌, ◌<◌, List, [], ◌∷◌, ◌++◌, map, inl, inr, sym, subst, arith}
use Rattle.std.specs.List.{AllByRecursion, concat, range_with_len}
use Rattle.fgb_schema.specs.Paths.{IsAmong}

module _ {A : Type 0} where
  -- f at each number of a range
  pub all_made : (P : A → Type 0) (f : ℕ → A) (a n : ℕ) → ((i : ℕ) → a ≤ i → i < a + n → P (f i)) → AllByRecursion P (map f (range_with_len a n))
  all_made P f a zero each = tt
  all_made P f a (suc n) each = (each a (omega arith) (omega arith), all_made P f (a + 1) n (λ i first last. each i (omega (arith, first)) (omega (arith, last))))

  pub all_of_map : {B : Type 0} (P : A → Type 0) (f : B → A) (xs : List B) → AllByRecursion (λ x. P (f x)) xs → AllByRecursion P (map f xs)
  all_of_map P f [] all = tt
  all_of_map P f (x ∷ xs) all = (all.0, all_of_map P f xs all.1)

  pub all_append : (P : A → Type 0) (xs ys : List A) → AllByRecursion P xs → AllByRecursion P ys → AllByRecursion P (xs ++ ys)
  all_append P [] ys front back = back
  all_append P (x ∷ xs) ys front back = (front.0, all_append P xs ys front.1 back)

  pub all_front : (P : A → Type 0) (xs ys : List A) → AllByRecursion P (xs ++ ys) → AllByRecursion P xs
  all_front P [] ys all = tt
  all_front P (x ∷ xs) ys all = (all.0, all_front P xs ys all.1)

  pub all_back : (P : A → Type 0) (xs ys : List A) → AllByRecursion P (xs ++ ys) → AllByRecursion P ys
  all_back P [] ys all = all
  all_back P (x ∷ xs) ys all = all_back P xs ys all.1

  -- one of the elements
  pub among_all : (P : A → Type 0) (x : A) (xs : List A) → IsAmong x xs → AllByRecursion P xs → P x
  among_all P x [] among all = absurd among
  among_all P x (y ∷ ys) (inl same) all = subst P (sym same) all.0
  among_all P x (y ∷ ys) (inr later) all = among_all P x ys later all.1

  -- what follows from it
  pub all_weaker : (P Q : A → Type 0) (xs : List A) → ((x : A) → P x → Q x) → AllByRecursion P xs → AllByRecursion Q xs
  all_weaker P Q [] less all = tt
  all_weaker P Q (x ∷ xs) less all = (less x all.0, all_weaker P Q xs less all.1)

  pub all_both : (P Q R : A → Type 0) (xs : List A) → ((x : A) → P x → Q x → R x) → AllByRecursion P xs → AllByRecursion Q xs → AllByRecursion R xs
  all_both P Q R [] both first second = tt
  all_both P Q R (x ∷ xs) both first second = (both x first.0 second.0, all_both P Q R xs both first.1 second.1)

-- the elements of each of some lists
pub all_concat : (P : ℕ → Type 0) (lists : List (List ℕ)) → AllByRecursion P (concat lists) → AllByRecursion (AllByRecursion P) lists
all_concat P [] all = tt
all_concat P (xs ∷ rest) all = (all_front P xs (concat rest) all, all_concat P rest (all_back P xs (concat rest) all))
