-- The numbers of features in their order, and what stands by these numbers.
use Rattle.std.proofs.Common.{◌≡◌, ℕ, ◌+◌, ◌<◌, ◌≤◌, List, [], ◌∷◌, length, map, get_or, zero, suc, refl, sym, ap, subst, ◌∙◌, arith}
use Rattle.std.specs.List.{AllByRecursion, range_with_len}
use Rattle.std.proofs.lemmas.List.{get_or-map}
use Rattle.std.proofs.lemmas.List.Elements.{All-from_recursion, All-get_or, recursion_from_All}
use Rattle.std.proofs.lemmas.List.FromFn.{length-range_with_len}
use Rattle.std.proofs.lemmas.List.Sorted.{All-permutation, length_permutation}
use Rattle.order_keys.specs.declared.bounds.Bounds.{Bounds}
use Rattle.feature_order.specs.Order.{IsOrder}

range_below : (a n m : ℕ) → a + n ≤ m → AllByRecursion (λ k. k < m) (range_with_len a n)
range_below a zero m le = tt
range_below a (suc n) m le = (omega arith, range_below (a + 1) n m (omega arith))

-- the element at a place
pub at_place : {X : Type 0} (P : X → Type 0) (xs : List X) (i : ℕ) (d : X) → AllByRecursion P xs → i < length xs → P (get_or xs i d)
at_place P xs i d all there = All-get_or P xs i d there (All-from_recursion P xs all)

module _ (boxes : List Bounds) (order : List ℕ) (is : IsOrder boxes order) where
  -- there are as many as boxes, and each is that of a box
  pub order_long : length order ≡ length boxes
  order_long = length_permutation (range_with_len 0 (length boxes)) order is.all ∙ length-range_with_len 0 (length boxes)

  pub order_known : AllByRecursion (λ k. k < length boxes) order
  order_known =
      let from_zero : 0 + length boxes ≤ length boxes = omega arith in
      recursion_from_All (λ k. k < length boxes) order
      (All-permutation (λ k. k < length boxes) (range_with_len 0 (length boxes)) order is.all
      (All-from_recursion (λ k. k < length boxes) (range_with_len 0 (length boxes)) (range_below 0 (length boxes) (length boxes) from_zero)))

-- what holds of each element holds of those with these numbers
pub all_in_order : {X : Type 0} (P : X → Type 0) (xs : List X) (d : X) (order : List ℕ) → AllByRecursion P xs → AllByRecursion (λ k. k < length xs) order
    → AllByRecursion P (map (λ k. get_or xs k d) order)
all_in_order P xs d [] all known = tt
all_in_order P xs d (k ∷ rest) all known = (at_place P xs k d all known.0, all_in_order P xs d rest all known.1)

-- what a function makes of these elements is at these numbers of what it makes of all
pub map_in_order : {X Y : Type 0} (f : X → Y) (xs : List X) (d : X) (e : Y) (order : List ℕ) → AllByRecursion (λ k. k < length xs) order
    → map f (map (λ k. get_or xs k d) order) ≡ map (λ k. get_or (map f xs) k e) order
map_in_order f xs d e [] known = refl
map_in_order f xs d e (k ∷ rest) known =
    ap (λ y. y ∷ map f (map (λ k. get_or xs k d) rest)) (sym (get_or-map f xs k d e known.0))
    ∙ ap (λ l. get_or (map f xs) k e ∷ l) (map_in_order f xs d e rest known.1)

-- the same of lists as they are lent
pub known_lent : (boxes lent : List Bounds) (order shown : List ℕ) (n : ℕ) → lent ≡ boxes → IsOrder lent order → shown ≡ order → n ≡ length boxes
    → AllByRecursion (λ k. k < n) shown
known_lent boxes lent order shown n is_lent is same many =
    subst (AllByRecursion (λ k. k < n)) (sym same) (subst (λ m. AllByRecursion (λ k. k < m) order) (ap length is_lent ∙ sym many) (order_known lent order is))
