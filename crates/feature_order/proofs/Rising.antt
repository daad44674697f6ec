-- Features have one order: it rises, and a list that rises is determined by its elements.
use Rattle.std.proofs.Common.{◌≡◌, ℕ, ◌<◌, ◌⊎◌, inl, inr, List, [], ◌∷◌, length, get_or, suc, add-one, refl, sym, subst, ⊎_elim, arith}
use Rattle.std.specs.List.{AllByRecursion, range_with_len}
use Rattle.std.specs.List.Sorted.{IsPermutation}
use Rattle.std.proofs.lemmas.List.Elements.{All-from_recursion, recursion_from_All}
use Rattle.std.proofs.lemmas.List.Sorted.{All-permutation, IsPermutation-sym, IsPermutation-trans}
use Rattle.order_keys.specs.declared.bounds.Bounds.{Bounds}
use Rattle.order_keys.specs.Boxes.{IsBox, empty}
use Rattle.feature_order.specs.Order.{ComesBefore, IsOrder, IsRank, extent}
use Rattle.feature_order.specs.Order.ComesBefore.{by_rank, by_number}
use Rattle.feature_order.proofs.Ranks.{one_rank}

-- features stand before one another in a strict order
before_through : (boxes : List Bounds) → AllByRecursion IsBox boxes → (j k l : ℕ) → ComesBefore boxes j k → ComesBefore boxes k l → ComesBefore boxes j l
before_through boxes all j k l (by_rank m n in_j in_k less) (by_rank p q again in_l further) =
    let same = one_rank boxes k n p all in_k again in
    by_rank m q in_j in_l (omega arith)
before_through boxes all j k l (by_rank m n in_j in_k less) (by_number p again in_l further) =
    let same = one_rank boxes k n p all in_k again in
    by_rank m p in_j in_l (omega arith)
before_through boxes all j k l (by_number m in_j in_k less) (by_rank p q again in_l further) =
    let same = one_rank boxes k m p all in_k again in
    by_rank m q in_j in_l (omega arith)
before_through boxes all j k l (by_number m in_j in_k less) (by_number p again in_l further) =
    let same = one_rank boxes k p m all again in_k in
    by_number m in_j (subst (IsRank (extent boxes) (get_or boxes l empty)) same in_l) (omega arith)

before_never : (boxes : List Bounds) → AllByRecursion IsBox boxes → (k : ℕ) → ComesBefore boxes k k → ⊥
before_never boxes all k (by_rank m n one other less) = let same = one_rank boxes k m n all one other in omega arith
before_never boxes all k (by_number m one other less) = omega arith

-- what holds of each element
each_of : (P Q S : ℕ → Type 0) → ((x : ℕ) → P x → Q x → S x) → (xs : List ℕ) → AllByRecursion P xs → AllByRecursion Q xs → AllByRecursion S xs
each_of P Q S f [] p q = tt
each_of P Q S f (x ∷ xs) p q = (f x p.0 q.0, each_of P Q S f xs p.1 q.1)

-- a strict order of numbers
module _ (R : ℕ → ℕ → Type 0) (through : (j k l : ℕ) → R j k → R k l → R j l) (never : (k : ℕ) → R k k → ⊥) where
  abbrev Rises : List ℕ → Type 0
  Rises [] = Unit {0}
  Rises (x ∷ xs) = AllByRecursion (R x) xs × Rises xs

  rises_from : (xs : List ℕ) → ((i : ℕ) → suc i < length xs → R (get_or xs i 0) (get_or xs (suc i) 0)) → Rises xs
  rises_from [] h = tt
  rises_from (x ∷ []) h = (tt, tt)
  rises_from (x ∷ y ∷ xs) h =
      let rest = rises_from (y ∷ xs) (λ i there. h (suc i) (omega arith)) in
      let first = h 0 (omega arith) in
      ((first, each_of (R y) (R y) (R x) (λ z p q. through x y z first p) xs rest.0 rest.0), rest)

  -- of two lists with the same elements that rise, the first elements are equal, and what follows them has the same elements
  first_same : (x y : ℕ) → (x ≡ y) ⊎ R x y → (y ≡ x) ⊎ R y x → x ≡ y
  first_same x y (inl e) h = e
  first_same x y (inr r) (inl e) = sym e
  first_same x y (inr r) (inr s) = absurd (never x (through x y x r s))

  rest_holds : (P : ℕ → Type 0) (x : ℕ) (xs ys : List ℕ) → AllByRecursion (R x) xs → AllByRecursion (R x) ys → AllByRecursion P xs
      → ((Q : ℕ → Type 0) → AllByRecursion Q (x ∷ xs) → AllByRecursion Q (x ∷ ys)) → AllByRecursion P ys
  rest_holds P x xs ys above over all to =
      let Q : ℕ → Type 0 = λ z. (x ≡ z) ⊎ P z in
      let each = to Q (inl refl, each_of P P Q (λ z p q. inr p) xs all all) in
      each_of Q (R x) P (λ z q r. ⊎_elim (λ e. absurd (never x (subst (R x) (sym e) r))) (λ p. p) q) ys each.1 over

  rising_same : (xs ys : List ℕ) → Rises xs → Rises ys → ((P : ℕ → Type 0) → AllByRecursion P xs → AllByRecursion P ys)
      → ((P : ℕ → Type 0) → AllByRecursion P ys → AllByRecursion P xs) → xs ≡ ys
  rising_same [] [] h k to back = refl
  rising_same [] (y ∷ ys) h k to back = absurd (to (λ z. ⊥) tt).0
  rising_same (x ∷ xs) [] h k to back = absurd (back (λ z. ⊥) tt).0
  rising_same (x ∷ xs) (y ∷ ys) h k to back =
      let P : ℕ → Type 0 = λ z. (x ≡ z) ⊎ R x z in
      let Q : ℕ → Type 0 = λ z. (y ≡ z) ⊎ R y z in
      let e = first_same x y (to P (inl refl, each_of (R x) (R x) P (λ z p q. inr p) xs h.0 h.0)).0 (back Q (inl refl, each_of (R y) (R y) Q (λ z p q. inr p) ys k.0 k.0)).0 in
      let S : ℕ → Type 0 = λ z. AllByRecursion (R z) ys in
      let over = subst S (sym e) k.0 in
      let there : (T : ℕ → Type 0) → AllByRecursion T (x ∷ xs) → AllByRecursion T (x ∷ ys) = λ T all. (all.0, (to T all).1) in
      let here : (T : ℕ → Type 0) → AllByRecursion T (x ∷ ys) → AllByRecursion T (x ∷ xs) = λ T all. (all.0, (back T (subst T e all.0, all.1)).1) in
      let same = rising_same xs ys h.1 k.1 (λ T all. rest_holds T x xs ys h.0 over all there) (λ T all. rest_holds T x ys xs over h.0 all here) in
      cc

elements : (a b : List ℕ) → IsPermutation a b → (P : ℕ → Type 0) → AllByRecursion P a → AllByRecursion P b
elements a b moved P all = recursion_from_All P b (All-permutation P a b moved (All-from_recursion P a all))

pub one_order : (boxes : List Bounds) (a b : List ℕ) → AllByRecursion IsBox boxes → IsOrder boxes a → IsOrder boxes b → a ≡ b
one_order boxes a b all h k =
    let numbers = range_with_len 0 (length boxes) in
    let through = before_through boxes all in
    let never = before_never boxes all in
    let forth = IsPermutation-trans a numbers b (IsPermutation-sym numbers a h.all) k.all in
    let back = IsPermutation-trans b numbers a (IsPermutation-sym numbers b k.all) h.all in
    rising_same (ComesBefore boxes) through never a b
    (rises_from (ComesBefore boxes) through never a (λ i there. rw (← add-one i) (h.rises i (omega arith))))
    (rises_from (ComesBefore boxes) through never b (λ i there. rw (← add-one i) (k.rises i (omega arith))))
    (elements a b forth) (elements b a back)
