-- Parts of a list.
use Rattle.std.proofs.Common.{◌≡◌, ℕ, zero, suc, ◌+◌, ◌-◌, ◌<◌, ◌≤◌, List, [], ◌∷◌, ◌++◌, length, take, drop, get_or, map, refl, sym, ap, ◌∙◌, arith}
use Rattle.std.specs.Prelude.{slice_range}
use Rattle.std.specs.List.{AllByRecursion, range_with_len}
use Rattle.std.proofs.Math.ListN.{drop_of_length-le}
use Rattle.std.proofs.Math.Seq.{take-add, take-append_seam, drop-append_seam, drop-cons}
use Rattle.std.proofs.lemmas.List.{drop-drop, map-append, append_assoc}
use Rattle.std.proofs.lemmas.List.FromFn.{length-map-range_with_len}
use Rattle.fgb_outside.proofs.Asking.{range_with_len-append}

module _ {A : Type 0} where
  -- a part in two
  pub slice_parts : (xs : List A) (a b c : ℕ) → a ≤ b → b ≤ c → slice_range xs a c ≡ slice_range xs a b ++ slice_range xs b c
  slice_parts xs a b c ab bc =
      let e : a + (b - a) ≡ b = omega arith in
      let f : c - a ≡ (b - a) + (c - b) = omega arith in
      ap (λ n. take n (drop a xs)) f ∙ take-add (b - a) (c - b) (drop a xs)
      ∙ ap (λ l. slice_range xs a b ++ take (c - b) l) (drop-drop (b - a) a xs ∙ ap (λ n. drop n xs) e)

  take_none : (n : ℕ) → take n (let none : List A = [] in none) ≡ []
  take_none zero = refl
  take_none (suc n) = refl

  -- nothing stands past the end
  pub slice_past : (xs : List A) (a b c : ℕ) → a ≤ b → b ≤ c → length xs ≤ b → slice_range xs a c ≡ slice_range xs a b
  slice_past xs a b c ab bc end =
      slice_parts xs a b c ab bc
      ∙ ap (λ l. slice_range xs a b ++ take (c - b) l) (drop_of_length-le xs end)
      ∙ ap (λ l. slice_range xs a b ++ l) (take_none (c - b))
      ∙ append_nil (slice_range xs a b)
    where
      append_nil : (ys : List A) → ys ++ [] ≡ ys
      append_nil [] = refl
      append_nil (y ∷ ys) = ap (λ l. y ∷ l) (append_nil ys)

  pub slice_none : (xs : List A) (a : ℕ) → slice_range xs a a ≡ []
  slice_none xs a = let e : a - a ≡ 0 = omega arith in ap (λ n. take n (drop a xs)) e

  pub slice_one : (xs : List A) (i : ℕ) (d : A) → i < length xs → slice_range xs i (i + 1) ≡ get_or xs i d ∷ []
  slice_one xs i d there =
      let one : i + 1 - i ≡ 1 = omega arith in
      ap (λ n. take n (drop i xs)) one ∙ ap (take 1) (drop-cons xs i d there)

  -- the middle of three parts
  pub slice_middle : (xs ys zs : List A) (a b : ℕ) → a ≡ length xs → b ≡ a + length ys → slice_range ((xs ++ ys) ++ zs) a b ≡ ys
  slice_middle xs ys zs a b is_a is_b =
      let n : b - a ≡ length ys = omega arith in
      ap (λ l. take (b - a) (drop a l)) (append_assoc xs ys zs)
      ∙ ap (λ k. take (b - a) (drop k (xs ++ (ys ++ zs)))) is_a
      ∙ ap (take (b - a)) (drop-append_seam xs (ys ++ zs))
      ∙ ap (λ k. take k (ys ++ zs)) n
      ∙ take-append_seam ys zs

  -- what holds of each element holds in each part
  all_take : (P : A → Type 0) (n : ℕ) (xs : List A) → AllByRecursion P xs → AllByRecursion P (take n xs)
  all_take P zero xs all = tt
  all_take P (suc n) [] all = tt
  all_take P (suc n) (x ∷ xs) all = (all.0, all_take P n xs all.1)

  all_drop : (P : A → Type 0) (n : ℕ) (xs : List A) → AllByRecursion P xs → AllByRecursion P (drop n xs)
  all_drop P zero xs all = all
  all_drop P (suc n) [] all = tt
  all_drop P (suc n) (x ∷ xs) all = all_drop P n xs all.1

  pub all_slice : (P : A → Type 0) (xs : List A) (a b : ℕ) → AllByRecursion P xs → AllByRecursion P (slice_range xs a b)
  all_slice P xs a b all = all_take P (b - a) (drop a xs) (all_drop P a xs all)

  -- and of one of them
  pub all_at : (P : A → Type 0) (xs : List A) (i : ℕ) (d : A) → AllByRecursion P xs → P d → P (get_or xs i d)
  all_at P [] i d all default = default
  all_at P (x ∷ xs) zero d all default = all.0
  all_at P (x ∷ xs) (suc i) d all default = all_at P xs i d all.1 default

  pub all_within : (P : A → Type 0) (xs : List A) (i : ℕ) (d : A) → AllByRecursion P xs → i < length xs → P (get_or xs i d)
  all_within P [] i d all there = absurd (omega arith)
  all_within P (x ∷ xs) zero d all there = all.0
  all_within P (x ∷ xs) (suc i) d all there = all_within P xs i d all.1 (omega arith)

  -- a part of a list that is given by numbers
  pub slice_map : (f : ℕ → A) (w a b : ℕ) → a ≤ b → b ≤ w → slice_range (map f (range_with_len 0 w)) a b ≡ map f (range_with_len a (b - a))
  slice_map f w a b ab bw =
      let e : w ≡ a + (b - a) + (w - b) = omega arith in
      let z : 0 + a ≡ a = omega arith in
      let y : 0 + (a + (b - a)) ≡ b = omega arith in
      let parts : map f (range_with_len 0 w) ≡ (map f (range_with_len 0 a) ++ map f (range_with_len a (b - a))) ++ map f (range_with_len b (w - b)) =
      ap (λ n. map f (range_with_len 0 n)) e
      ∙ ap (map f) (range_with_len-append 0 (a + (b - a)) (w - b))
      ∙ map-append f (range_with_len 0 (a + (b - a))) (range_with_len (0 + (a + (b - a))) (w - b))
      ∙ ap (λ n. map f (range_with_len 0 (a + (b - a))) ++ map f (range_with_len n (w - b))) y
      ∙ ap (λ l. map f l ++ map f (range_with_len b (w - b))) (range_with_len-append 0 a (b - a))
      ∙ ap (λ l. l ++ map f (range_with_len b (w - b))) (map-append f (range_with_len 0 a) (range_with_len (0 + a) (b - a)))
      ∙ ap (λ n. (map f (range_with_len 0 a) ++ map f (range_with_len n (b - a))) ++ map f (range_with_len b (w - b))) z in
      ap (λ l. slice_range l a b) parts
      ∙ slice_middle (map f (range_with_len 0 a)) (map f (range_with_len a (b - a))) (map f (range_with_len b (w - b))) a b
      (sym (length-map-range_with_len f 0 a)) (omega (arith, length-map-range_with_len f a (b - a)))
