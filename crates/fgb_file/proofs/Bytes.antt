-- Numbers and parts of a part of the bytes.
use Rattle.std.proofs.Common.{◌≡◌, ℕ, ◌+◌, ◌-◌, ◌≤◌, List, ◌++◌, length, take, drop, slice_range, refl, sym, ap, ◌∙◌, arith, length-take, length-drop}
use Rattle.std.proofs.lemmas.List.{take-append-drop, take-take, drop-take, drop-drop}
use Rattle.byteorder.specs.Numbers.{little_from-append}
use Rattle.flat_layout.specs.Layout.{number_at}

-- the part of this length at a place
pub slice_is : {X : Type 0} (xs : List X) (p n : ℕ) → slice_range xs p (p + n) ≡ take n (drop p xs)
slice_is xs p n = let e : p + n - p ≡ n = omega arith in ap (λ k. take k (drop p xs)) e

pub length-slice : {X : Type 0} (xs : List X) (p n : ℕ) → p + n ≤ length xs → length (slice_range xs p (p + n)) ≡ n
length-slice xs p n fits = ap length (slice_is xs p n) ∙ omega (arith, length-take n (drop p xs), length-drop p xs)

-- a number in a front of the bytes is the same in all of them
pub number_at-append : (n : ℕ) (xs ys : List ℕ) → n ≤ length xs → number_at n (xs ++ ys) 0 ≡ number_at n xs 0
unfolding number_at
number_at-append n xs ys fits = little_from-append n xs ys fits

pub number_at-drop : (n p : ℕ) (b : List ℕ) → number_at n (drop p b) 0 ≡ number_at n b p
unfolding number_at
number_at-drop n p b = refl

pub number_at-slice : (n len p : ℕ) (b : List ℕ) → n ≤ len → p + len ≤ length b → number_at n (slice_range b p (p + len)) 0 ≡ number_at n b p
number_at-slice n len p b small fits =
    ap (λ s. number_at n s 0) (slice_is b p len)
    ∙ sym (number_at-append n (take len (drop p b)) (drop len (drop p b)) (omega (arith, length-take len (drop p b), length-drop p b)))
    ∙ ap (λ s. number_at n s 0) (take-append-drop len (drop p b))
    ∙ number_at-drop n p b

-- a part of a part
pub slice-slice : {X : Type 0} (xs : List X) (p len i n : ℕ) → i + n ≤ len → slice_range (slice_range xs p (p + len)) i (i + n) ≡ slice_range xs (p + i) (p + i + n)
slice-slice xs p len i n fits =
    let e : i + (len - i) ≡ len = omega arith in
    ap (λ s. slice_range s i (i + n)) (slice_is xs p len)
    ∙ slice_is (take len (drop p xs)) i n
    ∙ ap (λ k. take n (drop i (take k (drop p xs)))) (sym e)
    ∙ ap (take n) (drop-take i (len - i) (drop p xs))
    ∙ take-take n (len - i) (drop i (drop p xs)) (omega arith)
    ∙ ap (take n) (drop-drop i p xs)
    ∙ sym (slice_is xs (p + i) n)
