-- Sums over neighbouring levels.
use Rattle.std.proofs.Common.{◌≡◌, ℕ, ◌+◌, zero, suc, refl, ap, arith}
use Rattle.std.specs.List.{range_with_len, sum_by}
use Rattle.std.proofs.lemmas.List.Sums.{sum_by-cons}

pub sum_next : (w : ℕ → ℕ) (a n : ℕ) → sum_by w (range_with_len a (suc n)) ≡ w a + sum_by w (range_with_len (a + 1) n)
sum_next w a n = sum_by-cons w a (range_with_len (a + 1) n)

pub sum_split : (w : ℕ → ℕ) (a m n : ℕ) → sum_by w (range_with_len a (m + n)) ≡ sum_by w (range_with_len a m) + sum_by w (range_with_len (a + m) n)
sum_split w a zero n =
    let e : n ≡ zero + n = omega arith in
    let f : a ≡ a + zero = omega arith in
    let g : sum_by w (range_with_len a n) ≡ sum_by w (range_with_len (a + zero) n) = ap (λ k. sum_by w (range_with_len k n)) f in
    let h : sum_by w (range_with_len a n) ≡ sum_by w (range_with_len a (zero + n)) = ap (λ k. sum_by w (range_with_len a k)) e in
    let none : sum_by w (range_with_len a zero) ≡ 0 = refl in
    omega arith
sum_split w a (suc m) n =
    let e : suc (m + n) ≡ suc m + n = omega arith in
    let f : a + 1 + m ≡ a + suc m = omega arith in
    let h : sum_by w (range_with_len a (suc (m + n))) ≡ sum_by w (range_with_len a (suc m + n)) = ap (λ k. sum_by w (range_with_len a k)) e in
    let g : sum_by w (range_with_len (a + 1 + m) n) ≡ sum_by w (range_with_len (a + suc m) n) = ap (λ k. sum_by w (range_with_len k n)) f in
    let rest : sum_by w (range_with_len (a + 1) (m + n)) ≡ sum_by w (range_with_len (a + 1) m) + sum_by w (range_with_len (a + 1 + m) n) = sum_split w (a + 1) m n in
    let first : sum_by w (range_with_len a (suc (m + n))) ≡ w a + sum_by w (range_with_len (a + 1) (m + n)) = sum_next w a (m + n) in
    let second : sum_by w (range_with_len a (suc m)) ≡ w a + sum_by w (range_with_len (a + 1) m) = sum_next w a m in
    omega arith
