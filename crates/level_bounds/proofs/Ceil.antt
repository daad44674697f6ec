-- Division rounded up.
use Rattle.std.proofs.Common.{◌≡◌, ℕ, ◌+◌, ◌*◌, ◌<◌, ◌≤◌, inl, inr, arith}
use Rattle.std.specs.Int.{div_ceil}
use Rattle.std.proofs.Math.Nat.{mul-le-mul_right, one-le-mul, lt_of_mul-lt-mul_right}
use Rattle.std.proofs.lemmas.Bool.{cases_lt}
use Rattle.std.proofs.lemmas.Grind.{div_ceil_times}

below : (i a b d : ℕ) → d * b < a + b → i < d → i * b < a
below i a b d under h =
    let step : i + 1 ≤ d = omega arith in
    let times : (i + 1) * b ≤ d * b = mul-le-mul_right b step in
    omega arith

above : (i a b d : ℕ) → a ≤ d * b → i * b < a → i < d
above i a b d over h = lt_of_mul-lt-mul_right b (let times : i * b < d * b = omega arith in times)

-- i stands below the quotient exactly where i whole parts leave something over
pub below_ceil : (i a b : ℕ) → 0 < b → i < div_ceil a b → i * b < a
below_ceil i a b some h = below i a b (div_ceil a b) (div_ceil_times a b some).1 h

pub above_ceil : (i a b : ℕ) → 0 < b → i * b < a → i < div_ceil a b
above_ceil i a b some h = above i a b (div_ceil a b) (div_ceil_times a b some).0 h

-- numbers with the same numbers below them are one
pub same_below : (x y : ℕ) → ((i : ℕ) → i < x → i < y) → ((i : ℕ) → i < y → i < x) → x ≡ y
same_below x y to from = elim (cases_lt x y) [
  | inl lt ↦ absurd (let no : x < x = from x lt in omega arith)
  | inr ge ↦ elim (cases_lt y x) [
    | inl lt ↦ absurd (let no : y < y = to y lt in omega arith)
    | inr le ↦ omega arith
  ]
]

-- divided twice is divided by the product
pub ceil_twice : (n p s : ℕ) → 0 < p → 0 < s → div_ceil (div_ceil n p) s ≡ div_ceil n (p * s)
ceil_twice n p s p_some s_some =
    let both : 0 < p * s = one-le-mul p_some s_some in
    same_below _ _
    (λ i h. above_ceil i n (p * s) both (let deep : (i * s) * p < n = below_ceil (i * s) n p p_some (below_ceil i (div_ceil n p) s s_some h) in omega arith))
    (λ i h. above_ceil i (div_ceil n p) s s_some (above_ceil (i * s) n p p_some (let flat : i * (p * s) < n = below_ceil i n (p * s) both h in omega arith)))
