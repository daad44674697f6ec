-- The pattern of a number over a power of two: its exponent by the logarithms of both, its significand by shifts.
use Rattle.std.proofs.Common.{◌≡◌, ◌<◌, ◌≤◌, ℕ, ◌+◌, ◌-◌, ◌*◌, ◌/◌, ◌%◌, ◌^◌, max, false, IsTrue, refl, ap, arith, sym, ◌∙◌, ⊎_elim}
use Rattle.std.specs.Int.Count.{ones as count_ones}
use Rattle.std.specs.Int.{is_power_of_two}
use Rattle.std.proofs.lemmas.Bool.{cases_lt}
use Rattle.std.proofs.lemmas.Bool.Decides.{nat_tests}
use Rattle.std.proofs.lemmas.Nat.{pow-add, mul-le, ones_cat, ones_le_self, zero_from_ones, shl-shr, shl_whole, shl_below, pow_below}
use Rattle.order_keys.specs.Keys.{IsExactly, significand_of, exponent_of}

one_bit : (d : ℕ) → IsTrue (is_power_of_two d) → count_ones d ≡ 1
one_bit d power = grind (arith, nat_tests)

one_of_one : count_ones 1 ≡ 1
unfolding count_ones
one_of_one = refl

pub one_power : IsTrue (is_power_of_two 1)
one_power = grind (arith, nat_tests, one_of_one)

pub power_some : (d : ℕ) → IsTrue (is_power_of_two d) → 0 < d
power_some d power = omega (arith, one_bit d power, ones_le_self d)

-- a power of two is the power of its logarithm
pub power_is : (d k : ℕ) → IsTrue (is_power_of_two d) → 2 ^ k ≤ d → d < 2 * 2 ^ k → d ≡ 2 ^ k
power_is d k power above below =
    let rest : d - 2 ^ k < 2 ^ k = omega arith in
    let cut = ones_cat k 1 (d - 2 ^ k) rest in
    let whole : 1 * 2 ^ k + (d - 2 ^ k) ≡ d = omega arith in
    let none = zero_from_ones (d - 2 ^ k) (omega (arith, one_bit d power, ap count_ones whole, cut, one_of_one)) in
    omega arith

-- the number with its highest bit at the place of the one above the fraction
pub record IsShifted (n k s : ℕ) : Type 0 where
  pub value : s * 2 ^ 11 ≡ n * 2 ^ (63 - k)
  pub above : 2 ^ 52 ≤ s
  pub below : s < 2 ^ 53

twice : (k : ℕ) → 2 * 2 ^ k ≡ 2 ^ (1 + k)
twice k = sym (pow-add 2 1 k)

-- the logarithm of a number is at most that of a power of two above it
pub log_at_most : (n k m : ℕ) → n ≤ 2 ^ m → 2 ^ k ≤ n → k ≤ m
log_at_most n k m small above = ⊎_elim
    (λ (h : k < 1 + m). omega arith)
    (λ (h : 1 + m ≤ k).
    let high : 2 ^ m < 2 ^ k = pow_below m k (omega arith) in
    absurd (omega arith))
    (cases_lt k (1 + m))

-- no bit goes at the left
pub whole : (n k : ℕ) → k ≤ 53 → n < 2 * 2 ^ k → n * 2 ^ (63 - k) % 2 ^ 64 ≡ n * 2 ^ (63 - k)
whole n k low below = shl_whole n (1 + k) (63 - k) 64 (omega (arith, below, twice k)) (omega arith)

-- nor at the right
exact : (n k : ℕ) → n ≤ 2 ^ 53 → 2 ^ k ≤ n → k ≤ 53 → n * 2 ^ (63 - k) / 2 ^ 11 * 2 ^ 11 ≡ n * 2 ^ (63 - k)
exact n k small above low = ⊎_elim
    (λ (h : k < 53).
    let split : n * 2 ^ (63 - k) ≡ n * 2 ^ (52 - k) * 2 ^ 11 =
    ap (λ m. n * 2 ^ m) (let e : 63 - k ≡ 52 - k + 11 = omega arith in e) ∙ (rw (pow-add 2 (52 - k) 11) (omega arith)) in
    ap (λ m. m / 2 ^ 11 * 2 ^ 11) split ∙ ap (λ m. m * 2 ^ 11) (shl-shr (n * 2 ^ (52 - k)) 11) ∙ sym split)
    (λ (h : 53 ≤ k).
    let last : k ≡ 53 = omega arith in
    let full : n ≡ 2 ^ 53 = omega (arith, ap (λ m. 2 ^ m) last) in
    rw (last, full) refl)
    (cases_lt k 53)

pub shifted : (n k : ℕ) → n ≤ 2 ^ 53 → 2 ^ k ≤ n → n < 2 * 2 ^ k → IsShifted n k (n * 2 ^ (63 - k) % 2 ^ 64 / 2 ^ 11)
shifted n k small above below =
    let low = log_at_most n k 53 small above in
    let value = ap (λ m. m / 2 ^ 11 * 2 ^ 11) (whole n k low below) ∙ exact n k small above low in
    let floor : 2 ^ 63 ≤ n * 2 ^ (63 - k) =
    omega (arith, ap (λ m. 2 ^ m) (let e : 63 ≡ k + (63 - k) = omega arith in e), pow-add 2 k (63 - k), mul-le (2 ^ k) (2 ^ (63 - k)) n (2 ^ (63 - k)) above (omega arith)) in
    let roof : n * 2 ^ (63 - k) < 2 ^ 64 =
    omega (arith, shl_below n (1 + k) (63 - k) (omega (arith, below, twice k)), ap (λ m. 2 ^ m) (let e : 64 ≡ 1 + k + (63 - k) = omega arith in e)) in
    record { value = value; above = omega arith; below = omega arith }

-- the value of the pattern, by its exponent and its significand
pub worth : (n k d q s : ℕ) → k ≤ 53 → q ≤ 52 → d ≡ 2 ^ q → IsShifted n k s → s * 2 ^ (1023 + k - q) * d ≡ n * 2 ^ 1075
worth n k d q s low small power h =
    let up : 1023 + k - q + q ≡ 11 + (1012 + k) = omega arith in
    let down : 63 - k + (1012 + k) ≡ 1075 = omega arith in
    let by_q : s * 2 ^ (1023 + k - q) * 2 ^ q ≡ s * 2 ^ (1023 + k - q + q) = rw (pow-add 2 (1023 + k - q) q) (omega arith) in
    let by_11 : s * 2 ^ (11 + (1012 + k)) ≡ s * 2 ^ 11 * 2 ^ (1012 + k) = rw (pow-add 2 11 (1012 + k)) (omega arith) in
    let by_n : n * 2 ^ (63 - k) * 2 ^ (1012 + k) ≡ n * 2 ^ (63 - k + (1012 + k)) = rw (pow-add 2 (63 - k) (1012 + k)) (omega arith) in
    ap (λ m. s * 2 ^ (1023 + k - q) * m) power ∙ by_q ∙ ap (λ m. s * 2 ^ m) up ∙ by_11 ∙ ap (λ m. m * 2 ^ (1012 + k)) h.value ∙ by_n ∙ ap (λ m. n * 2 ^ m) down

-- a pattern by its exponent and its significand
pub normal : (p e s n d : ℕ) → p ≡ (e - 1) * 2 ^ 52 + s → 1 ≤ e → e < 2047 → 2 ^ 52 ≤ s → s < 2 ^ 53 → s * 2 ^ e * d ≡ n * 2 ^ 1075
    → IsExactly p false n d
normal p e s n d is low high above below value =
    let exponent : exponent_of p ≡ e = grind arith in
    let significand : significand_of p ≡ s = grind arith in
    let scale : max (exponent_of p) 1 ≡ e = omega arith in
    record {
      pattern = omega arith;
      sign = grind arith;
      finite = grind arith;
      value = ap (λ m. m * 2 ^ max (exponent_of p) 1 * d) significand ∙ ap (λ m. s * 2 ^ m * d) scale ∙ value;
    }
