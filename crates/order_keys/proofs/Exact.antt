-- A number has at most one finite pattern of each sign.
use Rattle.std.proofs.Common.{◌≡◌, ◌<◌, ◌≤◌, ℕ, ◌+◌, ◌-◌, ◌*◌, ◌/◌, ◌%◌, ◌^◌, max, Bool, ap, arith, sym, ◌∙◌, ⊎_elim}
use Rattle.std.proofs.lemmas.Bool.{cases_lt}
use Rattle.std.proofs.lemmas.Nat.{pow-add, pow_pos, mul-le}
use Rattle.std.proofs.Math.Nat.{mul-div_cancel}
use Rattle.order_keys.specs.Keys.{IsExactly, is_negative, exponent_of, significand_of}

significand_below : (p : ℕ) → significand_of p < 2 ^ 53
significand_below p = grind arith

significand_normal : (p : ℕ) → 2 ≤ max (exponent_of p) 1 → 2 ^ 52 ≤ significand_of p
significand_normal p h = grind arith

-- a pattern is its sign, its exponent and its fraction
same_parts : (p q : ℕ) → p < 2 ^ 64 → q < 2 ^ 64 → is_negative p ≡ is_negative q
    → exponent_of p ≡ exponent_of q → p % 2 ^ 52 ≡ q % 2 ^ 52 → p ≡ q
same_parts p q small small' sign exponent fraction = grind arith

-- and its sign, its exponent if that is not 0, and its significand
same_significand : (p q : ℕ) → p < 2 ^ 64 → q < 2 ^ 64 → is_negative p ≡ is_negative q
    → max (exponent_of p) 1 ≡ max (exponent_of q) 1 → significand_of p ≡ significand_of q → p ≡ q
same_significand p q small small' sign exponent significand =
    let e : exponent_of p ≡ exponent_of q = grind arith in
    let f : p % 2 ^ 52 ≡ q % 2 ^ 52 = grind arith in
    same_parts p q small small' sign e f

cancel : (s t d : ℕ) → 0 < d → s * d ≡ t * d → s ≡ t
cancel s t d some e = sym (mul-div_cancel s some) ∙ ap (λ n. n / d) e ∙ mul-div_cancel t some

-- a normal significand at a higher exponent is worth more than any at a lower one
not_higher : (s t a k : ℕ) → s * 2 ^ a ≡ t * 2 ^ (a + (1 + k)) → s < 2 ^ 53 → 2 ^ 52 ≤ t → ⊥
not_higher s t a k e low high =
    let scaled : t * 2 ^ (a + (1 + k)) ≡ (t * (2 * 2 ^ k)) * 2 ^ a =
    rw (pow-add 2 a (1 + k), pow-add 2 1 k) (omega arith) in
    let is : s ≡ t * (2 * 2 ^ k) = cancel _ _ (2 ^ a) (pow_pos a) (e ∙ scaled) in
    let one : 1 ≤ 2 ^ k = pow_pos k in
    let above : 2 ^ 52 * 2 ≤ t * (2 * 2 ^ k) = mul-le (2 ^ 52) 2 t (2 * 2 ^ k) high (omega arith) in
    omega arith

same_exponent : (s t a b : ℕ) → s * 2 ^ a ≡ t * 2 ^ b → s < 2 ^ 53 → (2 ≤ b → 2 ^ 52 ≤ t) → 1 ≤ a → b ≤ a
same_exponent s t a b e low high one = ⊎_elim
    (λ (lower : a < b).
    let gap : b ≡ a + (1 + (b - a - 1)) = omega arith in
    absurd (not_higher s t a (b - a - 1) (e ∙ ap (λ n. t * 2 ^ n) gap) low (high (omega arith))))
    (λ h. h)
    (cases_lt a b)

pub same_pattern : (p q : ℕ) (negative : Bool) (number divisor : ℕ) → 0 < divisor
    → IsExactly p negative number divisor → IsExactly q negative number divisor → p ≡ q
same_pattern p q negative number divisor some h k =
    let e = cancel _ _ divisor some (h.value ∙ sym k.value) in
    let up = same_exponent (significand_of p) (significand_of q) _ _ e (significand_below p) (significand_normal q) (omega arith) in
    let down = same_exponent (significand_of q) (significand_of p) _ _ (sym e) (significand_below q) (significand_normal p) (omega arith) in
    let same : max (exponent_of p) 1 ≡ max (exponent_of q) 1 = omega arith in
    let e' : significand_of p * 2 ^ max (exponent_of p) 1 ≡ significand_of q * 2 ^ max (exponent_of p) 1 = e ∙ ap (λ n. significand_of q * 2 ^ n) (sym same) in
    same_significand p q h.pattern k.pattern (h.sign ∙ sym k.sign) same (cancel _ _ (2 ^ max (exponent_of p) 1) (pow_pos _) e')
