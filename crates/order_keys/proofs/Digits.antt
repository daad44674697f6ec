-- The sixteen digits of a pattern, as the text of its eight bytes.
use Rattle.std.proofs.Common.{◌≡◌, ℕ, ◌*◌, ◌/◌, ◌%◌, ◌^◌, List, [], ◌∷◌, length, refl, ap, arith, ◌∙◌}
use Rattle.std.specs.Prelude.{slice_index}
use Rattle.std.specs.Int.{to_be_bytes, w64}
use Rattle.std.proofs.Math.Nat.{div-div-eq-div-mul}
use Rattle.hex.specs.Hex.{encode_lower, encode_with, lower_digits}
use Rattle.order_keys.specs.Keys.{digits_of}

abbrev digit : ℕ → ℕ
digit n = slice_index lower_digits n

in_byte_high : (x : ℕ) → x % 256 / 16 ≡ x / 16 % 16
in_byte_high x = omega arith

in_byte_low : (x : ℕ) → x % 256 % 16 ≡ x % 16
in_byte_low x = omega arith

high : (p k m : ℕ) → k * 16 ≡ m → p / k % 256 / 16 ≡ p / m % 16
high p k m e = in_byte_high (p / k) ∙ ap (λ q. q % 16) (div-div-eq-div-mul p k 16 ∙ ap (λ n. p / n) e)

onto : {a b c d : ℕ} (xs ys : List ℕ) → a ≡ b → c ≡ d → xs ≡ ys
    → digit a ∷ digit c ∷ xs ≡ digit b ∷ digit d ∷ ys
onto xs ys h l e = cc

-- the two digits of the byte above k, before those of the lower bytes
byte : (p k m : ℕ) (xs ys : List ℕ) → k * 16 ≡ m → xs ≡ ys
    → digit (p / k % 256 / 16) ∷ digit (p / k % 256 % 16) ∷ xs ≡ digit (p / m % 16) ∷ digit (p / k % 16) ∷ ys
byte p k m xs ys e rest = onto xs ys (high p k m e) (in_byte_low (p / k)) rest

lowest_high : (p : ℕ) → p % 256 / 16 ≡ p / 16 % 16
lowest_high p = omega arith

lowest_low : (p : ℕ) → p % 256 % 16 ≡ p / 1 % 16
lowest_low p = omega arith

pub of_bytes : (p : ℕ) → encode_lower (to_be_bytes w64 p) ≡ digits_of p
unfolding encode_with
of_bytes p =
    byte p (256 ^ 7) (16 ^ 15) _ _ refl (
    byte p (256 ^ 6) (16 ^ 13) _ _ refl (
    byte p (256 ^ 5) (16 ^ 11) _ _ refl (
    byte p (256 ^ 4) (16 ^ 9) _ _ refl (
    byte p (256 ^ 3) (16 ^ 7) _ _ refl (
    byte p (256 ^ 2) (16 ^ 5) _ _ refl (
    byte p (256 ^ 1) (16 ^ 3) _ _ refl (
    onto [] [] (lowest_high p) (lowest_low p) refl)))))))

pub length-digits_of : (p : ℕ) → length (digits_of p) ≡ 16
length-digits_of p = refl
