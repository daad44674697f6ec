-- IEEE 754 binary64 patterns (3.4) as whole numbers: their order, their digits and their exact values.
use Rattle.std.specs.Prelude.{◌≡◌, ◌<◌, ◌==◌, ℕ, ◌+◌, ◌-◌, ◌*◌, ◌/◌, ◌%◌, ◌^◌, max, nat_lt, nat_le, not, ℤ, pos, ◌-ℤ◌, ◌≤ℤ◌, int_lt, ◌&&◌, Bool, IsTrue, if◌then◌else◌, List, [], ◌∷◌, map, slice_index}
use Rattle.hex.specs.Hex.{lower_digits}

-- the key of a pattern, by which coordinates are compared: both zeros have key 0
unfoldable pub key_of : ℕ → ℤ
key_of p = if nat_lt p (2 ^ 63) then pos p else pos (2 ^ 63) -ℤ pos p

-- p comes at or before q
abbrev pub IsAtMost : ℕ → ℕ → Type 0
IsAtMost p q = key_of p ≤ℤ key_of q

-- the same as a test
abbrev pub at_most : ℕ → ℕ → Bool
at_most p q = not (int_lt (key_of q) (key_of p))

-- p and q have one key
abbrev pub same_key : ℕ → ℕ → Bool
same_key p q = at_most p q && at_most q p

-- the sign bit
abbrev pub is_negative : ℕ → Bool
is_negative p = nat_le (2 ^ 63) p

-- the eleven exponent bits
abbrev pub exponent_of : ℕ → ℕ
exponent_of p = p / 2 ^ 52 % 2 ^ 11

-- the pattern of a number: no infinity and no NaN
abbrev pub is_finite : ℕ → Bool
is_finite p = not (exponent_of p == 2 ^ 11 - 1)

-- the 52 fraction bits, below the bit that is set in each normal number
abbrev pub significand_of : ℕ → ℕ
significand_of p = (if exponent_of p == 0 then 0 else 2 ^ 52) + p % 2 ^ 52

-- the exact value of the pattern is number / divisor, with a minus sign or without:
-- a finite pattern stands for its significand times 2 ^ (its exponent - 1075), a subnormal one as if its exponent were 1
pub record IsExactly (p : ℕ) (negative : Bool) (number divisor : ℕ) : Type 0 where
  pub pattern : p < 2 ^ 64
  pub sign : is_negative p ≡ negative
  pub finite : IsTrue (is_finite p)
  pub value : significand_of p * 2 ^ max (exponent_of p) 1 * divisor ≡ number * 2 ^ 1075

-- the places of sixteen hexadecimal digits, the highest first
abbrev pub places : List ℕ
places = 15 ∷ 14 ∷ 13 ∷ 12 ∷ 11 ∷ 10 ∷ 9 ∷ 8 ∷ 7 ∷ 6 ∷ 5 ∷ 4 ∷ 3 ∷ 2 ∷ 1 ∷ 0 ∷ []

-- the lower-case hexadecimal digit at a place
abbrev pub digit_at : ℕ → ℕ → ℕ
digit_at p place = slice_index lower_digits (p / 16 ^ place % 16)

-- the sixteen digits of a pattern
abbrev pub digits_of : ℕ → List ℕ
digits_of p = map (digit_at p) places
