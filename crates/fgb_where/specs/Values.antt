-- The value of a condition, by the class of its column.
use Rattle.std.specs.Prelude.{◌≡◌, ℕ, ℤ, pos, neg_ℤ, ◌==◌, ◌&&◌, nat_le, Bool, if◌then◌else◌, List, [], ◌∷◌, length, Option, Some, None}
use Rattle.std.specs.Option.{option_map}
use Rattle.std.specs.Str.{all_ascii_digits}
use Rattle.std.specs.Str.Parse.{digits_value}
use Rattle.order_keys.specs.declared.coord.Coord.{Coord}
use Rattle.order_keys.specs.Words.{SpellsBound}
use Rattle.fgb_where.specs.declared.class.Class.{Class}
use Rattle.fgb_where.specs.declared.class.Class.TheVariants.{Whole, Double, Text}

-- the class of a column of this type: those from Byte to ULong are whole numbers, among them Bool; the others but Double
-- and String have none
abbrev pub class_of : ℕ → Option Class
class_of kind = if nat_le kind 8 then Some Whole else if kind == 10 then Some Double else if kind == 11 then Some Text else None

-- what a condition seeks: a whole number, a pattern, or the bytes of a text
pub data Sought : Type 0 where
  whole_value : ℤ → Sought
  double_value : Coord → Sought
  text_value : List ℕ → Sought

-- 1 to 20 decimal digits
abbrev pub is_numeral : List ℕ → Bool
is_numeral digits = nat_le 1 (length digits) && nat_le (length digits) 20 && all_ascii_digits digits

-- the number that they spell
abbrev pub numeral_of : List ℕ → Option ℕ
numeral_of digits = if is_numeral digits then Some (digits_value 10 digits) else None

-- the whole number that a text spells: such digits, with a `-` in front or without
unfoldable pub whole_of : List ℕ → Option ℤ
whole_of [] = None
whole_of (first ∷ rest) =
    if first == 45 then option_map (λ n. neg_ℤ (pos n)) (numeral_of rest)
    else option_map (λ n. pos n) (numeral_of (first ∷ rest))

-- the text is this value of this class
abbrev pub IsValue : Class → List ℕ → Sought → Type 0
IsValue class text (whole_value z) = (class ≡ Whole) × (whole_of text ≡ Some z)
IsValue class text (double_value c) = (class ≡ Double) × SpellsBound text c
IsValue class text (text_value t) = (class ≡ Text) × (t ≡ text)
