-- What the words for a bound and for a box spell.
use Rattle.std.specs.Prelude.{◌≡◌, ◌≤◌, ◌==◌, ◌&&◌, ℕ, ◌^◌, nat_le, not, Bool, true, false, IsTrue, if◌then◌else◌, List, [], ◌∷◌, length, Option, Some, None}
use Rattle.std.specs.Option.{option_map, option_or}
use Rattle.std.specs.Result.{result_ok}
use Rattle.std.specs.List.{AllZip, slice_split, list_any, before_first, after_first}
use Rattle.std.specs.Int.{from_be_bytes, w64, is_power_of_two}
use Rattle.std.specs.Str.{all_ascii_digits}
use Rattle.std.specs.Str.Parse.{digits_value}
use Rattle.hex.specs.Hex.{decode_sized}
use Rattle.order_keys.specs.declared.coord.Coord.{Coord}
use Rattle.order_keys.specs.declared.bounds.Bounds.{Bounds}
use Rattle.order_keys.specs.declared.words.BoundFault.{BoundFault}
use Rattle.order_keys.specs.declared.words.BoundFault.TheVariants.{Form, Range, NotFinite}
use Rattle.order_keys.specs.declared.words.Spelling.{Spelling}
use Rattle.order_keys.specs.declared.words.Spelling.TheVariants.{Pattern, Number}
use Rattle.order_keys.specs.declared.words.Fraction.{Fraction}
use Rattle.order_keys.specs.Keys.{is_finite, IsExactly}
use Rattle.order_keys.specs.Boxes.{IsOrdered}

-- the pattern that sixteen hexadecimal digits of either case spell
abbrev pub pattern_of : List ℕ → Option ℕ
pattern_of digits = option_map (from_be_bytes w64) (result_ok (decode_sized digits 8))

-- 1 to 16 decimal digits
abbrev pub is_decimal : List ℕ → Bool
is_decimal digits = nat_le 1 (length digits) && nat_le (length digits) 16 && all_ascii_digits digits

-- the number that they spell
abbrev pub decimal_of : List ℕ → Option ℕ
decimal_of digits = if is_decimal digits then Some (digits_value 10 digits) else None

-- a number over a divisor, where both were read
abbrev pub over : Bool → Option ℕ → Option ℕ → Option Fraction
over negative None divisor = None
over negative (Some number) None = None
over negative (Some number) (Some divisor) = Some (record { is_negative = negative; number = number; divisor = divisor })

-- the byte between a number and its divisor
abbrev pub is_slash : ℕ → Bool
is_slash c = c == 47

-- digits, and after a `/` those of the divisor, which is 1 where there is no `/`
abbrev pub fraction_of : Bool → List ℕ → Option Fraction
fraction_of negative text =
    if list_any is_slash text then over negative (decimal_of (before_first is_slash text)) (decimal_of (after_first is_slash text))
    else over negative (decimal_of text) (Some 1)

-- what a text spells: a pattern after an `x`, or a number, with a `-` in front or without
unfoldable pub spelling_of : List ℕ → Option Spelling
spelling_of [] = None
spelling_of (first ∷ rest) =
    if first == 120 then option_map Pattern (pattern_of rest)
    else if first == 45 then option_map Number (fraction_of true rest)
    else option_map Number (fraction_of false (first ∷ rest))

-- the pattern's exact value is the number over its divisor, a power of two
pub record IsQuotient (f : Fraction) (c : Coord) : Type 0 where
  pub power : IsTrue (is_power_of_two f.divisor)
  pub number : f.number ≤ 2 ^ 53
  pub divisor : f.divisor ≤ 2 ^ 52
  pub exact : IsExactly c.0 f.is_negative f.number f.divisor

-- the bound of a spelling: a finite pattern, or the pattern whose exact value is the number
abbrev pub IsBound : Option Spelling → Coord → Type 0
IsBound None c = ⊥
IsBound (Some (Pattern p)) c = IsTrue (is_finite p) × (c.0 ≡ p)
IsBound (Some (Number f)) c = IsQuotient f c

-- the fault of a spelling, if it has one
abbrev pub fault_in : Option Spelling → Option BoundFault
fault_in None = Some Form
fault_in (Some (Pattern p)) = if is_finite p then None else Some NotFinite
fault_in (Some (Number f)) =
    if not (is_power_of_two f.divisor) then Some Form
    else if nat_le f.number (2 ^ 53) && nat_le f.divisor (2 ^ 52) then None
    else Some Range

-- the text is a word for this bound
abbrev pub SpellsBound : List ℕ → Coord → Type 0
SpellsBound text c = IsBound (spelling_of text) c

-- the fault of a text that is no word for a bound
abbrev pub bound_fault : List ℕ → Option BoundFault
bound_fault text = fault_in (spelling_of text)

-- the parts of a text, between its commas
abbrev pub parts_of : List ℕ → List (List ℕ)
parts_of text = slice_split (λ c. c == 44) text

-- the fault of the first faulty part
abbrev pub first_fault : List (List ℕ) → Option BoundFault
first_fault [] = None
first_fault (part ∷ rest) = option_or (bound_fault part) (first_fault rest)

-- the fault of a text that is not four words for bounds
abbrev pub corners_fault : List ℕ → Option BoundFault
corners_fault text = if length (parts_of text) == 4 then first_fault (parts_of text) else Some Form

-- the four bounds of a box, in the order of their words
abbrev pub corners : Bounds → List Coord
corners b = b.min_x ∷ b.min_y ∷ b.max_x ∷ b.max_y ∷ []

-- the text is four words for these bounds
abbrev pub SpellsCorners : List ℕ → Bounds → Type 0
SpellsCorners text b = AllZip SpellsBound (parts_of text) (corners b)

-- the text is a word for this box
pub record SpellsBox (text : List ℕ) (b : Bounds) : Type 0 where
  pub each : SpellsCorners text b
  pub ordered : IsOrdered b

-- the text is four words for bounds of which a min comes after its max
pub record SpellsCrossed (text : List ℕ) : Type 0 where
  pub bounds : Bounds
  pub each : SpellsCorners text bounds
  pub crossed : ¬ (IsOrdered bounds)
