-- What a text spells, by its first character; decimal digits, as `parse` reads them.
use Rattle.std.proofs.Common.{◌≡◌, ◌≢◌, ◌<◌, ◌≤◌, ℕ, suc, Bool, ◌&&◌, true, false, refl, ap, arith, List, [], ◌∷◌, length, get_or, Some, None, lit<}
use Rattle.std.specs.Option.{option_map}
use Rattle.std.specs.Str.{all_ascii_digits}
use Rattle.std.specs.Str.Parse.{digits_value}
use Rattle.std.specs.Char.{is_ascii_digit}
use Rattle.std.specs.List.{list_all, list_any}
use Rattle.std.proofs.lemmas.Bool.Decides.{nat_tests}
use Rattle.std.proofs.lemmas.Str.Pattern.{IsSplitOnceResult, split_parts}
use Rattle.std.proofs.lemmas.Str.Parse.{IsNumeralModel, numerals_by_value, tells_all_ascii_digits}
use Rattle.order_keys.specs.declared.words.Spelling.TheVariants.{Pattern, Number}
use Rattle.order_keys.specs.Words.{spelling_of, pattern_of, is_decimal, decimal_of, is_slash, over, fraction_of}

pub after_x : (text digits : List ℕ) → text ≡ 120 ∷ digits → spelling_of text ≡ option_map Pattern (pattern_of digits)
unfolding spelling_of
after_x text digits e = rw e

pub after_minus : (text digits : List ℕ) → text ≡ 45 ∷ digits → spelling_of text ≡ option_map Number (fraction_of true digits)
unfolding spelling_of
after_minus text digits e = rw e

pub plain : (text : List ℕ) → ((rest : List ℕ) → text ≢ 120 ∷ rest) → ((rest : List ℕ) → text ≢ 45 ∷ rest)
    → spelling_of text ≡ option_map Number (fraction_of false text)
unfolding spelling_of
plain [] no_x no_minus = refl
plain (first ∷ rest) no_x no_minus =
    let other : first ≢ 120 = λ e. no_x rest (ap (λ c. c ∷ rest) e) in
    let plus : first ≢ 45 = λ e. no_minus rest (ap (λ c. c ∷ rest) e) in
    grind arith

slashless : (text : List ℕ) → ((i : ℕ) → i < length text → get_or text i 0 ≢ 47) → list_any is_slash text ≡ false
slashless [] h = refl
slashless (c ∷ cs) h =
    let first : c ≢ 47 = h 0 (omega arith) in
    let rest = slashless cs (λ i inside. h (suc i) (omega arith)) in
    grind (arith, nat_tests, rest)

pub undivided : (negative : Bool) (text : List ℕ) → IsSplitOnceResult 47 text None
    → fraction_of negative text ≡ over negative (decimal_of text) (Some 1)
undivided negative text h = rw (slashless text (split_parts 47 text None h (lit< tt)))

pub all_digits : (digits : List ℕ) → list_all is_ascii_digit digits ≡ all_ascii_digits digits
all_digits [] = refl
all_digits (c ∷ cs) = ap (λ b. is_ascii_digit c && b) (all_digits cs)

pub decimal : IsNumeralModel (λ ds. all_ascii_digits ds ≡ true) (digits_value 10)
decimal = numerals_by_value _ tells_all_ascii_digits

pub decimal_parts : (digits : List ℕ) → is_decimal digits ≡ true
    → (1 ≤ length digits) × (length digits ≤ 16) × (all_ascii_digits digits ≡ true)
decimal_parts digits h = grind arith

pub decimal_of_length : (digits : List ℕ) → 1 ≤ length digits → length digits ≤ 16 → all_ascii_digits digits ≡ is_decimal digits
decimal_of_length digits some short = grind arith
