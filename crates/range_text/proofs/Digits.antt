-- Numbers of 1 to 18 decimal digits.
use Rattle.std.proofs.Common.{◌≡◌, ◌≤◌, ◌<◌, ◌^◌, ◌∙◌, ℕ, ◌&&◌, true, false, refl, sym, ap, arith, List, [], ◌∷◌, length, Some, None, Ok, Err, Result, Bor}
use Rattle.std.specs.Prelude.{◌==◌, if◌then◌else◌, decimal}
use Rattle.std.specs.Result.{MatchResult, result_ok}
use Rattle.std.specs.Option.{IfSome}
use Rattle.std.specs.Char.{is_ascii_digit}
use Rattle.std.specs.List.{list_all, list_any}
use Rattle.std.specs.Str.{all_ascii_digits, IsAscii, IsUtf8}
use Rattle.std.specs.Str.Parse.{digits_value, ParsesUnsigned}
use Rattle.std.proofs.lemmas.Bool.Decides.{nat_tests}
use Rattle.std.proofs.lemmas.Option.{cond_some}
use Rattle.std.proofs.lemmas.Str.{IsUtf8-from_ascii}
use Rattle.std.proofs.lemmas.Str.Ascii.{IsAscii-nil, IsAscii-cons}
use Rattle.std.proofs.lemmas.Str.Parse.{IsNumeralModel, numerals_by_value, tells_all_ascii_digits, parse_gives, digits_value_short}
use Rattle.std.proofs.lemmas.Fmt.{digits_decimal, digits_value-decimal, length-decimal-le, decimal_nonempty}
use Rattle.range_text.specs.Ranges.{SpellsNumber, is_number}
use Rattle.range_text.specs.Reading.{number_of}

pub all_digits : (digits : List ℕ) → list_all is_ascii_digit digits ≡ all_ascii_digits digits
all_digits [] = refl
all_digits (c ∷ cs) = ap (λ b. is_ascii_digit c && b) (all_digits cs)

pub own : IsNumeralModel (λ ds. all_ascii_digits ds ≡ true) (digits_value 10)
own = numerals_by_value _ tells_all_ascii_digits

pub number_parts : (digits : List ℕ) → is_number digits ≡ true
    → (1 ≤ length digits) × (length digits ≤ 18) × (all_ascii_digits digits ≡ true)
number_parts digits h = grind arith

digits_ascii : (digits : List ℕ) → all_ascii_digits digits ≡ true → IsAscii digits
digits_ascii [] h = IsAscii-nil
digits_ascii (c ∷ cs) h =
    let rest : all_ascii_digits cs ≡ true = grind arith in
    let first : c < 128 = grind (arith, nat_tests) in
    IsAscii-cons c cs first (digits_ascii cs rest)

-- digits are a text, and so `from_utf8` gives them back
pub digits_text : {E : Type 0} (digits : List ℕ) (Q : E → Type 0) (r : Result (Bor (List ℕ)) E) → is_number digits ≡ true
    → MatchResult r (λ s. (s.now ≡ digits) × IsUtf8 digits) (λ e. ¬ (IsUtf8 digits) × Q e) → IfSome (result_ok r) (λ s. s.now ≡ digits) × (result_ok r ≡ None → ⊥)
digits_text digits Q (Ok s) passes h = (h.0, λ none. cc)
digits_text digits Q (Err e) passes h =
    let parts = number_parts digits passes in
    absurd (h.0 (IsUtf8-from_ascii digits (digits_ascii digits (parts.2))))

-- what `parse` gives of them
pub parsed : {E : Type 0} (digits : List ℕ) (r : Result ℕ E) → is_number digits ≡ true → ParsesUnsigned 64 10 digits r → result_ok r ≡ number_of digits
parsed digits r passes h =
    let parts = number_parts digits passes in
    let short : digits_value 10 digits < 2 ^ 64 = omega (arith, digits_value_short own digits 18 (parts.2) (parts.1)) in
    ap result_ok (parse_gives own 64 digits r h (parts.2) (parts.0) short)
    ∙ ap (λ b. if b then Some (digits_value 10 digits) else None) (sym passes)

pub number_found : (digits : List ℕ) (n : ℕ) → SpellsNumber digits n → number_of digits ≡ Some n
number_found digits n spelled =
    ap (λ b. if b then Some (digits_value 10 digits) else None) spelled.form ∙ ap Some (sym spelled.value)

pub number_back : (digits : List ℕ) (n : ℕ) → number_of digits ≡ Some n → SpellsNumber digits n
number_back digits n e =
    let parts = cond_some (is_number digits) (digits_value 10 digits) n e in
    record { form = parts.0; value = sym (parts.1) }

pub decimal_room : (n : ℕ) → n ≤ 2 ^ 48 → length (decimal n) ≤ 15
decimal_room n small = length-decimal-le 15 n (omega arith) (omega arith) (omega arith)

pub decimal_spells : (n : ℕ) → n ≤ 2 ^ 48 → SpellsNumber (decimal n) n
decimal_spells n small =
    let fits : n < 2 ^ 64 = omega arith in
    let some = decimal_nonempty n fits in
    let few = decimal_room n small in
    let each : all_ascii_digits (decimal n) ≡ true = digits_decimal own n fits in
    record { form = grind (arith, nat_tests); value = sym (digits_value-decimal own n fits) }

-- the bytes between numbers are no digits
pub no_such_digit : (byte : ℕ) (digits : List ℕ) → byte < 48 → all_ascii_digits digits ≡ true → list_any (λ c. c == byte) digits ≡ false
no_such_digit byte [] low h = refl
no_such_digit byte (c ∷ cs) low h =
    let rest : all_ascii_digits cs ≡ true = grind arith in
    let later = no_such_digit byte cs low rest in
    grind (arith, nat_tests, later)

pub no_such_byte : (byte : ℕ) (digits : List ℕ) (n : ℕ) → byte < 48 → SpellsNumber digits n → list_any (λ c. c == byte) digits ≡ false
no_such_byte byte digits n low spelled = let parts = number_parts digits spelled.form in no_such_digit byte digits low (parts.2)
