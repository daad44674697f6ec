-- Whole numbers of up to 20 digits.
use Rattle.std.proofs.Common.{◌≡◌, ◌≢◌, ◌≤◌, ◌<◌, ◌^◌, ℕ, ℤ, pos, Bool, true, false, List, [], ◌∷◌, length, Option, Some, None, Result, Ok, Err, refl, ap, subst, ◌∙◌, inl, inr, arith, FitsSigned, to_z, of_z, ◌-ℤ◌}
use Rattle.std.specs.Prelude.{neg_ℤ}
use Rattle.std.specs.Int.{w128}
use Rattle.std.proofs.lemmas.Int.{ints, to_z-of_z}
use Rattle.std.proofs.lemmas.Bool.{cases_Bool}
use Rattle.std.specs.Option.{option_map}
use Rattle.std.specs.Result.{OkIff}
use Rattle.std.specs.Str.{all_ascii_digits}
use Rattle.std.specs.Str.Parse.{digits_value}
use Rattle.std.proofs.lemmas.Str.Parse.{digits_value_short}
use Rattle.order_keys.proofs.Spelling.{decimal}
use Rattle.fgb_where.specs.Values.{is_numeral, numeral_of, whole_of}

pub numeral_parts : (digits : List ℕ) → is_numeral digits ≡ true → (1 ≤ length digits) × (length digits ≤ 20) × (all_ascii_digits digits ≡ true)
numeral_parts digits h = grind arith

pub numeral_short : (digits : List ℕ) → is_numeral digits ≡ true → digits_value 10 digits < 2 ^ 127
numeral_short digits h = let parts = numeral_parts digits h in omega (arith, digits_value_short decimal digits 20 parts.2 parts.1)

pub ok_if : {T E : Type 0} (r : Result T E) (P : Type 0) (x : T) → OkIff r P x → P → r ≡ Ok x
ok_if (Ok y) P x h p = ap (λ z. Ok z) h.1
ok_if (Err e) P x h p = absurd (h p)

pub after_minus : (text digits : List ℕ) → text ≡ 45 ∷ digits → whole_of text ≡ option_map (λ n. neg_ℤ (pos n)) (numeral_of digits)
unfolding whole_of
after_minus text digits e = rw e refl

pub plain : (text : List ℕ) → ((rest : List ℕ) → text ≢ 45 ∷ rest) → whole_of text ≡ option_map (λ n. pos n) (numeral_of text)
unfolding whole_of
plain [] no_minus = refl
plain (first ∷ rest) no_minus =
    let other : first ≢ 45 = λ e. no_minus rest (ap (λ c. c ∷ rest) e) in
    grind arith

-- a negative one, where its digits are none or spell a number
pub minus_none : (o : Option ℕ) → None ≡ option_map (λ n. pos n) o → None ≡ option_map (λ n. neg_ℤ (pos n)) o
minus_none None e = refl
minus_none (Some n) e = cc

-- what the code computes
abbrev pub negated : ℤ → ℤ
negated z = to_z w128 (of_z w128 (pos 0 -ℤ to_z w128 (of_z w128 z)))

negated_is : (n : ℕ) → n < 2 ^ 127 → negated (pos n) ≡ neg_ℤ (pos n)
negated_is n small =
    let fits : FitsSigned w128 (pos n) = omega (arith, ints) in
    let minus_fits : FitsSigned w128 (pos 0 -ℤ pos n) = omega (arith, ints) in
    let same : pos 0 -ℤ pos n ≡ neg_ℤ (pos n) = omega (arith, ints) in
    ap (λ y. to_z w128 (of_z w128 (pos 0 -ℤ y))) (to_z-of_z w128 (pos n) fits) ∙ to_z-of_z w128 (pos 0 -ℤ pos n) minus_fits ∙ same

minus_at : (o : Option ℕ) → ((n : ℕ) → o ≡ Some n → n < 2 ^ 127) → (z : ℤ) → Some z ≡ option_map (λ n. pos n) o
    → Some (negated z) ≡ option_map (λ n. neg_ℤ (pos n)) o
minus_at None small z e = cc
minus_at (Some n) small z e = let same : z ≡ pos n = cc in ap (λ y. Some (negated y)) same ∙ ap (λ y. Some y) (negated_is n (small n refl))

numeral_bound : (digits : List ℕ) (n : ℕ) → numeral_of digits ≡ Some n → n < 2 ^ 127
numeral_bound digits n is = elim (cases_Bool (is_numeral digits)) [
  | inl passes ↦
      let spelled : numeral_of digits ≡ Some (digits_value 10 digits) = rw passes refl in
      let same : digits_value 10 digits ≡ n = cc in
      subst (λ m. m < 2 ^ 127) same (numeral_short digits passes)
  | inr fails ↦
      let none : numeral_of digits ≡ None = rw fails refl in
      cc
]

pub minus_some : (digits : List ℕ) (z : ℤ) → Some z ≡ option_map (λ n. pos n) (numeral_of digits) → Some (negated z) ≡ option_map (λ n. neg_ℤ (pos n)) (numeral_of digits)
minus_some digits z e = minus_at (numeral_of digits) (numeral_bound digits) z e
