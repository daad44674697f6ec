-- A piece that is an ask, taken apart.
use Rattle.std.proofs.Common.{◌≡◌, ℕ, ◌^◌, ◌≤◌, List, ◌++◌, length, take, drop, sym, ap, ◌∙◌, arith, length-append, inl, inr}
use Rattle.std.specs.Prelude.{◌⊎◌, codes}
use Rattle.std.proofs.Math.Seq.{drop-append_seam, take-append_seam}
use Rattle.range_text.specs.declared.answers.RangeAnswer.{RangeAnswer}
use Rattle.range_text.specs.declared.answers.RangeAnswer.TheVariants.{Part, Unsatisfied, Whole}
use Rattle.range_text.specs.Ranges.{Range, SpellsRange, answer_to, between, range_text}
use Rattle.range_text.proofs.Written.{range_spelled}
use Rattle.byte_links.specs.Exchange.{ask}
use Rattle.loop_link.specs.Asks.{FitsIn}
use Rattle.loop_link.proofs.Asking.{answer_inside, ask_front, ask_text}

abbrev pub ask_back : List ℕ
ask_back = codes "\r\n\r\n"

-- what stands behind the front of an ask
pub rest_is : (piece rest : List ℕ) (a b : ℕ) → piece ≡ ask_front ++ rest → piece ≡ ask a b → rest ≡ range_text a b ++ ask_back
rest_is piece rest a b front is =
    let whole : ask_front ++ rest ≡ ask_front ++ (range_text a b ++ ask_back) = sym front ∙ is ∙ ask_text a b in
    sym (drop-append_seam ask_front rest) ∙ ap (drop (length ask_front)) whole ∙ drop-append_seam ask_front (range_text a b ++ ask_back)

-- what stands before one end and before the same end
same_front : (value range end : List ℕ) → value ++ end ≡ range ++ end → value ≡ range
same_front value range end same =
    let lengths : length (value ++ end) ≡ length (range ++ end) = ap length same in
    let len : length value ≡ length range = omega (arith, length-append value end, length-append range end) in
    sym (take-append_seam value end) ∙ ap (take (length value)) same ∙ ap (λ n. take n (range ++ end)) len ∙ take-append_seam range end

-- what stands between the front and the back of an ask is its range
pub value_is : (piece rest value : List ℕ) (a b : ℕ) → piece ≡ ask_front ++ rest → rest ≡ value ++ ask_back → piece ≡ ask a b → value ≡ range_text a b
value_is piece rest value a b front back is = same_front value (range_text a b) ask_back (sym back ∙ rest_is piece rest a b front is)

-- and with its range it is one
pub piece_is : (piece rest value : List ℕ) (a b : ℕ) → piece ≡ ask_front ++ rest → rest ≡ value ++ ask_back → value ≡ range_text a b → piece ≡ ask a b
piece_is piece rest value a b front back is = front ∙ ap (λ l. ask_front ++ l) (back ∙ ap (λ l. l ++ ask_back) is) ∙ sym (ask_text a b)

-- what is answered to the range of an ask that fits
pub range_fits : (value : List ℕ) (size a b : ℕ) (answer : RangeAnswer) → size ≤ 2 ^ 48 → ((range : Range) → SpellsRange value range → answer ≡ answer_to size range)
    → value ≡ range_text a b → FitsIn size a b → (answer ≡ Part a b) ⊎ ((answer ≡ Unsatisfied) × (a ≡ 0) × (b ≡ 0))
range_fits value size a b answer small told is (inl fits) =
    let order : a ≤ b = fits.0 in
    inl (told (between a b) (range_spelled value a b is order (omega (arith, fits.1))) ∙ answer_inside size a b order fits.1)
range_fits value size a b answer small told is (inr none) =
    let zero_a : a ≡ 0 = none.1 in
    let zero_b : b ≡ 0 = none.2 in
    inr (
      told (between a b) (range_spelled value a b is (omega arith) (omega arith)) ∙ ap (λ n. answer_to n (between a b)) none.0 ∙ ap (λ n. answer_to 0 (between n b)) none.1
          ∙ ap (λ n. answer_to 0 (between 0 n)) none.2,
      none.1,
      none.2,
    )

pub part_found : (answer : RangeAnswer) (first last a b : ℕ) → answer ≡ Part first last → (answer ≡ Part a b) ⊎ ((answer ≡ Unsatisfied) × (a ≡ 0) × (b ≡ 0))
    → (first ≡ a) × (last ≡ b)
part_found answer first last a b is (inl part) = (cc, cc)
part_found answer first last a b is (inr none) = let other = none.0 in cc

pub none_found : (answer : RangeAnswer) (a b : ℕ) → (answer ≡ Whole) ⊎ (answer ≡ Unsatisfied) → (answer ≡ Part a b) ⊎ ((answer ≡ Unsatisfied) × (a ≡ 0) × (b ≡ 0))
    → (0 ≡ a) × (0 ≡ b)
none_found answer a b (inl is) (inl part) = cc
none_found answer a b (inr is) (inl part) = cc
none_found answer a b is (inr none) = (sym none.1, sym none.2)
