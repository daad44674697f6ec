-- A text cut at a byte.
use Rattle.std.proofs.Common.{◌≡◌, ◌+◌, ◌-◌, ◌∙◌, ℕ, true, false, refl, ap, arith, List, [], ◌∷◌, ◌++◌, length, get_or, take, drop, Some, length-append, length-drop, append_assoc, add-one}
use Rattle.std.specs.Prelude.{◌==◌, nat_lt, position}
use Rattle.std.specs.Option.{option_map}
use Rattle.std.specs.List.{list_any, position_or_len}
use Rattle.std.proofs.lemmas.Bool.Decides.{nat_tests}
use Rattle.std.proofs.lemmas.List.{take_at, drop_at, take_all}
use Rattle.std.proofs.lemmas.List.Quantifiers.{position-Some}
use Rattle.std.proofs.lemmas.Option.{option_and_then_some, some_pair_parts}
use Rattle.std.proofs.Math.Seq.{split_at}
use Rattle.range_text.specs.Reading.{cut}

-- no such byte
abbrev pub Lacks : ℕ → List ℕ → Type 0
Lacks byte bytes = list_any (λ c. c == byte) bytes ≡ false

pub lacks_append : (byte : ℕ) (xs ys : List ℕ) → Lacks byte xs → Lacks byte ys → Lacks byte (xs ++ ys)
lacks_append byte [] ys first second = second
lacks_append byte (x ∷ xs) ys first second =
    let rest : Lacks byte xs = grind arith in
    let later = lacks_append byte xs ys rest second in
    grind (arith, later)

place : (byte : ℕ) (first rest : List ℕ) → Lacks byte first → position_or_len (λ c. c == byte) (first ++ byte ∷ rest) ≡ length first
place byte [] rest lacks = grind (arith, nat_tests)
place byte (c ∷ cs) rest lacks =
    let other : Lacks byte cs = grind arith in
    let later = place byte cs rest other in
    grind (arith, nat_tests, later)

-- the cut at a byte that the text in front does not hold
pub cut_at : (byte : ℕ) (first rest : List ℕ) → Lacks byte first → cut byte (first ++ byte ∷ rest) ≡ Some (first, rest)
cut_at byte first rest lacks =
    let at = place byte first rest lacks in
    let within : nat_lt (length first) (length (first ++ byte ∷ rest)) ≡ true = grind (arith, nat_tests, length-append) in
    let front = take_at first (byte ∷ rest) (length first) refl in
    let back = rw append_assoc at (drop_at (first ++ byte ∷ []) rest (length first + 1) (length-append first (byte ∷ []))) in
    rw (at, within, front, back)

pub cut_back : (byte : ℕ) (bytes first rest : List ℕ) → cut byte bytes ≡ Some (first, rest) → bytes ≡ first ++ byte ∷ rest
cut_back byte bytes first rest e =
    option_and_then_some (λ at. Some (take at bytes, drop (at + 1) bytes)) (position (λ c. c == byte) bytes) (first, rest) e (λ at found is.
    let parts = some_pair_parts (take at bytes) first (drop (at + 1) bytes) rest is in
    let there = position-Some (λ c. c == byte) bytes at 0 found in
    let passes : (get_or bytes at 0 == byte) ≡ true = there.1 in
    let same : get_or bytes at 0 ≡ byte = grind (arith, nat_tests) in
    let whole = split_at bytes at 0 (there.0) in
    cc (add-one at))

-- what is taken by places
pub cut_found : (byte : ℕ) (bytes : List ℕ) (at : ℕ) → Some at ≡ position (λ c. c == byte) bytes
    → Some (take at bytes, take (length bytes - (at + 1)) (drop (at + 1) bytes)) ≡ cut byte bytes
cut_found byte bytes at e =
    let rest : take (length bytes - (at + 1)) (drop (at + 1) bytes) ≡ drop (at + 1) bytes
    = take_all (length bytes - (at + 1)) (drop (at + 1) bytes) (omega (arith, length-drop (at + 1) bytes)) in
    ap (λ last. Some (take at bytes, last)) rest ∙ ap (option_map (λ k. (take k bytes, drop (k + 1) bytes))) e
