-- The word in front.
use Rattle.std.proofs.Common.{◌≡◌, ◌∙◌, ◌↔◌, ℕ, Bool, true, false, refl, sym, ap, subst, arith, List, [], ◌∷◌, ◌++◌, map, Some, None}
use Rattle.std.specs.Prelude.{IsTrue, codes, if◌then◌else◌}
use Rattle.std.specs.Char.{to_ascii_lowercase}
use Rattle.std.specs.Option.{option_and_then}
use Rattle.std.proofs.lemmas.Bool.Decides.{nat_tests}
use Rattle.std.proofs.lemmas.Option.{cond_some, option_and_then_some}
use Rattle.std.proofs.lemmas.Slice.Eq.{bytes_eq-Decides}
use Rattle.range_text.specs.Ranges.{IsUnit, lower}
use Rattle.range_text.specs.Reading.{behind, cut, is_unit, parts_of}
use Rattle.range_text.proofs.Cuts.{Lacks, cut_at, cut_back}

lower_is : (c : ℕ) → lower c ≡ to_ascii_lowercase c
lower_is c = grind (arith, nat_tests)

lowered : (word : List ℕ) → map lower word ≡ map to_ascii_lowercase word
lowered [] = refl
lowered (c ∷ cs) = let first = lower_is c in let rest = lowered cs in cc

same_answer : (a b : Bool) → (a ≡ true → b ≡ true) → (b ≡ true → a ≡ true) → a ≡ b
same_answer true b there back = sym (there refl)
same_answer false true there back = back refl
same_answer false false there back = refl

pub unit_tells : (word : List ℕ) (r : Bool) → IsTrue r ↔ (map to_ascii_lowercase word ≡ map to_ascii_lowercase (codes "bytes")) → r ≡ is_unit word
unit_tells word r h =
    let decides = bytes_eq-Decides (map lower word) (codes "bytes") in
    same_answer r _ (λ e. decides.1 (lowered word ∙ h.0 e)) (λ e. h.1 (sym (lowered word) ∙ decides.0 e))

-- a text holds no byte that stays as it is, where the changed text holds none
lacks_unchanged : (f : ℕ → ℕ) (byte : ℕ) (word : List ℕ) → f byte ≡ byte → Lacks byte (map f word) → Lacks byte word
lacks_unchanged f byte [] own lacks = refl
lacks_unchanged f byte (c ∷ cs) own lacks =
    let rest : Lacks byte (map f cs) = grind arith in
    let later = lacks_unchanged f byte cs own rest in
    grind (arith, nat_tests, later, own)

pub behind_at : (byte : ℕ) (word rest : List ℕ) → lower byte ≡ byte → Lacks byte (codes "bytes") → IsUnit word
    → behind byte (word ++ byte ∷ rest) ≡ Some rest
behind_at byte word rest own lacks unit =
    let free : Lacks byte word = lacks_unchanged lower byte word own (rw unit lacks) in
    ap (option_and_then (λ parts. if is_unit (parts.0) then Some (parts.1) else None)) (cut_at byte word rest free)
    ∙ ap (λ b. if b then Some rest else None) ((bytes_eq-Decides (map lower word) (codes "bytes")).1 unit)

-- a word, and what stands behind it
pub record IsBehind (byte : ℕ) (value rest : List ℕ) : Type 0 where
  pub word : List ℕ
  pub unit : IsUnit word
  pub whole : value ≡ word ++ byte ∷ rest

pub behind_back : (byte : ℕ) (value rest : List ℕ) → behind byte value ≡ Some rest → IsBehind byte value rest
behind_back byte value rest e =
    option_and_then_some (λ parts. if is_unit (parts.0) then Some (parts.1) else None) (cut byte value) rest e (λ parts found is.
    let told = cond_some (is_unit (parts.0)) (parts.1) rest is in
    record {
      word = parts.0;
      unit = (bytes_eq-Decides (map lower (parts.0)) (codes "bytes")).0 (told.0);
      whole = cut_back byte value (parts.0) (parts.1) found ∙ ap (λ behind_it. parts.0 ++ byte ∷ behind_it) (told.1);
    })

-- the word with its byte, a text without the middle byte, and the rest
pub parts_at : (front middle : ℕ) (word first last : List ℕ) → lower front ≡ front → Lacks front (codes "bytes") → IsUnit word → Lacks middle first
    → parts_of front middle (word ++ front ∷ (first ++ middle ∷ last)) ≡ Some (first, last)
parts_at front middle word first last own lacks unit free =
    ap (option_and_then (cut middle)) (behind_at front word (first ++ middle ∷ last) own lacks unit) ∙ cut_at middle first last free

pub parts_back : (front middle : ℕ) (value first last : List ℕ) → parts_of front middle value ≡ Some (first, last)
    → IsBehind front value (first ++ middle ∷ last)
parts_back front middle value first last e =
    option_and_then_some (cut middle) (behind front value) (first, last) e (λ rest found is.
    subst (IsBehind front value) (cut_back middle rest first last is) (behind_back front value rest found))
