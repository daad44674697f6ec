-- The parts of a text, one `split_once` after another.
use Rattle.std.proofs.Common.{◌≡◌, ◌≢◌, ◌<◌, ◌≤◌, ℕ, zero, suc, Bool, true, false, List, [], ◌∷◌, ◌++◌, length, get_or, Some, None, refl, ap, arith, ◌∙◌, Bor, lit<}
use Rattle.std.specs.Prelude.{◌==◌, cond}
use Rattle.std.specs.List.{onto_first}
use Rattle.std.proofs.lemmas.List.Splits.{length-slice_split, slice_split-cons_yes, slice_split-cons_no}
use Rattle.std.proofs.lemmas.Str.Pattern.{IsSplitOnceResult, split_parts}
use Rattle.order_keys.specs.Words.{parts_of}

abbrev pub NoComma : List ℕ → Type 0
NoComma bs = (i : ℕ) → i < length bs → get_or bs i 0 ≢ 44

rest_of : (b : ℕ) (bs : List ℕ) → NoComma (b ∷ bs) → NoComma bs
rest_of b bs h i inside = h (suc i) (omega arith)

first_of_none : (b : ℕ) (bs : List ℕ) → NoComma (b ∷ bs) → (b == 44) ≡ false
first_of_none b bs h = let other : b ≢ 44 = h 0 (omega arith) in grind arith

none_in : (bs : List ℕ) → NoComma bs → parts_of bs ≡ bs ∷ []
none_in [] h = refl
none_in (b ∷ bs) h =
    slice_split-cons_no (λ c. c == 44) b bs (first_of_none b bs h) ∙ ap (onto_first b) (none_in bs (rest_of b bs h))

up_to : (a bs : List ℕ) → NoComma a → parts_of (a ++ 44 ∷ bs) ≡ a ∷ parts_of bs
up_to [] bs h = slice_split-cons_yes (λ c. c == 44) 44 bs refl
up_to (b ∷ a) bs h =
    slice_split-cons_no (λ c. c == 44) b (a ++ 44 ∷ bs) (first_of_none b a h) ∙ ap (onto_first b) (up_to a bs (rest_of b a h))

pub alone : (bs : List ℕ) → IsSplitOnceResult 44 bs None → parts_of bs ≡ bs ∷ []
alone bs h = none_in bs (split_parts 44 bs None h (lit< tt))

pub cut : (bs : List ℕ) (a rest : Bor (List ℕ)) → IsSplitOnceResult 44 bs (Some (a, rest)) → parts_of bs ≡ a.now ∷ parts_of rest.now
cut bs a rest h =
    let both = split_parts 44 bs (Some (a, rest)) h (lit< tt) in
    ap parts_of both.0 ∙ up_to a.now rest.now both.1

pub none_held : (bs : List ℕ) → NoComma bs → parts_of bs ≡ bs ∷ []
none_held bs h = none_in bs h

grown : (cut : Bool) (b : ℕ) (parts : List (List ℕ)) → length parts ≤ length (cond cut ([] ∷ parts) (onto_first b parts))
grown true b parts = omega arith
grown false b [] = omega arith
grown false b (part ∷ parts) = omega arith

pub more_than_one : (bs : List ℕ) (k : ℕ) → k < length bs → get_or bs k 0 ≡ 44 → 2 ≤ length (parts_of bs)
more_than_one [] k inside at = omega arith
more_than_one (b ∷ bs) zero inside at = rw at (omega (arith, length-slice_split (λ c. c == 44) bs))
more_than_one (b ∷ bs) (suc k) inside at =
    let more = more_than_one bs k (omega arith) at in
    omega (arith, more, grown (b == 44) b (parts_of bs))
