-- The parts of a text, one `split_once` after another.
use Rattle.std.proofs.Common.{◌≡◌, ◌≢◌, ◌<◌, ◌↔◌, ℕ, ◌+◌, suc, true, false, List, [], ◌∷◌, ◌++◌, length, get_or, Some, None, refl, ap, arith, ◌∙◌, Bor, lit<, IsTrue}
use Rattle.std.specs.Prelude.{◌==◌, nat_le}
use Rattle.std.specs.List.{onto_first, filter, count_by}
use Rattle.std.proofs.lemmas.List.Splits.{length-slice_split, slice_split-cons_yes, slice_split-cons_no}
use Rattle.std.proofs.lemmas.List.Sums.{length-filter}
use Rattle.std.proofs.lemmas.Str.Pattern.{IsSplitOnceResult, split_parts}
use Rattle.box_list.specs.Lists.{box_parts}

abbrev NoPlus : List ℕ → Type 0
NoPlus bs = (i : ℕ) → i < length bs → get_or bs i 0 ≢ 43

rest_of : (b : ℕ) (bs : List ℕ) → NoPlus (b ∷ bs) → NoPlus bs
rest_of b bs h i inside = h (suc i) (omega arith)

first_of_none : (b : ℕ) (bs : List ℕ) → NoPlus (b ∷ bs) → (b == 43) ≡ false
first_of_none b bs h = let other : b ≢ 43 = h 0 (omega arith) in grind arith

none_in : (bs : List ℕ) → NoPlus bs → box_parts bs ≡ bs ∷ []
none_in [] h = refl
none_in (b ∷ bs) h =
    slice_split-cons_no (λ c. c == 43) b bs (first_of_none b bs h) ∙ ap (onto_first b) (none_in bs (rest_of b bs h))

up_to : (a bs : List ℕ) → NoPlus a → box_parts (a ++ 43 ∷ bs) ≡ a ∷ box_parts bs
up_to [] bs h = slice_split-cons_yes (λ c. c == 43) 43 bs refl
up_to (b ∷ a) bs h =
    slice_split-cons_no (λ c. c == 43) b (a ++ 43 ∷ bs) (first_of_none b a h) ∙ ap (onto_first b) (up_to a bs (rest_of b a h))

pub alone : (bs : List ℕ) → IsSplitOnceResult 43 bs None → box_parts bs ≡ bs ∷ []
alone bs h = none_in bs (split_parts 43 bs None h (lit< tt))

pub first_cut : (bs : List ℕ) (a rest : Bor (List ℕ)) → IsSplitOnceResult 43 bs (Some (a, rest)) → box_parts bs ≡ a.now ∷ box_parts rest.now
first_cut bs a rest h =
    let both = split_parts 43 bs (Some (a, rest)) h (lit< tt) in
    ap box_parts both.0 ∙ up_to a.now rest.now both.1

pub many : (bs : List ℕ) (n : ℕ) → n ≡ length (filter (λ c. c == 43) bs) → IsTrue (nat_le 8 n) ↔ (8 < length (box_parts bs))
many bs n is =
    let counted : length (box_parts bs) ≡ n + 1 = omega (arith, is, length-filter (λ c. c == 43) bs, length-slice_split (λ c. c == 43) bs) in
    (λ t. grind (arith, counted, t), λ l. grind (arith, counted, l))
