-- A text is a word for one list of boxes, or has one fault.
use Rattle.std.proofs.Common.{◌≡◌, ◌⊎◌, inl, inr, ◌↔◌, ◌≤◌, ◌<◌, ℕ, Bool, true, false, List, [], ◌∷◌, ◌++◌, length, Some, None, Result, Ok, Err, IfOk, IfErr, IsErrOf, refl, ap, sym, subst, arith, ⊎_elim, ◌∙◌, ◌+◌, length-append, Option, MatchOption}
use Rattle.std.specs.List.{AllZip}
use Rattle.std.proofs.lemmas.Bool.{cases_lt}
use Rattle.order_keys.specs.declared.bounds.Bounds.{Bounds}
use Rattle.order_keys.specs.declared.words.BoundFault.{BoundFault}
use Rattle.order_keys.specs.declared.words.BoundFault.TheVariants.{Form, Order}
use Rattle.order_keys.specs.Boxes.{IsOrdered}
use Rattle.order_keys.specs.Words.{SpellsBox, SpellsCrossed, corners_fault}
use Rattle.order_keys.proofs.Corners.{no_fault, only_box, only_corners}
use Rattle.box_list.specs.Lists.{FirstFault, HasFault, IsFault, SpellsBoxes, box_parts}
use Rattle.box_list.specs.Lists.HasFault.{in_bounds, in_order}
use Rattle.box_list.specs.Lists.IsFault.{too_many, at_part}

no_word : (part : List ℕ) (fault : BoundFault) (b : Bounds) → HasFault part fault → SpellsBox part b → ⊥
no_word part fault b (in_bounds is) spelled = let none = no_fault part b spelled.each in cc
no_word part Order b (in_order crossed) spelled =
    crossed.crossed (subst IsOrdered (only_corners part b crossed.bounds spelled.each crossed.each) spelled.ordered)

one_fault : (part : List ℕ) (f g : BoundFault) → HasFault part f → HasFault part g → f ≡ g
one_fault part f g (in_bounds is) (in_bounds also) = cc
one_fault part f Order (in_bounds is) (in_order crossed) = let none = no_fault part crossed.bounds crossed.each in cc
one_fault part Order g (in_order crossed) (in_bounds is) = let none = no_fault part crossed.bounds crossed.each in cc
one_fault part Order Order (in_order crossed) (in_order other) = refl

no_words : (parts : List (List ℕ)) (boxes : List Bounds) (f : BoundFault) → FirstFault parts f → AllZip SpellsBox parts boxes → ⊥
no_words [] boxes f faulty spelled = faulty
no_words (part ∷ rest) [] f faulty spelled = spelled
no_words (part ∷ rest) (b ∷ boxes) f (inl faulty) spelled = no_word part f b faulty spelled.0
no_words (part ∷ rest) (b ∷ boxes) f (inr later) spelled = no_words rest boxes f later.1.1 spelled.1

same_fault : (parts : List (List ℕ)) (f g : BoundFault) → FirstFault parts f → FirstFault parts g → f ≡ g
same_fault [] f g h k = absurd h
same_fault (part ∷ rest) f g (inl h) (inl k) = one_fault part f g h k
same_fault (part ∷ rest) f g (inl h) (inr k) = absurd (no_word part f k.0 h k.1.0)
same_fault (part ∷ rest) f g (inr h) (inl k) = absurd (no_word part g h.0 k h.1.0)
same_fault (part ∷ rest) f g (inr h) (inr k) = same_fault rest f g h.1.1 k.1.1

same_boxes : (parts : List (List ℕ)) (xs ys : List Bounds) → AllZip SpellsBox parts xs → AllZip SpellsBox parts ys → xs ≡ ys
same_boxes [] [] [] h k = refl
same_boxes [] [] (y ∷ ys) h k = absurd k
same_boxes [] (x ∷ xs) ys h k = absurd h
same_boxes (part ∷ rest) [] ys h k = absurd h
same_boxes (part ∷ rest) (x ∷ xs) [] h k = absurd k
same_boxes (part ∷ rest) (x ∷ xs) (y ∷ ys) h k =
    let first = only_box part x y h.0 k.0 in
    let later = same_boxes rest xs ys h.1 k.1 in
    cc

pub as_many : (parts : List (List ℕ)) (boxes : List Bounds) → AllZip SpellsBox parts boxes → length parts ≡ length boxes
as_many [] [] h = refl
as_many [] (b ∷ boxes) h = absurd h
as_many (part ∷ rest) [] h = absurd h
as_many (part ∷ rest) (b ∷ boxes) h = omega (arith, as_many rest boxes h.1)

-- the parts in front are words
pub behind : (front rest : List (List ℕ)) (boxes : List Bounds) (f : BoundFault) → AllZip SpellsBox front boxes → FirstFault rest f
    → FirstFault (front ++ rest) f
behind [] rest boxes f spelled faulty = faulty
behind (part ∷ front) rest [] f spelled faulty = absurd spelled
behind (part ∷ front) rest (b ∷ boxes) f spelled faulty = inr (b, (spelled.0, behind front rest boxes f spelled.1 faulty))

pub one_more : (front : List (List ℕ)) (boxes : List Bounds) (part : List ℕ) (b : Bounds) → AllZip SpellsBox front boxes → SpellsBox part b
    → AllZip SpellsBox (front ++ part ∷ []) (boxes ++ b ∷ [])
one_more [] [] part b h is = (is, tt)
one_more [] (c ∷ boxes) part b h is = absurd h
one_more (other ∷ front) [] part b h is = absurd h
one_more (other ∷ front) (c ∷ boxes) part b h is = (h.0, one_more front boxes part b h.1 is)

-- the fault of a part that was read
pub faulty : (part : List ℕ) (r : Result Bounds BoundFault) → (IsErrOf r Order ↔ SpellsCrossed part)
    → IfErr r (λ fault. (fault ≡ Order) ⊎ (corners_fault part ≡ Some fault)) → IfErr r (HasFault part)
faulty part (Ok b) crossed each = tt
faulty part (Err f) crossed (inl is) = subst (HasFault part) (sym is) (in_order (crossed.0 (ap Err is)))
faulty part (Err f) crossed (inr is) = in_bounds is

-- what a result says of a text, and what it excludes
abbrev pub Tells : List ℕ → Result (List Bounds) BoundFault → Type 0
Tells text (Ok boxes) = SpellsBoxes text boxes × (length (box_parts text) ≤ 8)
Tells text (Err fault) = IsFault text fault

same_refusal : (text : List ℕ) (f g : BoundFault) → IsFault text f → IsFault text g → f ≡ g
same_refusal text Form Form (too_many long) (too_many longer) = refl
same_refusal text Form g (too_many long) (at_part few first) = absurd (omega (arith, long, few))
same_refusal text f Form (at_part few first) (too_many long) = absurd (omega (arith, long, few))
same_refusal text f g (at_part few first) (at_part few' first') = same_fault (box_parts text) f g first first'

no_list : (text : List ℕ) (f : BoundFault) (boxes : List Bounds) → IsFault text f → length boxes ≤ 8 → SpellsBoxes text boxes → ⊥
no_list text Form boxes (too_many long) few spelled = omega (arith, long, few, as_many (box_parts text) boxes spelled)
no_list text f boxes (at_part short first) few spelled = no_words (box_parts text) boxes f first spelled

pub only : (text : List ℕ) (r : Result (List Bounds) BoundFault) → Tells text r
    → (boxes : List Bounds) → length boxes ≤ 8 → SpellsBoxes text boxes → r ≡ Ok boxes
only text (Ok xs) told boxes few spelled = ap Ok (same_boxes (box_parts text) xs boxes told.0 spelled)
only text (Err f) told boxes few spelled = absurd (no_list text f boxes told few spelled)

pub each_fault : (text : List ℕ) (r : Result (List Bounds) BoundFault) → Tells text r → (f : BoundFault) → IsFault text f → r ≡ Err f
each_fault text (Ok xs) told f is =
    absurd (no_list text f xs is (omega (arith, told.1, as_many (box_parts text) xs told.0)) told.0)
each_fault text (Err g) told f is = ap Err (same_refusal text g f told is)

pub refused : (text : List ℕ) (r : Result (List Bounds) BoundFault) → length (box_parts text) ≤ 8
    → IfErr r (FirstFault (box_parts text)) → IfErr r (IsFault text)
refused text (Ok xs) few fault = tt
refused text (Err f) few fault = at_part few fault

pub told : (text : List ℕ) (r : Result (List Bounds) BoundFault) → length (box_parts text) ≤ 8 → IfOk r (SpellsBoxes text)
    → IfErr r (FirstFault (box_parts text)) → Tells text r
told text (Ok xs) few ok fault = (ok, few)
told text (Err f) few ok fault = at_part few fault

pub no_more : (b : Bool) (n : ℕ) → (b ≡ true → 8 < n) × (8 < n → b ≡ true) → b ≡ false → n ≤ 8
no_more b n h is =
    ⊎_elim (λ (less : 8 < n). let yes : b ≡ true = h.1 less in let none : ⊥ = cc in absurd none) (λ (few : n ≤ 8). few) (cases_lt 8 n)

-- the fault of a part behind parts that are words
pub fault_behind : (text : List ℕ) (front rest : List (List ℕ)) (part : List ℕ) (boxes : List Bounds) (f : BoundFault) → box_parts text ≡ front ++ part ∷ rest
    → AllZip SpellsBox front boxes → HasFault part f → FirstFault (box_parts text) f
fault_behind text front rest part boxes f is spelled faulty =
    subst (λ parts. FirstFault parts f) (sym is) (behind front (part ∷ rest) boxes f spelled (inl faulty))

-- more parts than eight
pub nine : (text : List ℕ) (front rest : List (List ℕ)) (part : List ℕ) (boxes : List Bounds) → box_parts text ≡ front ++ part ∷ rest
    → AllZip SpellsBox front boxes → length boxes ≡ 8 → length (box_parts text) ≤ 8 → ⊥
nine text front rest part boxes is spelled eight few =
    let long : length (front ++ part ∷ rest) ≡ length front + (length rest + 1) = omega (arith, length-append front (part ∷ rest)) in
    omega (arith, ap length is, long, as_many front boxes spelled, eight, few)

-- the exit of a `?`
pub exit_is : (P : BoundFault → Type 0) (r : Result (List Bounds) BoundFault) (f : BoundFault) → r ≡ Err f → P f → IfErr r P
exit_is P r f is h = subst (λ s. IfErr s P) (sym is) h

-- what `with` answered
pub was_full : (o : Option (List Bounds)) (boxes : List Bounds) (b : Bounds)
    → MatchOption o (length boxes ≡ 8) (λ more. (length boxes < 8) × (more ≡ boxes ++ b ∷ [])) → o ≡ None → length boxes ≡ 8
was_full None boxes b h is = h
was_full (Some more) boxes b h is = let none : ⊥ = cc in absurd none

pub was_added : (o : Option (List Bounds)) (boxes more : List Bounds) (b : Bounds)
    → MatchOption o (length boxes ≡ 8) (λ more. (length boxes < 8) × (more ≡ boxes ++ b ∷ [])) → o ≡ Some more → more ≡ boxes ++ b ∷ []
was_added None boxes more b h is = let none : ⊥ = cc in absurd none
was_added (Some other) boxes more b h is = let same : other ≡ more = cc in sym same ∙ h.1
