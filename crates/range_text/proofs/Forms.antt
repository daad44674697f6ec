-- The forms of the values, and what is read of them.
use Rattle.std.proofs.Common.{◌≡◌, ◌≤◌, ◌<◌, ◌∙◌, ℕ, Bool, true, false, refl, sym, ap, subst, arith, List, [], ◌∷◌, ◌++◌, length, Some, None, Option, append_assoc}
use Rattle.std.specs.Prelude.{◌==◌, ◌&&◌, codes, if◌then◌else◌, nat_le, nat_lt}
use Rattle.std.specs.Option.{option_map, option_and_then, IfSome}
use Rattle.std.specs.Str.{bytes_eq}
use Rattle.std.proofs.lemmas.Bool.Decides.{nat_tests}
use Rattle.std.proofs.lemmas.Option.{cond_some, option_and_then_some}
use Rattle.std.proofs.lemmas.Slice.Eq.{bytes_eq-Decides}
use Rattle.range_text.specs.declared.reading.Asked.{Asked}
use Rattle.range_text.specs.declared.reading.Asked.TheVariants.{Between, FromOn, AtEnd}
use Rattle.range_text.specs.declared.answers.ContentRange.{ContentRange}
use Rattle.range_text.specs.declared.answers.ContentRange.TheVariants.{Part, Unsatisfied}
use Rattle.range_text.specs.Ranges.{IsUnit, Range, between, from_on, at_end, SpellsNumber, SpellsRange, a_to_b, a_on, last_k, SpellsContent, a_to_b_of, none_of}
use Rattle.range_text.specs.Reading.{asked_between, asked_of, content_of, cut, number_of, part_within, parts_of, range_of, told_of}
use Rattle.range_text.proofs.Digits.{no_such_byte, number_back, number_found, number_parts}
use Rattle.range_text.proofs.Cuts.{Lacks, cut_at, cut_back, lacks_append}
use Rattle.range_text.proofs.Words.{parts_at, parts_back}

-- a number has a digit
some_digit : (digits : List ℕ) (n : ℕ) → SpellsNumber digits n → (length digits == 0) ≡ false
some_digit digits n spelled = let parts = number_parts digits spelled.form in grind (arith, nat_tests)

nonempty : (c : ℕ) (cs : List ℕ) → (length (c ∷ cs) == 0) ≡ false
nonempty c cs = grind (arith, nat_tests)

-- ranges

between_two : (first last : List ℕ) (a b : ℕ) → SpellsNumber first a → SpellsNumber last b → asked_between first last ≡ Some (Between a b)
between_two first last a b f l =
    let first_some = some_digit first a f in
    let last_some = some_digit last b l in
    let first_is = number_found first a f in
    let last_is = number_found last b l in
    rw (first_some, first_is, last_some, last_is)

from_one : (first : List ℕ) (a : ℕ) → SpellsNumber first a → asked_between first [] ≡ Some (FromOn a)
from_one first a f =
    let first_some = some_digit first a f in
    let first_is = number_found first a f in
    rw (first_some, first_is)

at_the_end : (last : List ℕ) (k : ℕ) → SpellsNumber last k → asked_between [] last ≡ Some (AtEnd k)
at_the_end last k l = ap (option_map AtEnd) (number_found last k l)

asked_at : (word first last : List ℕ) → IsUnit word → Lacks 45 first → asked_of (word ++ 61 ∷ (first ++ 45 ∷ last)) ≡ asked_between first last
asked_at word first last unit free =
    ap (option_and_then (λ parts. asked_between (parts.0) (parts.1))) (parts_at 61 45 word first last refl refl unit free)

shape : (word first last front middle : List ℕ) → word ++ front ++ first ++ middle ++ last ≡ word ++ (front ++ (first ++ (middle ++ last)))
shape word first last front middle = simp append_assoc

pub range_found : (value : List ℕ) (range : Range) → SpellsRange value range → option_map range_of (asked_of value) ≡ Some range
range_found _ _ (a_to_b word first last a b unit f l) =
    ap (λ value. option_map range_of (asked_of value)) (shape word first last (codes "=") (codes "-"))
    ∙ ap (option_map range_of) (asked_at word first last unit (no_such_byte 45 first a (omega arith) f) ∙ between_two first last a b f l)
range_found _ _ (a_on word first a unit f) =
    ap (λ value. option_map range_of (asked_of value)) (append_assoc (word ++ codes "=") first (codes "-") ∙ append_assoc word (codes "=") (first ++ codes "-"))
    ∙ ap (option_map range_of) (asked_at word first [] unit (no_such_byte 45 first a (omega arith) f) ∙ from_one first a f)
range_found _ _ (last_k word suffix k unit l) =
    ap (λ value. option_map range_of (asked_of value)) (append_assoc word (codes "=-") suffix)
    ∙ ap (option_map range_of) (asked_at word [] suffix unit refl ∙ at_the_end suffix k l)

behind_first : (word first last : List ℕ) (a : ℕ) (asked : Asked) → IsUnit word → SpellsNumber first a
    → (if length last == 0 then Some (FromOn a) else option_map (Between a) (number_of last)) ≡ Some asked
    → SpellsRange (word ++ 61 ∷ (first ++ 45 ∷ last)) (range_of asked)
behind_first word first [] a asked unit f e =
    let same : FromOn a ≡ asked = cc in
    let shaped = append_assoc (word ++ codes "=") first (codes "-") ∙ append_assoc word (codes "=") (first ++ codes "-") in
    subst (λ x. SpellsRange (word ++ 61 ∷ (first ++ 45 ∷ [])) (range_of x)) same
    (subst (λ value. SpellsRange value (from_on a)) shaped (a_on word first a unit f))
behind_first word first (d ∷ ds) a asked unit f e =
    option_and_then_some (λ b. Some (Between a b)) (number_of (d ∷ ds)) asked (rw (nonempty d ds) at e) (λ b found is.
    let same : Between a b ≡ asked = cc in
    subst (λ x. SpellsRange (word ++ 61 ∷ (first ++ 45 ∷ d ∷ ds)) (range_of x)) same
    (subst (λ value. SpellsRange value (between a b)) (shape word first (d ∷ ds) (codes "=") (codes "-"))
    (a_to_b word first (d ∷ ds) a b unit f (number_back (d ∷ ds) b found))))

between_back : (word first last : List ℕ) (asked : Asked) → IsUnit word → asked_between first last ≡ Some asked
    → SpellsRange (word ++ 61 ∷ (first ++ 45 ∷ last)) (range_of asked)
between_back word [] last asked unit e =
    option_and_then_some (λ k. Some (AtEnd k)) (number_of last) asked e (λ k found is.
    let same : AtEnd k ≡ asked = cc in
    subst (λ x. SpellsRange (word ++ 61 ∷ 45 ∷ last) (range_of x)) same
    (subst (λ value. SpellsRange value (at_end k)) (append_assoc word (codes "=-") last) (last_k word last k unit (number_back last k found))))
between_back word (c ∷ cs) last asked unit e =
    option_and_then_some (λ a. if length last == 0 then Some (FromOn a) else option_map (Between a) (number_of last)) (number_of (c ∷ cs)) asked (rw (nonempty c cs) at e) (λ a found is.
    behind_first word (c ∷ cs) last a asked unit (number_back (c ∷ cs) a found) is)

pub range_back : (value : List ℕ) (asked : Asked) → asked_of value ≡ Some asked → SpellsRange value (range_of asked)
range_back value asked e =
    option_and_then_some (λ parts. asked_between (parts.0) (parts.1)) (parts_of 61 45 value) asked e (λ parts found is.
    let apart = parts_back 61 45 value (parts.0) (parts.1) found in
    subst (λ v. SpellsRange v (range_of asked)) (sym apart.whole) (between_back apart.word (parts.0) (parts.1) asked apart.unit is))

pub only_range : (value : List ℕ) (asked : Asked) (range : Range) → Some asked ≡ asked_of value → SpellsRange value range → range_of asked ≡ range
only_range value asked range e spelled =
    let found = range_found value range spelled in
    let both = ap (option_map range_of) e in
    cc

pub no_range : (value : List ℕ) (range : Range) → None ≡ asked_of value → SpellsRange value range → ⊥
no_range value range e spelled =
    let found = range_found value range spelled in
    let both = ap (option_map range_of) e in
    cc

-- content ranges

no_star : (first last : List ℕ) → bytes_eq (first ++ 45 ∷ last) (codes "*") ≡ false
no_star [] last = refl
no_star (c ∷ []) last = grind arith
no_star (c ∷ d ∷ cs) last = grind arith

told_part : (first last : List ℕ) (a b n : ℕ) → SpellsNumber first a → SpellsNumber last b → a ≤ b → b < n
    → told_of (first ++ 45 ∷ last) n ≡ Some (Part a b n)
told_part first last a b n f l order inside =
    let unlike = no_star first last in
    let apart = cut_at 45 first last (no_such_byte 45 first a (omega arith) f) in
    let first_is = number_found first a f in
    let last_is = number_found last b l in
    let within : (nat_le a b && nat_lt b n) ≡ true = grind (arith, nat_tests) in
    rw (unlike, apart, first_is, last_is, within)

content_at : (word part whole : List ℕ) → IsUnit word → Lacks 47 part
    → content_of (word ++ 32 ∷ (part ++ 47 ∷ whole)) ≡ option_and_then (told_of part) (number_of whole)
content_at word part whole unit free =
    ap (option_and_then (λ parts. option_and_then (told_of (parts.0)) (number_of (parts.1)))) (parts_at 32 47 word part whole refl refl unit free)

content_shape : (word first last whole : List ℕ)
    → word ++ codes " " ++ first ++ codes "-" ++ last ++ codes "/" ++ whole ≡ word ++ 32 ∷ ((first ++ 45 ∷ last) ++ 47 ∷ whole)
content_shape word first last whole = simp append_assoc

pub content_found : (value : List ℕ) (range : ContentRange) → SpellsContent value range → content_of value ≡ Some range
content_found _ _ (a_to_b_of word first last whole a b n unit f l w order inside) =
    let free = lacks_append 47 first (45 ∷ last) (no_such_byte 47 first a (omega arith) f) (no_such_byte 47 last b (omega arith) l) in
    ap content_of (content_shape word first last whole)
    ∙ content_at word (first ++ 45 ∷ last) whole unit free
    ∙ ap (option_and_then (told_of (first ++ 45 ∷ last))) (number_found whole n w)
    ∙ told_part first last a b n f l order inside
content_found _ _ (none_of word whole n unit w) =
    ap content_of (append_assoc word (codes " */") whole)
    ∙ content_at word (codes "*") whole unit refl
    ∙ ap (option_and_then (told_of (codes "*"))) (number_found whole n w)

part_back : (word first last whole : List ℕ) (a b n : ℕ) (range : ContentRange) → IsUnit word → SpellsNumber first a → SpellsNumber last b
    → SpellsNumber whole n → part_within n a b ≡ Some range → SpellsContent (word ++ 32 ∷ ((first ++ 45 ∷ last) ++ 47 ∷ whole)) range
part_back word first last whole a b n range unit f l w e =
    let within = cond_some (nat_le a b && nat_lt b n) (Part a b n) range e in
    let both : (nat_le a b && nat_lt b n) ≡ true = within.0 in
    let order : a ≤ b = grind (arith, nat_tests) in
    let inside : b < n = grind (arith, nat_tests) in
    subst (SpellsContent (word ++ 32 ∷ ((first ++ 45 ∷ last) ++ 47 ∷ whole))) (within.1)
    (subst (λ value. SpellsContent value (Part a b n)) (content_shape word first last whole)
    (a_to_b_of word first last whole a b n unit f l w order inside))

told_back : (star : Bool) (word part whole : List ℕ) (n : ℕ) (range : ContentRange) → IsUnit word → SpellsNumber whole n
    → bytes_eq part (codes "*") ≡ star
    → (if star then Some (Unsatisfied n)
    else option_and_then (λ parts. option_and_then (λ a. option_and_then (part_within n a) (number_of (parts.1))) (number_of (parts.0))) (cut 45 part))
    ≡ Some range
    → SpellsContent (word ++ 32 ∷ (part ++ 47 ∷ whole)) range
told_back true word part whole n range unit w star e =
    let same : Unsatisfied n ≡ range = cc in
    let star_is = (bytes_eq-Decides part (codes "*")).0 star in
    subst (λ text. SpellsContent (word ++ 32 ∷ (text ++ 47 ∷ whole)) range) (sym star_is)
    (subst (SpellsContent (word ++ 32 ∷ 42 ∷ 47 ∷ whole)) same
    (subst (λ value. SpellsContent value (Unsatisfied n)) (append_assoc word (codes " */") whole) (none_of word whole n unit w)))
told_back false word part whole n range unit w star e =
    option_and_then_some (λ parts. option_and_then (λ a. option_and_then (part_within n a) (number_of (parts.1))) (number_of (parts.0))) (cut 45 part) range e
    (λ parts found first_on.
    option_and_then_some (λ a. option_and_then (part_within n a) (number_of (parts.1))) (number_of (parts.0)) range first_on
    (λ a first_is last_on.
    option_and_then_some (part_within n a) (number_of (parts.1)) range last_on
    (λ b last_is within.
    subst (λ text. SpellsContent (word ++ 32 ∷ (text ++ 47 ∷ whole)) range) (sym (cut_back 45 part (parts.0) (parts.1) found))
    (part_back word (parts.0) (parts.1) whole a b n range unit (number_back (parts.0) a first_is) (number_back (parts.1) b last_is) w within))))

pub content_back : (value : List ℕ) (range : ContentRange) → content_of value ≡ Some range → SpellsContent value range
content_back value range e =
    option_and_then_some (λ parts. option_and_then (told_of (parts.0)) (number_of (parts.1))) (parts_of 32 47 value) range e
    (λ parts found size_on.
    option_and_then_some (told_of (parts.0)) (number_of (parts.1)) range size_on
    (λ n size_is told.
    let apart = parts_back 32 47 value (parts.0) (parts.1) found in
    subst (λ v. SpellsContent v range) (sym apart.whole)
    (told_back (bytes_eq (parts.0) (codes "*")) apart.word (parts.0) (parts.1) n range apart.unit (number_back (parts.1) n size_is) refl told)))

pub only_content : (value : List ℕ) (result : Option ContentRange) → result ≡ content_of value → (range : ContentRange) → SpellsContent value range → result ≡ Some range
only_content value result e range spelled = e ∙ content_found value range spelled

pub some_content : (value : List ℕ) (result : Option ContentRange) → result ≡ content_of value → IfSome result (SpellsContent value)
some_content value None e = tt
some_content value (Some range) e = content_back value range (sym e)
