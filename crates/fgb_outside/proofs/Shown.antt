-- How what several calls did to a source or a sink follows from what each did.
use Rattle.std.proofs.Common.{◌≡◌, ℕ, ◌+◌, ◌≤◌, List, [], ◌∷◌, ◌++◌, length, take, zero, suc, refl, sym, ap, ◌∙◌, append_assoc, arith}
use Rattle.std.specs.Prelude.{Option, Some, None, IsSome}
use Rattle.std.proofs.lemmas.List.{append-nil}
use Rattle.fgb_outside.specs.Source.{Source, Keeps, IfTold, Rose, added}
use Rattle.fgb_outside.specs.Sink.{Sink, Appends, AppendsPart}

pub added-added : {A : Type 0} (told : Option (List A)) (a b : List A) → added (added told a) b ≡ added told (a ++ b)
added-added None a b = refl
added-added (Some told) a b = ap Some (append_assoc told a b)

pub added-none : {A : Type 0} (told : Option (List A)) → added told [] ≡ told
added-none None = refl
added-none (Some told) = ap Some (append-nil told)

-- what is told with more at its end was told before
pub added-told : {A : Type 0} (told : Option (List A)) (more : List A) → IsSome (added told more) → IsSome told
added-told None more is = is
added-told (Some told) more is = refl

-- what is told stays told with more at its end
pub told-added : {A : Type 0} (told : Option (List A)) (more : List A) → IsSome told → IsSome (added told more)
told-added None more is = is
told-added (Some told) more is = refl

pub keeps_same : (s : Source) → Keeps s s
keeps_same s = record { image = refl; size = refl; later = omega arith; told = λ is. is }

pub keeps_trans : {a b c : Source} → Keeps a b → Keeps b c → Keeps a c
keeps_trans p q = record { image = q.image ∙ p.image; size = q.size ∙ p.size; later = omega arith; told = λ is. p.told (q.told is) }

-- what holds of the bytes that are told before a call holds of those told after it, and the other way round
pub IfTold-later : {a b : Source} (P : List ℕ → Type 0) → Keeps a b → IfTold a P → IfTold b P
IfTold-later P k holds image is = holds image (sym k.image ∙ is)

pub IfTold-earlier : {a b : Source} (P : List ℕ → Type 0) → Keeps a b → IfTold b P → IfTold a P
IfTold-earlier P k holds image is = holds image (k.image ∙ is)

-- a count that rose has risen since earlier, and stays so
pub rose_since : (a b c : ℕ) → a ≤ b → Rose b c → Rose a c
rose_since a b c le rose = omega arith

pub rose_until : (a b c : ℕ) → Rose a b → b ≤ c → Rose a c
rose_until a b c rose le = omega arith

pub appends_nothing : (s : Sink) → Appends s s []
appends_nothing s = sym (added-none s.written)

pub appends_appends : (a b c : Sink) (xs ys : List ℕ) → Appends a b xs → Appends b c ys → Appends a c (xs ++ ys)
appends_appends a b c xs ys p q = q ∙ ap (λ t. added t ys) p ∙ added-added a.written xs ys

-- all of a text is a part of it
pub appends_part : (a b : Sink) (xs : List ℕ) → Appends a b xs → AppendsPart a b xs
appends_part a b xs p = (length xs, p ∙ ap (added a.written) (sym (take_all xs)))
  where
    take_all : (ys : List ℕ) → take (length ys) ys ≡ ys
    take_all [] = refl
    take_all (y ∷ ys) = ap (λ l. y ∷ l) (take_all ys)

pub part_nothing : (s : Sink) (xs : List ℕ) → AppendsPart s s xs
part_nothing s xs = (0, sym (added-none s.written))

-- as much as n takes of a longer text
pub take_longer : (n : ℕ) (xs ys : List ℕ) → (m : ℕ) × (take m (xs ++ ys) ≡ take n xs)
take_longer zero xs ys = (0, refl)
take_longer (suc n) [] ys = (0, refl)
take_longer (suc n) (x ∷ xs) ys = let r = take_longer n xs ys in (suc r.0, ap (λ l. x ∷ l) r.1)

-- a part of a text is a part of a longer one
pub part_longer : (a b : Sink) (xs ys : List ℕ) → AppendsPart a b xs → AppendsPart a b (xs ++ ys)
part_longer a b xs ys p = let r = take_longer p.0 xs ys in (r.0, p.1 ∙ ap (added a.written) (sym r.1))

pub take_past : (xs ys : List ℕ) (n : ℕ) → take (length xs + n) (xs ++ ys) ≡ xs ++ take n ys
take_past [] ys n = let e : 0 + n ≡ n = omega arith in ap (λ k. take k ys) e
take_past (x ∷ xs) ys n =
    let e : suc (length xs) + n ≡ suc (length xs + n) = omega arith in
    ap (λ k. take k (x ∷ (xs ++ ys))) e ∙ ap (λ l. x ∷ l) (take_past xs ys n)

-- all of a text and then a part of what follows
pub appends_then_part : (a b c : Sink) (xs ys : List ℕ) → Appends a b xs → AppendsPart b c ys → AppendsPart a c (xs ++ ys)
appends_then_part a b c xs ys p q =
    (length xs + q.0, q.1 ∙ ap (λ t. added t (take q.0 ys)) p ∙ added-added a.written xs (take q.0 ys) ∙ ap (added a.written) (sym (take_past xs ys q.0)))
