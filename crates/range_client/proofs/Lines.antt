-- A head of lines ends at its empty line, and no sooner.
use Rattle.std.proofs.Common.{◌≡◌, ◌≢◌, ℕ, ◌-◌, ◌<◌, Bool, true, false, List, [], ◌∷◌, ◌++◌, length, take, zero, suc, refl, sym, ap, subst, ◌∙◌, arith, append_assoc, append-nil, reverse}
use Rattle.std.specs.Prelude.{nat_eq, not, ◌==◌}
use Rattle.std.specs.List.{ends_with, list_all, AllByRecursion, flat_map}
use Rattle.std.proofs.lemmas.Bool.{false≢true}
use Rattle.std.proofs.lemmas.Bool.Decides.{Decides-eqb}
use Rattle.std.proofs.lemmas.List.{reverse-append}
use Rattle.std.proofs.lemmas.Slice.Eq.{ends_is}
use Rattle.request_head.specs.Requests.{empty_line}
use Rattle.byte_links.specs.Exchange.{head, line}
use Rattle.range_client.specs.Replies.{IsHead}

-- the last four bytes, from behind, are not those of an empty line
abbrev IsOpen : List ℕ → Type 0
IsOpen back = (more : List ℕ) → back ≢ 10 ∷ 13 ∷ 10 ∷ 13 ∷ more

-- behind these bytes, no front of the text ends in an empty line, but all of it may
abbrev IsOpenIn : List ℕ → List ℕ → Type 0
IsOpenIn back text = (n : ℕ) → n < length text → IsOpen (reverse (take n text) ++ back)

open_end : (back : List ℕ) → IsOpenIn back []
open_end back n none = absurd (omega arith)

open_next : (b : ℕ) (back text : List ℕ) → IsOpen back → IsOpenIn (b ∷ back) text → IsOpenIn back (b ∷ text)
open_next b back text here later zero inside = here
open_next b back text here later (suc n) inside = λ more e.
    later n (omega arith) more (sym (shifted (reverse (take n text))) ∙ ap (λ l. l ++ back) (sym (reverse-append (b ∷ []) (take n text))) ∙ e)
  where
    shifted : (xs : List ℕ) → (xs ++ b ∷ []) ++ back ≡ xs ++ b ∷ back
    shifted xs = append_assoc xs (b ∷ []) back

-- a byte that is no line feed
abbrev pub is_text : ℕ → Bool
is_text b = not (b == 10)

no_feed : (b : ℕ) → is_text b ≡ true → b ≢ 10
no_feed b passes e = let fails : is_text b ≡ false = ap is_text e in false≢true (sym fails ∙ passes)

-- a line with some text
line_open : (text more back : List ℕ) → 0 < length text → list_all is_text text ≡ true → IsOpen back
    → ((later : List ℕ) → IsOpen later → IsOpenIn later more) → IsOpenIn back (text ++ 13 ∷ 10 ∷ more)
line_open [] more back some all here rest = absurd (omega arith)
line_open (b ∷ []) more back some all here rest =
    let other : b ≢ 10 = no_feed b (grind arith) in
    open_next b back (13 ∷ 10 ∷ more) here
    (open_next 13 (b ∷ back) (10 ∷ more) (λ m e. other (cc))
    (open_next 10 (13 ∷ b ∷ back) more (λ m e. cc) (rest (10 ∷ 13 ∷ b ∷ back) (λ m e. other (cc)))))
line_open (b ∷ c ∷ text) more back some all here rest =
    let other : b ≢ 10 = no_feed b (grind arith) in
    let others : list_all is_text (c ∷ text) ≡ true = grind arith in
    open_next b back ((c ∷ text) ++ 13 ∷ 10 ∷ more) here (line_open (c ∷ text) more (b ∷ back) (omega arith) others (λ m e. other (cc)) rest)

-- the text of a line
pub record IsLine (text : List ℕ) : Type 0 where
  pub some : 0 < length text
  pub plain : list_all is_text text ≡ true

lines_open : (lines : List (List ℕ)) → AllByRecursion IsLine lines → (back : List ℕ) → IsOpen back → IsOpenIn back (flat_map line lines ++ 13 ∷ 10 ∷ [])
lines_open [] all back here =
    open_next 13 back (10 ∷ []) here (open_next 10 (13 ∷ back) [] (λ m e. cc) (open_end (10 ∷ 13 ∷ back)))
lines_open (text ∷ lines) all back here =
    subst (IsOpenIn back) (sym (apart (flat_map line lines)))
    (line_open text (flat_map line lines ++ 13 ∷ 10 ∷ []) back all.0.some all.0.plain here (lines_open lines all.1))
  where
    apart : (rest : List ℕ) → ((text ++ 13 ∷ 10 ∷ []) ++ rest) ++ 13 ∷ 10 ∷ [] ≡ text ++ 13 ∷ 10 ∷ (rest ++ 13 ∷ 10 ∷ [])
    apart rest = append_assoc (text ++ 13 ∷ 10 ∷ []) rest (13 ∷ 10 ∷ []) ∙ append_assoc text (13 ∷ 10 ∷ []) (rest ++ 13 ∷ 10 ∷ [])

-- lines end in a line end
lines_end : (text : List ℕ) (lines : List (List ℕ)) → (front : List ℕ) × (flat_map line (text ∷ lines) ≡ front ++ 13 ∷ 10 ∷ [])
lines_end text [] = (text, append-nil (text ++ 13 ∷ 10 ∷ []))
lines_end text (next ∷ lines) =
    let rest = lines_end next lines in
    ((text ++ 13 ∷ 10 ∷ []) ++ rest.0, ap (λ l. (text ++ 13 ∷ 10 ∷ []) ++ l) rest.1 ∙ sym (append_assoc (text ++ 13 ∷ 10 ∷ []) rest.0 (13 ∷ 10 ∷ [])))

-- what ends in an empty line, from behind
ends_back : (bytes : List ℕ) → ends_with nat_eq bytes empty_line ≡ true → (more : List ℕ) × (reverse bytes ≡ 10 ∷ 13 ∷ 10 ∷ 13 ∷ more)
ends_back bytes ends =
    let front : List ℕ = take (length bytes - 4) bytes in
    (reverse front, ap reverse ((ends_is Decides-eqb bytes empty_line (ends_with nat_eq bytes empty_line) refl).0 ends) ∙ reverse-append front empty_line)

false_unless : (b : Bool) → (b ≡ true → ⊥) → b ≡ false
false_unless true never = absurd (never refl)
false_unless false never = refl

pub head_of_lines : (text : List ℕ) (lines : List (List ℕ)) → AllByRecursion IsLine (text ∷ lines) → IsHead (head (text ∷ lines))
head_of_lines text lines all = record { ended = ended; first = first }
  where
    whole : List ℕ
    whole = head (text ∷ lines)

    ended : ends_with nat_eq (head (text ∷ lines)) empty_line ≡ true
    ended =
        let last = lines_end text lines in
        (ends_is Decides-eqb (head (text ∷ lines)) empty_line (ends_with nat_eq (head (text ∷ lines)) empty_line) refl).1 last.0
        (ap (λ l. l ++ 13 ∷ 10 ∷ []) last.1 ∙ append_assoc last.0 (13 ∷ 10 ∷ []) (13 ∷ 10 ∷ []))

    first : (n : ℕ) → n < length (head (text ∷ lines)) → ends_with nat_eq (take n (head (text ∷ lines))) empty_line ≡ false
    first n inside = false_unless _ (λ ends.
        let back = ends_back (take n (head (text ∷ lines))) ends in
        lines_open (text ∷ lines) all [] (λ m e. cc) n inside back.0 (append-nil (reverse (take n (head (text ∷ lines)))) ∙ back.1))
