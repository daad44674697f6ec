-- Whether bytes begin with a piece of the grammar is decided.
use Rattle.std.proofs.Common.{◌≡◌, ◌≤◌, ◌<◌, ◌∙◌, ℕ, zero, suc, Bool, true, false, refl, sym, ap, subst, arith, List, [], ◌∷◌, ◌++◌, length, append_assoc, append-nil, length-append, inl, inr}
use Rattle.std.specs.Prelude.{◌⊎◌}
use Rattle.std.specs.Str.{IsUtf8, is_utf8}
use Rattle.std.proofs.lemmas.Bool.{cases_eq, false≢true}
use Rattle.std.proofs.lemmas.List.Elements.{All-nil, All-cons}
use Rattle.std.proofs.lemmas.Str.{IsUtf8-from_is_utf8, is_utf8-from_IsUtf8}
use Rattle.httparse.specs.Grammar.{AllPass, Field, LineEnd, crlf, lf, is_token_byte, is_uri_byte, is_value_byte, print_blank, print_end, print_version}
use Rattle.httparse.specs.Pieces.{Begins, Blank, Bytes, FieldLine, FieldLines, Method, Newline, Piece, RequestStart, Section, Stops, Target, Text, Then, Version, Word, is_newline}
use Rattle.httparse.proofs.PieceLemmas.{IsDeterministic, Blank_deterministic, FieldLines_push, FieldLine_parts, Method_deterministic, Name_deterministic, Newline_deterministic, NotYet_elim, NotYet_intro, RequestStart_deterministic, Stops_value, Target_deterministic, Version_deterministic, Word_deterministic, colon_ends_token, print_field-append, space_ends_token}
use Rattle.httparse.proofs.ReadLemmas.{FieldLine_done, Section_after, Section_done}
use Rattle.httparse.proofs.RunLemmas.{run_unique, run_unstopped}

-- the text begins with the piece, or it does not
abbrev pub Decided : {A : Type 0} → Piece A → List ℕ → Type 0
Decided G text = Begins G text ⊎ ¬ (Begins G text)

both : {b : Bool} → b ≡ true → b ≡ false → ⊥
both holds fails = false≢true (sym fails ∙ holds)

-- one piece and then another
pub then_decided : {A B : Type 0} {G : Piece A} {H : Piece B} → IsDeterministic G
    → ((text : List ℕ) → Decided G text) → ((text : List ℕ) → Decided H text) → (text : List ℕ) → Decided (Then G H) text
then_decided {G} {H} det first second text =
    elim (first text) [
      | inr none ↦ inr (λ x. none (x.0.0, x.2.0, x.2.1))
      | inl found ↦ elim (second found.1) [
        | inl next ↦ inl ((found.0, next.0), next.1, (found.1, found.2, next.2))
        | inr none ↦ inr (λ x.
            let same = det.unique x.0.0 found.0 text x.2.0 found.1 x.2.1 found.2 in
            none (x.0.1, x.1, subst (λ (middle : List ℕ). H x.0.1 middle x.1) same.1 x.2.2))
      ]
    ]

-- given bytes
pub bytes_decided : (bytes text : List ℕ) → Decided (Bytes bytes) text
bytes_decided [] text = inl (tt, text, refl)
bytes_decided (b ∷ bytes) [] = inr (λ x. cc)
bytes_decided (b ∷ bytes) (c ∷ text) =
    elim (cases_eq c b) [
      | inr other ↦ inr (λ x. other (cc))
      | inl same ↦ elim (bytes_decided bytes text) [
        | inl found ↦ inl (tt, found.1, cc)
        | inr none ↦ inr (λ x. none (tt, x.1, cc))
      ]
    ]

-- the bytes at the front that pass a test, and the rest
record Split (test : ℕ → Bool) (text : List ℕ) : Type 0 where
  run : List ℕ
  rest : List ℕ
  pass : AllPass test run
  whole : text ≡ run ++ rest
  ends : (rest ≡ []) ⊎ Stops test rest

split_more : (test : ℕ → Bool) (b : ℕ) (text : List ℕ) → test b ≡ true → Split test text → Split test (b ∷ text)
split_more test b text passes s = record {
  run = b ∷ s.run;
  rest = s.rest;
  pass = All-cons (λ v. test v ≡ true) b s.run passes s.pass;
  whole = ap (λ (t : List ℕ). b ∷ t) s.whole;
  ends = s.ends;
}

split_at : (test : ℕ → Bool) (b : ℕ) (text : List ℕ) (v : Bool) → test b ≡ v → Split test text → Split test (b ∷ text)
split_at test b text true passes s = split_more test b text passes s
split_at test b text false fails s =
    record { run = []; rest = b ∷ text; pass = All-nil (λ v. test v ≡ true); whole = refl; ends = inr fails }

split : (test : ℕ → Bool) (text : List ℕ) → Split test text
split test [] = record { run = []; rest = []; pass = All-nil (λ v. test v ≡ true); whole = refl; ends = inl refl }
split test (b ∷ text) = split_at test b text (test b) refl (split test text)

-- a run of bytes, and the byte that stops it
word_from : (test : ℕ → Bool) (stop : ℕ) → test stop ≡ false → (text run rest : List ℕ) → AllPass test run → text ≡ run ++ rest
    → (rest ≡ []) ⊎ Stops test rest → Decided (Word test stop) text
word_from test stop fails text run [] pass whole ends =
    inr (λ x. run_unstopped test x.0 (stop ∷ x.1) (subst (AllPass test) (sym (append-nil run) ∙ sym whole ∙ x.2.2) pass) fails)
word_from test stop fails text [] (b ∷ rest) pass whole (inl none) = absurd (cc)
word_from test stop fails text [] (b ∷ rest) pass whole (inr stops) =
    inr (λ x.
    let same = run_unique test x.0 [] (stop ∷ x.1) (b ∷ rest) x.2.1 pass fails stops (sym x.2.2 ∙ whole) in
    omega (arith, x.2.0, ap length same.0))
word_from test stop fails text (a ∷ run) (b ∷ rest) pass whole (inl none) = absurd (cc)
word_from test stop fails text (a ∷ run) (b ∷ rest) pass whole (inr stops) =
    elim (cases_eq b stop) [
      | inl same ↦ inl (a ∷ run, rest, (omega arith, pass, whole ∙ ap (λ (c : ℕ). (a ∷ run) ++ c ∷ rest) same))
      | inr other ↦ inr (λ x.
          let same = run_unique test x.0 (a ∷ run) (stop ∷ x.1) (b ∷ rest) x.2.1 pass fails stops (sym x.2.2 ∙ whole) in
          other (cc))
    ]

pub word_decided : (test : ℕ → Bool) (stop : ℕ) → test stop ≡ false → (text : List ℕ) → Decided (Word test stop) text
word_decided test stop fails text =
    let s = split test text in word_from test stop fails text s.run s.rest s.pass s.whole s.ends

-- line ends
pub newline_decided : (text : List ℕ) → Decided Newline text
newline_decided text =
    elim (bytes_decided (print_end crlf) text) [
      | inl found ↦ inl (crlf, found.1, found.2)
      | inr no_crlf ↦ elim (bytes_decided (print_end lf) text) [
        | inl found ↦ inl (lf, found.1, found.2)
        | inr no_lf ↦ inr (λ x. neither no_crlf no_lf x.0 x.1 x.2)
      ]
    ]
  where
    neither : {t : List ℕ} → ¬ (Begins (Bytes (print_end crlf)) t) → ¬ (Begins (Bytes (print_end lf)) t)
        → (end : LineEnd) (rest : List ℕ) → t ≡ print_end end ++ rest → ⊥
    neither no_crlf no_lf crlf rest e = no_crlf (tt, rest, e)
    neither no_crlf no_lf lf rest e = no_lf (tt, rest, e)

longer : (end : LineEnd) (text rest : List ℕ) → Newline end text rest → length rest < length text
longer crlf text rest e = omega (arith, ap length e)
longer lf text rest e = omega (arith, ap length e)

-- the empty lines in front
blank_more : (end : LineEnd) (text rest : List ℕ) → Newline end text rest → Begins Blank rest → Begins Blank text
blank_more end text rest e found =
    (end ∷ found.0, found.1, (e ∙ ap (λ (t : List ℕ). print_end end ++ t) found.2.0 ∙ sym (append_assoc (print_end end) (print_blank found.0) found.1), found.2.1))

blank_less : (end : LineEnd) (text rest : List ℕ) → Newline end text rest → Begins Blank text → Begins Blank rest
blank_less end text rest e x = go x.0 x.1 x.2.0 x.2.1
  where
    go : (ends : List LineEnd) (after : List ℕ) → text ≡ print_blank ends ++ after → Stops is_newline after → Begins Blank rest
    go [] after whole stops = absurd (stopped end (subst (Stops is_newline) (sym whole ∙ e) stops))
      where
        stopped : (line : LineEnd) → Stops is_newline (print_end line ++ rest) → ⊥
        stopped crlf s = false≢true (sym s)
        stopped lf s = false≢true (sym s)
    go (first ∷ ends) after whole stops =
        let same = Newline_deterministic.unique first end text (print_blank ends ++ after) rest (whole ∙ append_assoc (print_end first) (print_blank ends) after) e in
        (ends, after, (sym same.1, stops))

-- a byte of a line end that begins none
blank_none : (text : List ℕ) → ¬ (Begins Newline text) → (ends : List LineEnd) (after : List ℕ) → text ≡ print_blank ends ++ after → text ≡ after
blank_none text none [] after e = e
blank_none text none (first ∷ ends) after e =
    absurd (none (first, print_blank ends ++ after, e ∙ append_assoc (print_end first) (print_blank ends) after))

blank_stopped : (text : List ℕ) → ¬ (Begins Newline text) → Decided Blank text
blank_stopped [] none = inr (λ x. subst (Stops is_newline) (sym (blank_none [] none x.0 x.1 x.2.0)) x.2.1)
blank_stopped (b ∷ text) none = go (is_newline b) refl
  where
    go : (v : Bool) → is_newline b ≡ v → Decided Blank (b ∷ text)
    go false stops = inl ([], b ∷ text, (refl, stops))
    go true newline = inr (λ x. both newline (subst (Stops is_newline) (sym (blank_none (b ∷ text) none x.0 x.1 x.2.0)) x.2.1))

blank_from : (fuel : ℕ) (text : List ℕ) → length text < fuel → Decided Blank text
blank_from zero text short = absurd (omega arith)
blank_from (suc fuel) text short =
    elim (newline_decided text) [
      | inr none ↦ blank_stopped text none
      | inl found ↦ elim (blank_from fuel found.1 (omega (arith, longer found.0 text found.1 found.2))) [
        | inl blank ↦ inl (blank_more found.0 text found.1 found.2 blank)
        | inr none ↦ inr (λ x. none (blank_less found.0 text found.1 found.2 x))
      ]
    ]

pub blank_decided : (text : List ℕ) → Decided Blank text
blank_decided text = blank_from (suc (length text)) text (omega arith)

-- the words of the request line
pub method_decided : (text : List ℕ) → Decided Method text
method_decided = word_decided is_token_byte 32 space_ends_token

pub target_decided : (text : List ℕ) → Decided Target text
target_decided text =
    elim (word_decided is_uri_byte 32 refl text) [
      | inr none ↦ inr (λ x. none (x.0, x.1, x.2.0))
      | inl found ↦ go found.0 found.1 found.2 (is_utf8 found.0) refl
    ]
  where
    go : (target rest : List ℕ) → Word is_uri_byte 32 target text rest → (v : Bool) → is_utf8 target ≡ v → Decided Target text
    go target rest word true valid = inl (target, rest, (word, IsUtf8-from_is_utf8 target valid))
    go target rest word false invalid = inr (λ x.
        let same = (Word_deterministic is_uri_byte 32 refl).unique x.0 target text x.1 rest x.2.0 word in
        both (is_utf8-from_IsUtf8 target (subst IsUtf8 same.0 x.2.1)) invalid)

pub version_decided : (text : List ℕ) → Decided Version text
version_decided text =
    elim (bytes_decided (print_version 0) text) [
      | inl found ↦ inl (0, found.1, (omega arith, found.2))
      | inr not_zero ↦ elim (bytes_decided (print_version 1) text) [
        | inl found ↦ inl (1, found.1, (omega arith, found.2))
        | inr not_one ↦ inr (λ x. neither not_zero not_one x.0 x.1 x.2.0 x.2.1)
      ]
    ]
  where
    neither : {t : List ℕ} → ¬ (Begins (Bytes (print_version 0)) t) → ¬ (Begins (Bytes (print_version 1)) t)
        → (minor : ℕ) (rest : List ℕ) → minor ≤ 1 → t ≡ print_version minor ++ rest → ⊥
    neither not_zero not_one zero rest few e = not_zero (tt, rest, e)
    neither not_zero not_one (suc zero) rest few e = not_one (tt, rest, e)
    neither not_zero not_one (suc (suc n)) rest few e = omega arith

pub start_decided : (text : List ℕ) → Decided RequestStart text
start_decided =
    then_decided Blank_deterministic blank_decided (then_decided Method_deterministic method_decided
    (then_decided Target_deterministic target_decided (then_decided Version_deterministic version_decided newline_decided)))

-- field lines
text_from : (text run rest : List ℕ) → AllPass is_value_byte run → text ≡ run ++ rest
    → (rest ≡ []) ⊎ Stops is_value_byte rest → Decided Text text
text_from text run rest pass whole (inl none) =
    inr (λ x. run_unstopped is_value_byte x.0.0 (print_end x.0.1 ++ x.1)
    (subst (AllPass is_value_byte) (sym (append-nil run) ∙ ap (λ (t : List ℕ). run ++ t) (sym none) ∙ sym whole ∙ x.2.1) pass) (Stops_value x.0.1 x.1))
text_from text run rest pass whole (inr stops) =
    elim (newline_decided rest) [
      | inl found ↦ inl ((run, found.0), found.1, (pass, whole ∙ ap (λ (t : List ℕ). run ++ t) found.2))
      | inr none ↦ inr (λ x.
          let same = run_unique is_value_byte x.0.0 run (print_end x.0.1 ++ x.1) rest x.2.0 pass (Stops_value x.0.1 x.1) stops (sym x.2.1 ∙ whole) in
          none (x.0.1, x.1, sym same.1))
    ]

pub text_decided : (text : List ℕ) → Decided Text text
text_decided text = let s = split is_value_byte text in text_from text s.run s.rest s.pass s.whole s.ends

pub field_line_decided : (text : List ℕ) → Decided FieldLine text
field_line_decided text =
    elim (then_decided Name_deterministic (word_decided is_token_byte 58 colon_ends_token) text_decided text) [
      | inl found ↦ inl (_, found.1, FieldLine_done found.0.0 found.0.1.0 found.0.1.1 text found.2.0 found.1 found.2.1 found.2.2)
      | inr none ↦ inr (λ x. none (_, x.1, FieldLine_parts x.0 text x.1 x.2))
    ]

shorter : (f : Field) (text rest : List ℕ) → FieldLine f text rest → length rest < length text
shorter f text rest line =
    omega (
      arith,
      ap length (line.1 ∙ print_field-append f rest),
      length-append f.name (58 ∷ (f.raw ++ (print_end f.end ++ rest))),
      length-append f.raw (print_end f.end ++ rest),
      length-append (print_end f.end) rest,
    )

-- the fields after those that were read
section_from : (fuel : ℕ) (fs : List Field) (text middle : List ℕ) → length middle < fuel → FieldLines fs text middle → Decided Section text
section_from zero fs text middle short lines = absurd (omega arith)
section_from (suc fuel) fs text middle short lines =
    elim (newline_decided middle) [
      | inl found ↦ inl ((fs, found.0), found.1, Section_done fs found.0 text middle found.1 lines found.2)
      | inr no_end ↦ elim (field_line_decided middle) [
        | inl found ↦ section_from fuel (fs ++ found.0 ∷ []) text found.1 (omega (arith, shorter found.0 middle found.1 found.2))
            (FieldLines_push fs found.0 text middle found.1 lines found.2)
        | inr no_line ↦ inr (λ x. NotYet_elim (Section_after fs lines (NotYet_intro (λ b. elim b [ inl end ↦ no_end end | inr line ↦ no_line line ]))) x)
      ]
    ]

pub section_decided : (text : List ℕ) → Decided Section text
section_decided text = section_from (suc (length text)) [] text text (omega arith) (All-nil _, refl)

pub head_decided : (text : List ℕ) → Decided (Then RequestStart Section) text
head_decided = then_decided RequestStart_deterministic start_decided section_decided
