-- What is written reads back.
use Rattle.std.proofs.Common.{◌≡◌, ◌≢◌, ◌∙◌, ◌++◌, ◌+◌, ◌∷◌, ◌==◌, [], ℕ, List, Bool, true, false, All, length, inl, inr, refl, sym, ap, append_assoc, suc, arith}
use Rattle.std.specs.Prelude.{◌&&◌}
use Rattle.std.specs.List.{list_any}
use Rattle.std.proofs.lemmas.Bool.{cases_Bool}
use Rattle.csv.specs.Machine.{next_record}
use Rattle.csv.specs.Reading.{default_config, is_bom, records_from, strip_bom}
use Rattle.csv.specs.Writing.{default_writer, field_text, fields_text, is_blank, needs_byte, read_back, row_text}
use Rattle.csv.specs.declared.parser.State.TheVariants as st
use Rattle.csv.proofs.RoundTrip.{read-write}
use Rattle.table_records.specs.Tables.{first_field, record_text, records_in, table_text}
use Rattle.table_records.proofs.Turns.{takes}

-- a byte that is none of a byte order mark
abbrev NoMark : ℕ → Type 0
NoMark c = ((c == 239) ≡ false) × ((c == 187) ≡ false) × ((c == 191) ≡ false)

and-false : (a : Bool) → (a && false) ≡ false
and-false true = refl
and-false false = refl

plain-first : (a : ℕ) (rest : List ℕ) → (a == 239) ≡ false → strip_bom (a ∷ rest) ≡ a ∷ rest
unfolding strip_bom
plain-first a [] e = refl
plain-first a (b ∷ []) e = refl
plain-first a (b ∷ c ∷ rest) e = rw e refl

plain-second : (a c : ℕ) (rest : List ℕ) → (c == 187) ≡ false → strip_bom (a ∷ c ∷ rest) ≡ a ∷ c ∷ rest
unfolding strip_bom
plain-second a c [] e = refl
plain-second a c (d ∷ rest) e = rw (e, and-false (a == 239)) refl

plain-third : (a b c : ℕ) (rest : List ℕ) → (c == 191) ≡ false → strip_bom (a ∷ b ∷ c ∷ rest) ≡ a ∷ b ∷ c ∷ rest
unfolding strip_bom
plain-third a b c rest e = rw (e, and-false ((a == 239) && (b == 187))) refl

not-shorter : (a b c : ℕ) (rest : List ℕ) → rest ≡ a ∷ b ∷ c ∷ rest → ⊥
not-shorter a b c rest e =
    let n : length rest ≡ length (a ∷ b ∷ c ∷ rest) = ap length e in
    omega (n, arith)

plain-all : (a b c : ℕ) (rest more : List ℕ) → strip_bom (a ∷ b ∷ c ∷ rest) ≡ a ∷ b ∷ c ∷ rest → strip_bom (a ∷ b ∷ c ∷ more) ≡ a ∷ b ∷ c ∷ more
unfolding strip_bom
plain-all a b c rest more e = elim (cases_Bool (is_bom a b c)) [
  | inl mark ↦ absurd (not-shorter a b c rest (rw mark at e))
  | inr plain ↦ rw plain refl
]

-- a text with no mark in front has none where it goes on with another byte
stays-plain : (x : List ℕ) (c : ℕ) (t : List ℕ) → NoMark c → strip_bom x ≡ x → strip_bom (x ++ (c ∷ t)) ≡ x ++ (c ∷ t)
stays-plain [] c t n e = plain-first c t n.0
stays-plain (a ∷ []) c t n e = plain-second a c t n.1
stays-plain (a ∷ b ∷ []) c t n e = plain-third a b c t n.2
stays-plain (a ∷ b ∷ d ∷ rest) c t n e = plain-all a b d rest (rest ++ (c ∷ t)) e

-- so it is with a field's text
field-plain : (x : List ℕ) (c : ℕ) (t : List ℕ) → NoMark c → strip_bom x ≡ x → strip_bom (field_text default_writer x ++ (c ∷ t)) ≡ field_text default_writer x ++ (c ∷ t)
field-plain x c t n e = elim (cases_Bool (list_any (needs_byte default_writer) x)) [
  | inl needs ↦ rw needs (plain-first 34 _ refl)
  | inr plain ↦ rw plain (stays-plain x c t n e)
]

regroup : (a b c tail t : List ℕ) → b ++ c ≡ t → ((a ++ b) ++ c) ++ tail ≡ a ++ (t ++ tail)
regroup a b c tail t e = append_assoc (a ++ b) c tail ∙ append_assoc a b (c ++ tail) ∙ ap (λ (u : List ℕ). a ++ u) (sym (append_assoc b c tail) ∙ ap (λ (u : List ℕ). u ++ tail) e)

-- what comes after the first field of a record starts with no byte of a mark
goes-on : (x : List ℕ) (fields : List (List ℕ)) (tail : List ℕ) → (c : ℕ) × (t : List ℕ) × NoMark c × (row_text default_writer (x ∷ fields) ++ tail ≡ field_text default_writer x ++ (c ∷ t))
unfolding fields_text is_blank
goes-on x [] tail = elim (cases_Bool (length (field_text default_writer x) == 0)) [
  | inl blank ↦ (34, 34 ∷ 10 ∷ tail, (refl, refl, refl), rw blank (regroup (field_text default_writer x) [] (34 ∷ 34 ∷ 10 ∷ []) tail _ refl))
  | inr shows ↦ (10, tail, (refl, refl, refl), rw shows (regroup (field_text default_writer x) [] (10 ∷ []) tail _ refl))
]
goes-on x (y ∷ ys) tail = (44, ((field_text default_writer y ++ fields_text default_writer ys) ++ (10 ∷ [])) ++ tail, (refl, refl, refl), regroup (field_text default_writer x) (44 ∷ (field_text default_writer y ++ fields_text default_writer ys)) (10 ∷ []) tail _ refl)

-- a table's text has no mark in front where its first field has none
no-mark : (rows : List (List (List ℕ))) → strip_bom (first_field rows) ≡ first_field rows → strip_bom (table_text rows) ≡ table_text rows
unfolding strip_bom record_text is_blank fields_text
no-mark [] e = refl
no-mark ([] ∷ rows) e = refl
no-mark ((x ∷ fields) ∷ rows) e =
    let (c, t, n, text) = goes-on x fields (table_text rows) in
    ap strip_bom text ∙ field-plain x c t n e ∙ sym text

same-back : (row : List (List ℕ)) → row ≢ [] → read_back row ≡ row
same-back [] h = absurd (h refl)
same-back (x ∷ row) h = refl

-- the records of the text of records
back : (rows : List (List (List ℕ))) → All (λ row. row ≢ []) rows → records_from default_config (length (table_text rows) + 1) st.StartRecord (table_text rows) ≡ rows
unfolding records_from next_record record_text
back [] h = refl
back (row ∷ rows) h =
    takes default_config st.StartRecord (row_text default_writer row ++ table_text rows) (read_back row, st.StartRecord, table_text rows) (read-write row (table_text rows))
    ∙ ap (λ (r : List (List ℕ)). r ∷ records_from default_config (length (table_text rows) + 1) st.StartRecord (table_text rows)) (same-back row (h 0 row (omega arith)))
    ∙ ap (λ (t : List (List (List ℕ))). row ∷ t) (back rows (λ k d b. h (suc k) d (omega (b, arith))))

pub reads-back : (rows : List (List (List ℕ))) → All (λ row. row ≢ []) rows → strip_bom (first_field rows) ≡ first_field rows → records_in (table_text rows) ≡ rows
unfolding records_in
reads-back rows h e = ap (λ (text : List ℕ). records_from default_config (length text + 1) st.StartRecord text) (no-mark rows e) ∙ back rows h
