-- Where the fields and tables of a list end, one more at a time.
use Rattle.std.proofs.Common.{◌≡◌, ℕ, ◌+◌, ◌<◌, ◌≤◌, List, [], ◌∷◌, length, take, drop, get_or, fold, refl, sym, ap, ◌∙◌, arith}
use Rattle.std.proofs.lemmas.List.{take-append-drop}
use Rattle.std.proofs.lemmas.Grind.{fold-append}
use Rattle.flat_builder.specs.declared.table.Field.{Field}
use Rattle.flat_builder.specs.Trees.{Fields, none, Tables, push, empty, table}
use Rattle.flat_builder.specs.Laying.{lay, lay_fields, lay_tables}
use Rattle.flat_builder.specs.Shown.{tables_of}
use Rattle.flat_builder.specs.Fields.{item_of, put_field, fields_of}
use Rattle.flat_builder.proofs.Chains.{fields_more, tables_more}
use Rattle.flat_builder.proofs.Lengths.{fields_end, push_end}

-- where what the first j fields lead to ends, and the first j tables
abbrev pub fields_to : List Field → ℕ → ℕ → ℕ
fields_to fs start j = start + length (lay_fields (fields_of (take j fs)) start).bytes

abbrev pub tables_to : List Fields → ℕ → ℕ → ℕ
tables_to ts start j = start + length (lay_tables (tables_of (take j ts)) start).bytes

pub fields_step : (fs : List Field) (start i end : ℕ) (d : Field) → i < length fs → end ≡ fields_to fs start i
    → fields_to fs start (i + 1) ≡ end + length (lay (item_of (get_or fs i d).value) end)
fields_step fs start i end d inside here =
    ap (λ t. start + length (lay_fields t start).bytes) (fields_more fs i d inside)
    ∙ fields_end (fields_of (take i fs)) (get_or fs i d).id (item_of (get_or fs i d).value) start end here

pub tables_step : (ts : List Fields) (start i end : ℕ) (d : Fields) → i < length ts → end ≡ tables_to ts start i
    → tables_to ts start (i + 1) ≡ end + length (lay (table (get_or ts i d)) end)
tables_step ts start i end d inside here =
    ap (λ t. start + length (lay_tables t start).bytes) (tables_more ts i d inside)
    ∙ push_end (tables_of (take i ts)) (get_or ts i d) start end here

-- more fields or tables end no earlier
fields_grow : (fs : List Field) (before : Fields) (start : ℕ) → length (lay_fields before start).bytes ≤ length (lay_fields (fold put_field before fs) start).bytes
fields_grow [] before start = omega arith
fields_grow (f ∷ fs) before start =
    omega (arith, fields_grow fs (put_field before f) start, fields_end before f.id (item_of f.value) start (start + length (lay_fields before start).bytes) refl)

tables_grow : (ts : List Fields) (before : Tables) (start : ℕ) → length (lay_tables before start).bytes ≤ length (lay_tables (fold push before ts) start).bytes
tables_grow [] before start = omega arith
tables_grow (t ∷ ts) before start =
    omega (arith, tables_grow ts (push before t) start, push_end before t start (start + length (lay_tables before start).bytes) refl)

pub fields_split : (fs : List Field) (j : ℕ) → fold put_field (fields_of (take j fs)) (drop j fs) ≡ fields_of fs
fields_split fs j = sym (fold-append put_field none (take j fs) (drop j fs)) ∙ ap fields_of (take-append-drop j fs)

tables_split : (ts : List Fields) (j : ℕ) → fold push (tables_of (take j ts)) (drop j ts) ≡ tables_of ts
tables_split ts j = sym (fold-append push empty (take j ts) (drop j ts)) ∙ ap tables_of (take-append-drop j ts)

pub fields_to_le : (fs : List Field) (start j : ℕ) → fields_to fs start j ≤ start + length (lay_fields (fields_of fs) start).bytes
fields_to_le fs start j =
    omega (arith, fields_grow (drop j fs) (fields_of (take j fs)) start, ap (λ t. length (lay_fields t start).bytes) (fields_split fs j))

pub tables_to_le : (ts : List Fields) (start j : ℕ) → tables_to ts start j ≤ start + length (lay_tables (tables_of ts) start).bytes
tables_to_le ts start j =
    omega (arith, tables_grow (drop j ts) (tables_of (take j ts)) start, ap (λ t. length (lay_tables t start).bytes) (tables_split ts j))
