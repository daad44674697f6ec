-- Fields and tables of a list, one more at a time.
use Rattle.std.proofs.Common.{◌≡◌, ℕ, zero, suc, ◌+◌, ◌<◌, ◌≤◌, List, [], ◌∷◌, length, take, get_or, fold, refl, ap, ◌∙◌, arith}
use Rattle.std.proofs.lemmas.List.{take_more}
use Rattle.std.proofs.lemmas.Grind.{fold-append}
use Rattle.flat_builder.specs.declared.table.Field.{Field}
use Rattle.flat_builder.specs.Trees.{Fields, none, put, push, empty, entry_count, IsAscending}
use Rattle.flat_builder.specs.Shown.{tables_of}
use Rattle.flat_builder.specs.Fields.{put_field, fields_of}

pub fields_more : (fs : List Field) (i : ℕ) (d : Field) → i < length fs → fields_of (take (i + 1) fs) ≡ put_field (fields_of (take i fs)) (get_or fs i d)
fields_more fs i d inside = ap fields_of (take_more fs i d inside) ∙ fold-append put_field none (take i fs) (get_or fs i d ∷ [])

pub tables_more : (ts : List Fields) (i : ℕ) (d : Fields) → i < length ts → tables_of (take (i + 1) ts) ≡ push (tables_of (take i ts)) (get_or ts i d)
tables_more ts i d inside = ap tables_of (take_more ts i d inside) ∙ fold-append push empty (take i ts) (get_or ts i d ∷ [])

-- ids that ascend to the end ascend up to each field
pub ascends_from : (fs : List Field) (before : Fields) → IsAscending (fold put_field before fs) → IsAscending before
ascends_from [] before h = h
ascends_from (f ∷ fs) before h = (ascends_from fs (put_field before f) h).0

-- each field has an entry of its own
pub count_from : (fs : List Field) (before : Fields) → IsAscending (fold put_field before fs) → entry_count before + length fs ≤ entry_count (fold put_field before fs)
count_from [] before h = omega arith
count_from (f ∷ fs) before h = omega (arith, count_from fs (put_field before f) h, (ascends_from fs (put_field before f) h).1)

pub length_le-entry_count : (fs : List Field) → IsAscending (fields_of fs) → length fs ≤ entry_count (fields_of fs)
length_le-entry_count fs h = omega (arith, count_from fs none h)

pub entry_count_le : (fs : Fields) → IsAscending fs → entry_count fs ≤ 1000
entry_count_le none h = omega arith
entry_count_le (put before id it) h = omega (arith, h.2)

-- the last id tells how many entries there are
pub last_from : (fs : List Field) (before : Fields) (i : ℕ) (d : Field) → length fs ≡ i + 1 → entry_count (fold put_field before fs) ≡ (get_or fs i d).id + 1
last_from [] before i d h = absurd (omega arith)
last_from (f ∷ []) before zero d h = refl
last_from (f ∷ []) before (suc i) d h = absurd (omega arith)
last_from (f ∷ (g ∷ fs)) before zero d h = absurd (omega arith)
last_from (f ∷ (g ∷ fs)) before (suc i) d h = last_from (g ∷ fs) (put_field before f) i d (omega arith)
