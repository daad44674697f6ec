-- A writer of records of any lengths writes the same text.
use Rattle.std.proofs.Common.{◌≡◌, ◌∙◌, ◌++◌, ◌∷◌, [], ℕ, List, true, false, refl, sym, ap}
use Rattle.std.proofs.lemmas.List.{append-nil}
use Rattle.csv.specs.Writing.{default_writer, escaped, field_text, fields_text, is_blank, row_text, fields_written, has_written, text_written, with_flexible, writer_pending, writer_setup}
use Rattle.std.specs.Prelude.{◌≢◌, Option, Some, Vec}
use Rattle.std.specs.Global.{Global}
use Rattle.std.specs.Io.KnownBytes.{Appends, Keeps}
use Rattle.csv.specs.declared.writer.QuoteStyle.TheVariants as style
use Rattle.csv.specs.declared.writer.Writer.{Writer}
use Rattle.csv.specs.declared.writer.WriterBuilder.{WriterBuilder}
use Rattle.table_records.specs.Laying.{LaysTable, bytes_laid}
use Rattle.table_records.specs.Tables.{record_text}

same-escaped : (x : List ℕ) → escaped (with_flexible default_writer true) x ≡ escaped default_writer x
unfolding escaped
same-escaped [] = refl
same-escaped (b ∷ rest) = rw (same-escaped rest) refl

same-field : (x : List ℕ) → field_text (with_flexible default_writer true) x ≡ field_text default_writer x
same-field x = rw (same-escaped x) refl

same-fields : (fields : List (List ℕ)) → fields_text (with_flexible default_writer true) fields ≡ fields_text default_writer fields
unfolding fields_text
same-fields [] = refl
same-fields (x ∷ fields) = rw (same-escaped x, same-fields fields) refl

pub same-text : (fields : List (List ℕ)) → row_text (with_flexible default_writer true) fields ≡ record_text fields
unfolding record_text is_blank
same-text [] = refl
same-text (x ∷ []) = rw (same-escaped x, same-fields []) refl
same-text (x ∷ y ∷ fields) = rw (same-escaped x, same-fields (y ∷ fields)) refl

-- what is laid, where the bytes of a page are known
abbrev known : Vec ℕ Global → Option (List ℕ)
known page = Some page.items

-- a record was written, and all that was held back
pub laid-row : (old mid new : Writer (Vec ℕ Global)) (row : List (List ℕ)) → LaysTable old
    → (fields_written old ≡ 0 → has_written old ≡ false → (writer_setup old).style ≢ style.NonNumeric → Appends (text_written known old) (text_written known mid) (row_text (writer_setup old) row))
    → Keeps (text_written known mid) (text_written known new) → writer_pending new ≡ [] → bytes_laid new ≡ bytes_laid old ++ record_text row
laid-row old mid new row lays writes keeps empty =
    let plain : (writer_setup old).style ≢ style.NonNumeric = rw lays.setup (λ e. cc e) in
    sym (append-nil (bytes_laid new)) ∙ ap (λ (held : List ℕ). bytes_laid new ++ held) (sym empty)
    ∙ keeps ∙ writes lays.no_field lays.no_byte plain
    ∙ ap (λ (held : List ℕ). (bytes_laid old ++ held) ++ row_text (writer_setup old) row) lays.all_written
    ∙ ap (λ (front : List ℕ). front ++ row_text (writer_setup old) row) (append-nil (bytes_laid old))
    ∙ ap (λ (setup : WriterBuilder). bytes_laid old ++ row_text setup row) lays.setup
    ∙ ap (λ (text : List ℕ). bytes_laid old ++ text) (same-text row)
