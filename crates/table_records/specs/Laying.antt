-- What a writer over a page has laid.
use Rattle.std.specs.Prelude.{◌≡◌, ℕ, true, false, List, [], Vec}
use Rattle.std.specs.Global.{Global}
use Rattle.csv.specs.Writing.{default_writer, fields_written, has_written, with_flexible, writer_pending, writer_setup, writer_under}
use Rattle.csv.specs.declared.writer.Writer.{Writer}

-- the bytes on the page
abbrev pub bytes_laid : Writer (Vec ℕ Global) → List ℕ
bytes_laid writer = (writer_under writer).items

-- a writer of records of any lengths, which stands between two records and holds nothing back
pub record LaysTable (writer : Writer (Vec ℕ Global)) : Type 0 where
  pub setup : writer_setup writer ≡ with_flexible default_writer true
  pub no_field : fields_written writer ≡ 0
  pub no_byte : has_written writer ≡ false
  pub all_written : writer_pending writer ≡ []
