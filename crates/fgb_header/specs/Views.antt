-- What clauses see of a header's view: the record that it shows, and what it was read from.
use Rattle.std.specs.Prelude.{ℕ, List}
use Rattle.fgb_schema.specs.Headers.{Header}
use Rattle.fgb_header.specs.declared.header.HeaderView.{HeaderView}
pub use Rattle.fgb_header.specs.Parts.{crs_shown, crs_weight, column_shown, column_weight, listed, columns_shown}
use Rattle.fgb_header.specs.GroupViews.{fields_shown}

abbrev pub header_shown : HeaderView → Header
header_shown h = fields_shown h.own h.columns

-- the bytes that it was read from
abbrev pub source_of : HeaderView → List ℕ
source_of h = h.bytes.now

-- where they begin in the file
abbrev pub base_shown : HeaderView → ℕ
base_shown h = h.base
