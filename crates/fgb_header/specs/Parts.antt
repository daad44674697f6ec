-- The records that the views of a header's parts are seen as, and what they weigh.
use Rattle.std.specs.Prelude.{ℕ, ◌+◌, List, [], length, Option, Some, None}
use Rattle.std.specs.Option.{option_map}
use Rattle.flat_views.specs.declared.vectors.TableVec.{TableVec}
use Rattle.flat_views.specs.TableVecs.{tables_bytes, tables_place}
use Rattle.fgb_schema.specs.Headers.{Crs, Column, columns_at}
use Rattle.fgb_schema.specs.Weights.{text_weight}
use Rattle.fgb_header.specs.declared.crs.CrsView.{CrsView}
use Rattle.fgb_header.specs.declared.column.ColumnView.{ColumnView}
use Rattle.fgb_header.specs.declared.columns.Columns.{Columns}

abbrev pub crs_shown : CrsView → Crs
crs_shown c = record {
  org = option_map (λ s. s.now) c.org;
  code = c.code;
  name = option_map (λ s. s.now) c.name;
  description = option_map (λ s. s.now) c.description;
  wkt = option_map (λ s. s.now) c.wkt;
  code_string = option_map (λ s. s.now) c.code_string;
}

-- 4 for the table, and the bytes of the texts
abbrev pub crs_weight : Crs → ℕ
crs_weight c = 4 + text_weight c.org + text_weight c.name + text_weight c.description + text_weight c.wkt + text_weight c.code_string

abbrev pub column_shown : ColumnView → Column
column_shown c = record {
  name = c.name.now;
  kind = c.kind;
  title = option_map (λ s. s.now) c.title;
  description = option_map (λ s. s.now) c.description;
  width = c.width;
  precision = c.precision;
  scale = c.scale;
  nullable = c.nullable;
  unique = c.unique;
  primary_key = c.primary_key;
  metadata = option_map (λ s. s.now) c.metadata;
}

-- 4 for the table, and the bytes of the texts
abbrev pub column_weight : Column → ℕ
column_weight c = 4 + length c.name + text_weight c.title + text_weight c.description + text_weight c.metadata

-- a list of columns, none where there is no vector
abbrev pub listed : Option TableVec → List Column
listed None = []
listed (Some tables) = columns_at (tables_bytes tables) (tables_place tables)

abbrev pub columns_shown : Columns → List Column
columns_shown columns = listed columns.list
