-- The column that an owned one shows.
use Rattle.std.specs.Prelude.{option_map, string_bytes}
use Rattle.fgb_schema.specs.Headers.{Column}
use Rattle.header_info.specs.declared.column.ColumnInfo.TheInside.{Inside}

abbrev pub owned_column : Inside → Column
owned_column c = record {
  name = string_bytes c.name;
  kind = c.kind;
  title = option_map string_bytes c.title;
  description = option_map string_bytes c.description;
  width = c.width;
  precision = c.precision;
  scale = c.scale;
  nullable = c.nullable;
  unique = c.unique;
  primary_key = c.primary_key;
  metadata = option_map string_bytes c.metadata;
}
