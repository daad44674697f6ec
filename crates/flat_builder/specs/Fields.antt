-- What the fields of a table show.
use Rattle.std.specs.Prelude.{List, fold, string_bytes}
use Rattle.flat_builder.specs.declared.table.Field.{Field}
use Rattle.flat_builder.specs.declared.table.Value.{Value}
use Rattle.flat_builder.specs.declared.table.Value.TheVariants.{Number, Text, Vector, Table, TableVector}
use Rattle.flat_builder.specs.Trees.{Item, string, table, tables, Fields, none, put}
use Rattle.flat_builder.specs.Shown.{scalar_item, vector_item, tables_of}

abbrev pub item_of : Value → Item
item_of (Number s) = scalar_item s
item_of (Text s) = string (string_bytes s)
item_of (Vector v) = vector_item v
item_of (Table t) = table t
item_of (TableVector ts) = tables (tables_of ts.items)

abbrev pub put_field : Fields → Field → Fields
put_field before f = put before f.id (item_of f.value)

abbrev pub fields_of : List Field → Fields
fields_of fs = fold put_field none fs
