-- A table is larger than each table in it.
use Rattle.std.specs.Prelude.{◌+◌, ◌≤◌, List, [], ◌∷◌, fold, max}
use Rattle.std.proofs.Common.{arith}
use denote.Param.Weighed.{most}
use Rattle.flat_builder.specs.declared.table.Field.{Field}
use Rattle.flat_builder.specs.declared.table.Value.{Value}
use Rattle.flat_builder.specs.declared.table.Value.TheVariants.{Number, Text, Vector, Table, TableVector}
use Rattle.flat_builder.specs.declared.table.FlatTable.TheDeep.{deep-Field, deep-FlatTable, deep-Value}
use Rattle.flat_builder.specs.declared.table.FlatTable.TheInside.{Inside}
use Rattle.flat_builder.specs.Trees.{Fields, Tables, none, push, empty, item_size, fields_size, tables_size}
use Rattle.flat_builder.specs.Fields.{item_of, fields_of, put_field}

tables_grow : (ts : List Fields) (before : Tables) → max (most (λ t. fields_size t + 1) ts) (tables_size before + 1) ≤ tables_size (fold push before ts) + 1
tables_grow [] before = omega arith
tables_grow (t ∷ ts) before = omega (arith, tables_grow ts (push before t))

deep-Value_le : (v : Value) → deep-Value v ≤ item_size (item_of v)
deep-Value_le (Number s) = omega arith
deep-Value_le (Text s) = omega arith
deep-Value_le (Vector s) = omega arith
deep-Value_le (Table t) = omega arith
deep-Value_le (TableVector ts) = omega (arith, tables_grow ts.items empty)

fields_grow : (fs : List Field) (before : Fields) → max (most deep-Field fs) (fields_size before) ≤ fields_size (fold put_field before fs)
fields_grow [] before = omega arith
fields_grow (f ∷ fs) before = omega (arith, fields_grow fs (put_field before f), deep-Value_le f.value)

pub fields_hold : (t : Inside) → deep-FlatTable t ≤ fields_size (fields_of t.fields.items)
fields_hold t = omega (arith, fields_grow t.fields.items none)
