use Rattle.std.proofs.Common.{◌≡◌, take}
use Rattle.flat_builder.specs.Shown.{tables_of}
use Rattle.header_tables.specs.Laying.{column_tables}
use Rattle.header_info.proofs.column.tables_for.Given as goal

abbrev pub invariant-loop-column : goal.invariant-loop-column
invariant-loop-column l = tables_of l.all.items ≡ column_tables (take l.column-index l.columns)
