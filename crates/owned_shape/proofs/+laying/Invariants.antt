use Rattle.std.proofs.Common.{◌≡◌, map, take}
use Rattle.shape_tables.specs.Laying.{shape_table}
use Rattle.owned_shape.proofs.+laying.Given as goal

abbrev pub invariant-tables::tables_for-loop-part : goal.invariant-tables::tables_for-loop-part
invariant-tables::tables_for-loop-part l = l.all.items ≡ map shape_table (take l.part-index l.parts)
