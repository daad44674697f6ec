use Rattle.std.proofs.Common.{◌≡◌}
use Rattle.flat_views.specs.Meters.{left_of, meter_place}
use Rattle.flat_views.specs.TableVecs.{tables_bytes, tables_place}
use Rattle.fgb_schema.specs.Tables.{column}
use Rattle.fgb_schema.proofs.TablesRead.{AreRead}
use Rattle.fgb_header.proofs.columns.read_all.Given as goal

abbrev pub invariant-loop-i : goal.invariant-loop-i
invariant-loop-i l =
    AreRead (tables_bytes l.tables) column (tables_place l.tables) (left_of l.fn.meter) (left_of l.meter) l.i × (meter_place l.meter ≡ meter_place l.fn.meter)
