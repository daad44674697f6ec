use Rattle.std.proofs.Common.{inl, arith}
use Rattle.flat_layout.specs.Layout.{entry_place, target}
use Rattle.flat_layout.specs.Promises.{Names}
use Rattle.flat_layout.proofs.Judging.{exit}
use Rattle.flat_views.specs.TableVecs.{tables_base, tables_bytes, tables_place}
use Rattle.flat_views.specs.Meters.{left_of, meter_place}
use Rattle.flat_views.proofs.Placed.{at_table}
use Rattle.fgb_schema.specs.Paths.{Breaks, column_part}
use Rattle.fgb_schema.specs.Tables.{column}
use Rattle.fgb_schema.proofs.TablesRead.{refuse_table, refuse_behind}
use Rattle.fgb_header.proofs.Entries.{spend_column}
use Rattle.fgb_header.proofs.columns.read_entry.Goals as goal

pub returns-in_err-get-clause-goes : goal.returns-in_err-get-clause-goes
returns-in_err-get-clause-goes c =
    let b = tables_bytes c.args.tables in let p = entry_place b (tables_place c.args.tables) c.args.i in
    exit _ _ _ _ c.from_residual.ensures.1 (inl (refuse_table b column p (tables_base c.args.tables) _ c.in_err-get.ensures), omega arith)

pub returns-in_err-column-clause-goes : goal.returns-in_err-column-clause-goes
returns-in_err-column-clause-goes c =
    let b = tables_bytes c.args.tables in let p = entry_place b (tables_place c.args.tables) c.args.i in
    let there = c.in_ok-get.ensures in
    let e = c.in_err-column.field-0.0 in
    exit _ _ _ _ c.from_residual-in_err-column.ensures.1
    (refuse_behind b column p there.1 (tables_base c.args.tables) (meter_place c.args.meter.now) (left_of c.args.meter.now) (left_of c.args.meter.now) e
    (inl (at_table (tables_base c.args.tables) b (target b p) c.in_ok-get.field-0 there.0 (λ k s t. Names k (Breaks s (column_part t)) e) c.in_err-column.ensures), omega arith))

pub returns-clause-goes : goal.returns-clause-goes
returns-clause-goes c =
    let b = tables_bytes c.args.tables in let p = entry_place b (tables_place c.args.tables) c.args.i in
    let there = c.in_ok-get.ensures in let read = c.in_ok-column.ensures in let spent = c.spend.ensures in
    spend_column (tables_base c.args.tables) b p there.1 c.in_ok-get.field-0 there.0 c.in_ok-column.column c.weight.result c.args.meter.now c.spend.new.self read.0 read.1 c.weight.ensures c.spend.result spent.ok spent.too_heavy spent.unchanged
