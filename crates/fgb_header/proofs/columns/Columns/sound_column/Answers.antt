use Rattle.flat_layout.specs.Layout.{entry_place, target}
use Rattle.flat_layout.specs.Promises.{Names}
use Rattle.flat_views.specs.TableVecs.{tables_base, tables_bytes, tables_place}
use Rattle.flat_views.proofs.Placed.{at_table, sound_list}
use Rattle.fgb_schema.specs.Paths.{Breaks, column_part}
use Rattle.fgb_schema.specs.Tables.{column}
use Rattle.fgb_schema.proofs.CleanEntries.{entry_named, entry_target}
use Rattle.fgb_header.proofs.columns.Columns.sound_column.Goals as goal

pub unreachable-requires : goal.unreachable-requires
unreachable-requires c =
    entry_named (tables_bytes c.args.tables) column (tables_place c.args.tables) (sound_list c.args.tables) c.requires.clean c.args.i c.requires.early (tables_base c.args.tables) c.in_default.field-0 c.in_default.ensures

pub unreachable-requires-in-Err : goal.unreachable-requires-in-Err
unreachable-requires-in-Err c =
    let b = tables_bytes c.args.tables in let v = tables_place c.args.tables in
    let e = c.in-Err.field-0 in
    let named = at_table (tables_base c.args.tables) b (target b (entry_place b v c.args.i)) c.in-Ok.table c.in-Ok.ensures.0 (λ k s t. Names k (Breaks s (column_part t)) e) c.in-Err.ensures in
    entry_target b column v (sound_list c.args.tables) c.requires.clean c.args.i c.requires.early named.0 e.rule named.2
