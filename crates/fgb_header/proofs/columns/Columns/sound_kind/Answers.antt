use Rattle.std.proofs.Common.{◌≡◌}
use Rattle.flat_layout.specs.Layout.{entry_place, number_in, target}
use Rattle.flat_layout.specs.Promises.{Names}
use Rattle.flat_views.specs.TableVecs.{tables_base, tables_bytes, tables_place}
use Rattle.flat_views.specs.Tables.{bytes_of, place_of}
use Rattle.flat_views.proofs.Placed.{at_table, sound_list}
use Rattle.fgb_schema.specs.Tables.{column}
use Rattle.fgb_schema.specs.Headers.{column_at}
use Rattle.fgb_schema.proofs.CleanEntries.{entry_named, entry_table, entry_target}
use Rattle.fgb_header.proofs.RecordFields.{BreaksKind, column_from_kind, kind_known, known_within}
use Rattle.fgb_header.proofs.columns.Columns.sound_kind.Goals as goal

pub unreachable-requires : goal.unreachable-requires
unreachable-requires c =
    entry_named (tables_bytes c.args.tables) column (tables_place c.args.tables) (sound_list c.args.tables) c.requires.clean c.args.i c.requires.early (tables_base c.args.tables) c.in_default.field-0 c.in_default.ensures

pub unreachable-requires-in-Err : goal.unreachable-requires-in-Err
unreachable-requires-in-Err c =
    let b = tables_bytes c.args.tables in let v = tables_place c.args.tables in let t = target b (entry_place b v c.args.i) in
    let e = c.in-Err.field-0 in
    let named = at_table (tables_base c.args.tables) b t c.in-Ok.table c.in-Ok.ensures.0 (λ k s t. Names k (BreaksKind s t) e) c.in-Err.ensures in
    let sound = entry_table b column v (sound_list c.args.tables) c.requires.clean c.args.i c.requires.early in
    entry_target b column v (sound_list c.args.tables) c.requires.clean c.args.i c.requires.early named.0 e.rule (column_from_kind b t sound named.0 e.rule named.2)

pub returns-clause-value : goal.returns-clause-value
unfolding column_at
returns-clause-value c =
    let b = tables_bytes c.args.tables in let t = target b (entry_place b (tables_place c.args.tables) c.args.i) in
    at_table (tables_base c.args.tables) b t c.in-Ok.table c.in-Ok.ensures.0 (λ k s t. c.in-Ok-known_kind.kind ≡ number_in 1 s t 1 0) c.in-Ok-known_kind.ensures.0

pub returns-clause-known : goal.returns-clause-known
returns-clause-known c =
    let s = bytes_of c.in-Ok.table in let t = place_of c.in-Ok.table in
    known_within c.in-Ok-known_kind.kind (number_in 1 s t 1 0) c.in-Ok-known_kind.ensures.0 (kind_known s t c.in-Ok.table.sound c.in-Ok-known_kind.ensures.1)
