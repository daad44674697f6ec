use Rattle.std.proofs.Common.{◌≡◌, ◌-◌, ◌≤◌}
use Rattle.flat_layout.specs.Layout.{entry_place, target}
use Rattle.flat_layout.specs.Promises.{IsClean}
use Rattle.flat_views.specs.TableVecs.{tables_base, tables_bytes, tables_place}
use Rattle.fgb_schema.specs.Paths.{Breaks, geometry_part}
use Rattle.fgb_schema.specs.Shapes.{shape_at}
use Rattle.fgb_schema.specs.Tables.{geometry}
use Rattle.geometry_view.specs.Views.{geometry_shown}
use Rattle.geometry_view.specs.Weights.{shape_weight}
use Rattle.flat_views.proofs.Placed.{at_table, of_place, sound_list}
use Rattle.fgb_schema.proofs.CleanEntries.{entry_named, entry_target}
use Rattle.geometry_view.proofs.geometry.GeometryView.sound_part.Goals as goal

pub sound_geometry-requires-clause-clean : goal.sound_geometry-requires-clause-clean
sound_geometry-requires-clause-clean c =
    let b = tables_bytes c.args.tables in let v = tables_place c.args.tables in
    let there = c.in-Ok.ensures in
    of_place (tables_base c.args.tables) b (target b (entry_place b v c.args.i)) c.in-Ok.table there.0 (λ _ s t. IsClean (Breaks s (geometry_part c.args.outer c.args.depth t)))
    (entry_target b (geometry c.args.outer c.args.depth) v (sound_list c.args.tables) c.requires.clean c.args.i c.requires.early)

pub sound_geometry-requires-clause-light : goal.sound_geometry-requires-clause-light
sound_geometry-requires-clause-light c =
    let b = tables_bytes c.args.tables in
    of_place (tables_base c.args.tables) b (target b (entry_place b (tables_place c.args.tables) c.args.i)) c.in-Ok.table c.in-Ok.ensures.0
    (λ _ s t. shape_weight (shape_at (16 - c.args.depth) c.args.outer s t) ≤ 1073741824) c.requires.light

pub unreachable-requires : goal.unreachable-requires
unreachable-requires c =
    entry_named (tables_bytes c.args.tables) (geometry c.args.outer c.args.depth) (tables_place c.args.tables) (sound_list c.args.tables) c.requires.clean c.args.i c.requires.early
    (tables_base c.args.tables) c.in-Err.field-0 c.in-Err.ensures

pub returns-clause-shape : goal.returns-clause-shape
returns-clause-shape c =
    let b = tables_bytes c.args.tables in let v = tables_place c.args.tables in
    let there = c.in-Ok.ensures in
    at_table (tables_base c.args.tables) b (target b (entry_place b v c.args.i)) c.in-Ok.table there.0 (λ _ s t. geometry_shown c.sound_geometry.result ≡ shape_at (16 - c.args.depth) c.args.outer s t)
    c.sound_geometry.ensures.shape
