use Rattle.std.proofs.Common.{◌∙◌, map, ap, subst}
use Rattle.std.proofs.lemmas.Result.{IfOk-weaker}
use Rattle.shape_tables.specs.Laying.{shape_table}
use Rattle.shape_tables.specs.Records.{IsRecord as CanStand}
use Rattle.fgb_schema.specs.Shapes.{pairs_of, rings_from}
use Rattle.geometry_view.specs.Kinds.{number_of}
use Rattle.owned_shape.specs.ListsShown.{lists_shown}
use Rattle.owned_shape.specs.Owned.{owned_shape}
use Rattle.owned_shape.proofs.LaidFields.{shape_laid, tables_next}
use Rattle.owned_shape.proofs.Standing.{can_stand}
use Rattle.owned_shape.proofs.+laying.Goals as goal

pub tables::tables_for-loop-part-preserved : goal.tables::tables_for-loop-part-preserved
tables::tables_for-loop-part-preserved t c =
    tables_next c.args.parts.now c.loop-part.part-index c.part-item.result c.loop-part.all.items c.push.new.self.items c.in_ok-to_table.field-0 c.loop-part.invariant
    c.loop-part-test.true c.part-item.is c.in_ok-to_table.ensures.ok c.in_ok-push.ensures.items

pub shape::Shape::to_table-returns-in_err-parts-clause-sound : goal.shape::Shape::to_table-returns-in_err-parts-clause-sound
shape::Shape::to_table-returns-in_err-parts-clause-sound t c = subst CanStand c.self.view_is (can_stand (owned_shape c.self.inside) c.self.invariant.shown)

pub shape::Shape::to_table-returns-clause-sound : goal.shape::Shape::to_table-returns-clause-sound
shape::Shape::to_table-returns-clause-sound t c = subst CanStand c.self.view_is (can_stand (owned_shape c.self.inside) c.self.invariant.shown)

pub shape::Shape::to_table-returns-clause-ok : goal.shape::Shape::to_table-returns-clause-ok
shape::Shape::to_table-returns-clause-ok t c =
    let s = c.self.inside in
    let laid = shape_laid (number_of s.kind) (pairs_of s.xy.items) (rings_from 0 s.ends.items) (lists_shown s.lists) s.parts.items c.args.self.now c.in_ok-parts.parts.items c.self.view_is
    (c.in_ok-parts.ensures.ok ∙ ap (map shape_table) c.deref.ensures.value) (c.laid_shapes_read_back.ensures.parts s.parts.items) in
    IfOk-weaker c.table_with.result _ _ (λ table is. is ∙ laid) c.table_with.ensures.ok
