use Rattle.std.proofs.Common.{◌∷◌, [], ◌∙◌, ap, sym}
use Rattle.fgb_schema.specs.Shapes.{ordinates_in, points_in, rings_from, rings_in, type_in}
use Rattle.flat_builder.specs.Trees.{none, number, put}
use Rattle.flat_builder.specs.Shown.{tables_of}
use Rattle.shape_tables.specs.Laying.{numbers_item, shape_items, told_ends, with_fields}
use Rattle.owned_shape.specs.Owned.{owned_shape}
use Rattle.owned_shape.proofs.LaidFields.{longs_put, shape_put, turns_back}
use Rattle.owned_shape.proofs.shape.Shape.table_with.Goals as goal

pub returns-clause-ok : goal.returns-clause-ok
returns-clause-ok c =
    let s = owned_shape c.self.inside in
    let parts = tables_of c.args.parts.items in
    shape_put (type_in s) (points_in s) (rings_in s) (ordinates_in s) parts _ _ _ _ _ _ _ _
    (c.in_ok-put_ends.ensures.ok ∙ ap (λ ends. with_fields none 0 (numbers_item 4 (told_ends (rings_from 0 ends)) ∷ [])) c.deref.ensures.value)
    (longs_put _ _ 1 _ _ c.in_ok-put_longs.ensures.ok (c.deref-2.ensures.value ∙ sym (turns_back c.self.inside.xy.items c.self.invariant.even)))
    (longs_put _ _ 2 _ _ c.in_ok-put_longs-2.ensures.ok c.deref-3.ensures.value)
    (longs_put _ _ 3 _ _ c.in_ok-put_longs-3.ensures.ok c.deref-4.ensures.value)
    (longs_put _ _ 4 _ _ c.in_ok-put_longs-4.ensures.ok c.deref-5.ensures.value)
    (longs_put _ _ 5 _ _ c.in_ok-put_longs-5.ensures.ok c.deref-6.ensures.value)
    (c.in_ok-put_scalar.ensures.ok ∙ ap (λ n. put c.put_longs-5.new.table 6 (number 1 n)) c.number.ensures)
    c.in_ok-put_parts.ensures.ok
    ∙ ap (λ s. with_fields none 0 (shape_items (type_in s) (points_in s) (rings_in s) (ordinates_in s) parts)) c.self.view_is
