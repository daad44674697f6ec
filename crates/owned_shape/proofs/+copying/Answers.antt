use Rattle.std.proofs.Common.{◌∙◌, Some, sym, subst, ap}
use Rattle.std.specs.List.{All}
use Rattle.std.proofs.lemmas.List.Elements.{All-push}
use Rattle.fgb_schema.specs.Shapes.{parts_in}
use Rattle.geometry_view.specs.Kinds.{number_of}
use Rattle.geometry_view.specs.Views.{geometry_shown}
use Rattle.owned_shape.specs.ListsShown.{lists_shown}
use Rattle.owned_shape.specs.Records.{IsSound}
use Rattle.owned_shape.proofs.Copied.{copied, copied_record}
use Rattle.owned_shape.proofs.Fields.{copy_more}
use Rattle.owned_shape.proofs.+copying.Goals as goal

pub copies::parts_of-loop-i-preserved : goal.copies::parts_of-loop-i-preserved
copies::parts_of-loop-i-preserved t c =
    let parts = parts_in (geometry_shown c.args.view.now) in
    let before = c.loop-i.parts.items in let copy = c.in_ok-copy.copy in
    record {
      copied = copy_more parts before c.push.new.self.items c.loop-i.i copy c.loop-i.invariant.copied (c.part-part.ensures.shape ∙ ap (λ s. Some s) (sym c.in_ok-copy.ensures.value)) c.in_ok-push.ensures.items;
      sound = subst (All IsSound) (sym c.in_ok-push.ensures.items) (All-push IsSound before copy c.loop-i.invariant.sound c.in_ok-copy.ensures.sound.sound);
    }

pub shape::Shape::of-invariant_of-result : goal.shape::Shape::of-invariant_of-result
shape::Shape::of-invariant_of-result t c = record {
  shown = copied_record c.args.view.now (number_of c.kind-kind.result) c.in_ok-xy.xy.items c.in_ok-ends.ends.items (lists_shown c.in_ok-lists.lists) c.in_ok-parts.parts.items
      c.kind-kind.ensures c.in_ok-xy.ensures.value c.in_ok-ends.ensures c.in_ok-lists.ensures.value c.in_ok-parts.ensures.value c.in_ok-xy.ensures.sound c.in_ok-lists.ensures.fits c.in_ok-parts.ensures.sound;
  even = c.in_ok-xy.ensures.even;
}

pub shape::Shape::of-returns-clause-value : goal.shape::Shape::of-returns-clause-value
shape::Shape::of-returns-clause-value t c =
    copied c.args.view.now (number_of c.kind-kind.result) c.in_ok-xy.xy.items c.in_ok-ends.ends.items (lists_shown c.in_ok-lists.lists) c.in_ok-parts.parts.items
    c.kind-kind.ensures c.in_ok-xy.ensures.value c.in_ok-ends.ensures c.in_ok-lists.ensures.value c.in_ok-parts.ensures.value

pub shape::Shape::of-returns-clause-sound : goal.shape::Shape::of-returns-clause-sound
shape::Shape::of-returns-clause-sound t c =
    copied_record c.args.view.now (number_of c.kind-kind.result) c.in_ok-xy.xy.items c.in_ok-ends.ends.items (lists_shown c.in_ok-lists.lists) c.in_ok-parts.parts.items
    c.kind-kind.ensures c.in_ok-xy.ensures.value c.in_ok-ends.ensures c.in_ok-lists.ensures.value c.in_ok-parts.ensures.value c.in_ok-xy.ensures.sound c.in_ok-lists.ensures.fits c.in_ok-parts.ensures.sound
