use Rattle.std.proofs.Common.{ap, sym, subst, ◌∙◌, arith, get_or}
use Rattle.std.specs.List.{All}
use Rattle.std.proofs.lemmas.List.{take_all}
use Rattle.std.proofs.lemmas.List.Elements.{All-from_recursion}
use Rattle.std.proofs.lemmas.List.Sums.{fold_more}
use Rattle.order_keys.specs.declared.bounds.Bounds.{Bounds}
use Rattle.order_keys.specs.Boxes.{Contains, IsBox, empty, join}
use Rattle.feature_order.specs.Order.{extent}
use Rattle.feature_order.proofs.Joins.{around_all}
use Rattle.feature_order.proofs.Extents.{nothing}
use Rattle.feature_order.proofs.rank.extent.Goals as goal

pub joined-around-requires-clause-is_other : goal.joined-around-requires-clause-is_other
joined-around-requires-clause-is_other c = All-from_recursion IsBox c.args.boxes.now c.requires c.loop-bounds.bounds-index nothing (omega arith)

pub loop-bounds-preserved : goal.loop-bounds-preserved
loop-bounds-preserved c = record {
  value =
      c.joined-around.ensures.value
      ∙ ap (λ (b : Bounds). join b (get_or c.args.boxes.now c.loop-bounds.bounds-index nothing)) c.loop-bounds.invariant.value
      ∙ sym (fold_more join empty c.args.boxes.now c.loop-bounds.bounds-index nothing (omega arith));
  is_box = c.joined-around.ensures.is_box;
}

pub returns : goal.returns
returns c =
    let is = c.loop-bounds.invariant.value ∙ ap extent (take_all c.loop-bounds.bounds-index c.args.boxes.now (omega arith)) in
    record {
      value = is;
      is_box = c.loop-bounds.invariant.is_box;
      around = let P : Bounds → Type 0 = λ b. All (Contains b) c.args.boxes.now in subst P (sym is) (around_all c.args.boxes.now);
    }
