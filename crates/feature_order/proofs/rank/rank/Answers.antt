use Rattle.std.proofs.Common.{arith}
use Rattle.order_keys.specs.Boxes.{empty}
use Rattle.feature_order.specs.Order.IsRank.{on_curve, nowhere}
use Rattle.feature_order.proofs.Extents.{same_from_test, differ_from_test, finite_of_box, some_around}
use Rattle.feature_order.proofs.rank.rank.Goals as goal
use Rattle.feature_order.proofs.rank.rank.Goals.{Else-eq}

pub returns-then-eq : goal.returns-then-eq
returns-then-eq c = nowhere (same_from_test c.args.bounds empty c.empty.result c.eq.result c.empty.ensures.value c.eq.ensures c.if-eq.true)

pub cell-x-requires : goal.cell-x-requires
cell-x-requires c =
    let some = differ_from_test c.args.bounds empty c.empty.result c.eq.result c.empty.ensures.value c.eq.ensures c.if-eq.false in
    record {
      is_box = c.requires.is_box;
      some = some;
      is_extent = c.requires.is_extent;
      some_extent = some_around c.args.around c.args.bounds c.requires.inside (finite_of_box c.args.bounds c.requires.is_box some);
      inside = c.requires.inside;
    }

pub returns : goal.returns
returns c =
    let some = differ_from_test c.args.bounds empty c.empty.result c.eq.result c.empty.ensures.value c.eq.ensures c.if-eq.false in
    on_curve c.cell-x.result.0 c.cell-x.result.1 _ some c.cell-x.ensures (omega (arith, c.curve.ensures.value))
