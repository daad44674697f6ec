use Rattle.std.proofs.Common.{sym, subst, arith}
use Rattle.order_keys.specs.Boxes.{IsBox}
use Rattle.feature_order.proofs.Extents.{HasPatterns, join_is_box}
use Rattle.feature_order.proofs.rank.joined.Goals as goal

pub returns-clause-is_box : goal.returns-clause-is_box
returns-clause-is_box c =
    let first : HasPatterns c.args.first = record { min_x = omega arith; min_y = omega arith; max_x = omega arith; max_y = omega arith } in
    let other : HasPatterns c.args.other = record { min_x = omega arith; min_y = omega arith; max_x = omega arith; max_y = omega arith } in
    subst IsBox (sym c.join.ensures.value) (join_is_box c.args.first c.args.other first other c.requires.is_first c.requires.is_other)
