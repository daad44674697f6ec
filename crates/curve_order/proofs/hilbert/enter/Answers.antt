use Rattle.std.proofs.Common.{arith}
use Rattle.curve_order.proofs.Quarters.{enter_first, enter_second, enter_third, enter_fourth}
use Rattle.curve_order.proofs.hilbert.enter.Goals as goal

pub returns-then-y-half-clause-value : goal.returns-then-y-half-clause-value
returns-then-y-half-clause-value c =
    omega (arith, enter_first c.args.bit c.args.x c.args.y c.half_of-half.result c.half_of-half.ensures.value c.if-x-half.true c.if-y-half.true)

pub returns-then-x-half-clause-value : goal.returns-then-x-half-clause-value
returns-then-x-half-clause-value c =
    enter_second c.args.bit c.args.x c.args.y c.half_of-half.result c.half_of-half.ensures.value c.if-x-half.true c.if-y-half.false

pub returns-then-y-half-2-clause-value : goal.returns-then-y-half-2-clause-value
returns-then-y-half-2-clause-value c =
    enter_fourth c.args.bit c.args.x c.args.y c.half_of-half.result c.half_of-half.ensures.value c.if-x-half.false c.if-y-half-2.true

pub returns-clause-value : goal.returns-clause-value
returns-clause-value c =
    enter_third c.args.bit c.args.x c.args.y c.half_of-half.result c.half_of-half.ensures.value c.if-x-half.false c.if-y-half-2.false
