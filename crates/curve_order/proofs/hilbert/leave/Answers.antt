use Rattle.std.proofs.Common.{◌≡◌, arith}
use Rattle.curve_order.proofs.Quarters.{leave_first, leave_second, leave_third, leave_fourth, squared}
use Rattle.curve_order.proofs.hilbert.leave.Goals as goal

pub returns-then-quarter-eq0-clause-value : goal.returns-then-quarter-eq0-clause-value
returns-then-quarter-eq0-clause-value c =
    rw c.if-quarter-eq0.true
    (omega (arith, leave_first c.args.bit c.args.x c.args.y c.half_of-half.result c.half_of-half.ensures.value (omega arith) (omega arith)))

pub returns-then-quarter-eq1-clause-value : goal.returns-then-quarter-eq1-clause-value
returns-then-quarter-eq1-clause-value c =
    rw c.if-quarter-eq1.true
    (omega (
      arith,
      squared c.args.bit c.half_of-half.result c.half_of-half.ensures.value,
      leave_second c.args.bit c.args.x c.args.y c.half_of-half.result c.half_of-half.ensures.value (omega arith),
    ))

pub returns-then-quarter-eq2-clause-value : goal.returns-then-quarter-eq2-clause-value
returns-then-quarter-eq2-clause-value c =
    rw c.if-quarter-eq2.true
    (omega (
      arith,
      squared c.args.bit c.half_of-half.result c.half_of-half.ensures.value,
      leave_third c.args.bit c.args.x c.args.y c.half_of-half.result c.half_of-half.ensures.value,
    ))

pub returns-clause-value : goal.returns-clause-value
returns-clause-value c =
    let last : c.args.quarter ≡ 3 = omega arith in
    rw last
    (omega (
      arith,
      squared c.args.bit c.half_of-half.result c.half_of-half.ensures.value,
      leave_fourth c.args.bit c.args.x c.args.y c.half_of-half.result c.half_of-half.ensures.value (omega arith) (omega arith),
    ))
