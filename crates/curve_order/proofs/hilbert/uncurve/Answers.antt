use Rattle.std.proofs.Common.{◌≡◌, arith}
use Rattle.curve_order.specs.Curve.{hilbert}
use Rattle.curve_order.proofs.Quarters.{unpacked}
use Rattle.curve_order.proofs.Along.{found, at_start}
use Rattle.curve_order.proofs.hilbert.uncurve.Goals as goal

pub loop-bit-init : goal.loop-bit-init
loop-bit-init c = record { value = at_start c.args.at; is_cell = record { in_x = omega arith; in_y = omega arith } }

pub loop-bit-preserved : goal.loop-bit-preserved
loop-bit-preserved c = record {
  value = unpacked c.loop-bit.bit c.loop-bit.rest (hilbert c.loop-bit.bit c.loop-bit.x c.loop-bit.y) _ _ c.leave.ensures.value c.loop-bit.invariant.value;
  is_cell = c.leave.ensures.is_cell;
}

pub returns-clause-only : goal.returns-clause-only
returns-clause-only c =
    let all : c.loop-bit.bit ≡ 16 = omega arith in
    found c.loop-bit.bit c.loop-bit.rest c.args.at c.loop-bit.x c.loop-bit.y all c.loop-bit.invariant.value (omega arith) c.loop-bit.invariant.is_cell
