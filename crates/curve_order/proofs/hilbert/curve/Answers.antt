use Rattle.std.proofs.Common.{◌≡◌, ◌+◌, ◌-◌, arith, ap, ◌∙◌}
use Rattle.curve_order.specs.Curve.{hilbert}
use Rattle.curve_order.proofs.Along.{within, outermost}
use Rattle.curve_order.proofs.hilbert.curve.Goals as goal

pub overflow_add-number : goal.overflow_add-number
overflow_add-number c =
    let back : c.loop-bit.bit - 1 + 1 ≡ c.loop-bit.bit = omega arith in
    omega (
      arith,
      ap (λ b. hilbert b c.loop-bit.x c.loop-bit.y) back,
      c.enter-before.ensures.value,
      c.loop-bit.invariant.value,
      within 16 c.args.x c.args.y (record { in_x = omega arith; in_y = omega arith }),
    )

pub returns : goal.returns
returns c =
    let none : c.loop-bit.bit ≡ 0 = omega arith in
    let value = ap (λ b. hilbert b c.loop-bit.x c.loop-bit.y) none ∙ outermost c.loop-bit.x c.loop-bit.y in
    record { value = omega (arith, value, c.loop-bit.invariant.value) }
