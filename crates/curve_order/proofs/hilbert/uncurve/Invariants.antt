use Rattle.std.proofs.Common.{◌≡◌, ◌+◌, ◌*◌, ◌^◌}
use Rattle.curve_order.specs.Curve.{IsCell, hilbert}
use Rattle.curve_order.proofs.hilbert.uncurve.Given as goal

abbrev pub invariant-loop-bit : goal.invariant-loop-bit
invariant-loop-bit l = record { value : l.rest * (2 ^ l.bit * 2 ^ l.bit) + hilbert l.bit l.x l.y ≡ l.at; is_cell : IsCell l.bit l.x l.y }
