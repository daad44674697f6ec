use Rattle.std.proofs.Common.{◌≡◌, ◌+◌}
use Rattle.curve_order.specs.Curve.{IsCell, hilbert}
use Rattle.curve_order.proofs.hilbert.curve.Given as goal

abbrev pub invariant-loop-bit : goal.invariant-loop-bit
invariant-loop-bit l = record { value : l.number + hilbert l.bit l.x l.y ≡ hilbert 16 l.fn.x l.fn.y; is_cell : IsCell l.bit l.x l.y }
