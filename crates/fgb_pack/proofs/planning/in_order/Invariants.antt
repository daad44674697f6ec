use Rattle.std.proofs.Common.{◌≡◌, take}
use Rattle.fgb_pack.specs.Plans.{spans_in_order}
use Rattle.fgb_pack.proofs.planning.in_order.Given as goal

abbrev pub invariant-loop-number : goal.invariant-loop-number
invariant-loop-number l = l.ordered.items ≡ spans_in_order l.spans (take l.number-index l.numbers)
