use Rattle.std.proofs.Common.{◌≡◌, ℕ, ◌<◌, true}
use Rattle.order_keys.specs.Boxes.{contains}
use Rattle.node_items.specs.Groups.{item_in}
use Rattle.node_items.proofs.group.Group.are_inside.Given as goal

abbrev pub invariant-loop-i : goal.invariant-loop-i
invariant-loop-i l = (j : ℕ) → j < l.i → contains l.bounds (item_in l.self j).bounds ≡ true
