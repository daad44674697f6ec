use Rattle.std.proofs.Common.{◌≡◌, take}
use Rattle.order_keys.specs.Boxes.{IsBox}
use Rattle.feature_order.specs.Order.{extent}
use Rattle.feature_order.proofs.rank.extent.Given as goal

abbrev pub invariant-loop-bounds : goal.invariant-loop-bounds
invariant-loop-bounds l = record { value : l.around ≡ extent (take l.bounds-index l.boxes); is_box : IsBox l.around }
