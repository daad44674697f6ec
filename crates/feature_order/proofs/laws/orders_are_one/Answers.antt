use Rattle.feature_order.proofs.Rising.{one_order}
use Rattle.feature_order.proofs.laws.orders_are_one.Goals as goal

pub returns : goal.returns
returns c = record { one = one_order }
