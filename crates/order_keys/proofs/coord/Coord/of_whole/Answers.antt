use Rattle.order_keys.proofs.Fraction.{one_power}
use Rattle.order_keys.proofs.coord.Coord.of_whole.Goals as goal

pub of_fraction-requires-clause-power : goal.of_fraction-requires-clause-power
of_fraction-requires-clause-power c = one_power
