use Rattle.std.proofs.Common.{arith}
use Rattle.std.proofs.lemmas.Int.{ints}
use Rattle.curve_order.proofs.Shares.{middle_is}
use Rattle.curve_order.proofs.cells.middle_of.Goals as goal

pub returns : goal.returns
returns c = middle_is c.args.min.0 c.args.max.0 _ _ _ c.div_euclid.ensures (omega (arith, ints)) (omega (arith, ints))
