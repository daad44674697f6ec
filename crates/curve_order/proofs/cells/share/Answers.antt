use Rattle.std.proofs.Common.{arith}
use Rattle.std.proofs.lemmas.Int.{ints}
use Rattle.curve_order.proofs.Shares.{share_is}
use Rattle.curve_order.proofs.cells.share.Goals as goal

pub returns : goal.returns
returns c =
    share_is c.args.min.0 c.args.max.0 c.args.from.0 c.args.to.0 c.in_parts.result _ _ c.middle_of-middle.result c.in_parts.ensures.low c.in_parts.ensures.high
    (omega (arith, ints)) c.middle_of-middle.ensures (omega (arith, ints)) (omega (arith, ints))
