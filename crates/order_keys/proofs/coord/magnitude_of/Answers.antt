use Rattle.std.proofs.Common.{◌+◌, ◌-◌, ◌*◌, ◌/◌, ◌%◌, ◌^◌, arith}
use Rattle.order_keys.proofs.Fraction.{power_is, log_at_most, shifted, worth, normal}
use Rattle.order_keys.proofs.coord.magnitude_of.Goals as goal

pub returns : goal.returns
returns c =
    let n = c.args.number in
    let k = c.ilog2-log.result in
    let q = c.ilog2.result in
    let s = n * 2 ^ (63 - k) % 2 ^ 64 / 2 ^ 11 in
    let low = log_at_most n k 53 c.requires.whole c.ilog2-log.ensures.power_le in
    let small = log_at_most c.args.divisor q 52 c.requires.small c.ilog2.ensures.power_le in
    let power = power_is c.args.divisor q c.requires.power c.ilog2.ensures.power_le c.ilog2.ensures.next_power_gt in
    let shift = shifted n k c.requires.whole c.ilog2-log.ensures.power_le c.ilog2-log.ensures.next_power_gt in
    normal _ (1023 + k - q) s n c.args.divisor (omega arith) (omega arith) (omega arith) shift.above shift.below (worth n k c.args.divisor q s low small power shift)
