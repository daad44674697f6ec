use Rattle.std.proofs.Common.{arith}
use Rattle.std.proofs.Math.Nat.{le-mul_of_pos_right, mul_comm}
use Rattle.flat_builder.proofs.measure.items_end.Goals as goal

pub returns-then-count-limit : goal.returns-then-count-limit
returns-then-count-limit c =
    omega (arith, le-mul_of_pos_right c.args.count c.requires.some, mul_comm c.args.width c.args.count)
