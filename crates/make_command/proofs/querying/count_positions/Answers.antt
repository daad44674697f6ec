use Rattle.std.proofs.Common.{arith}
use Rattle.make_command.proofs.Requests.{pair_counted, pair_fits}
use Rattle.make_command.proofs.querying.count_positions.Goals as goal

pub overflow_add-count : goal.overflow_add-count
overflow_add-count c = omega (arith, pair_fits c.args.pairs.now c.loop-pair.pair-index c.loop-pair.count c.loop-pair-test.true c.loop-pair.invariant c.requires)

pub loop-pair-preserved : goal.loop-pair-preserved
loop-pair-preserved c = pair_counted c.args.pairs.now c.loop-pair.pair-index c.loop-pair.count c.loop-pair-test.true c.loop-pair.invariant
