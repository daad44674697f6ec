use Rattle.std.proofs.Common.{arith}
use Rattle.index_reader.proofs.Stored.{stored_part}
use Rattle.index_reader.proofs.memory.judge_nodes.Goals as goal

pub returns-clause-group : goal.returns-clause-group
returns-clause-group c = λ k i children parent.
    c.judge_group.ensures.group c.args.file.now c.args.end k i (stored_part c.args.file.now c.args.place c.args.first c.args.end (omega arith) (omega arith)) children parent
