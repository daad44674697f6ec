use Rattle.range_reply.proofs.Judging.{range_told, range_within}
use Rattle.range_reply.proofs.judge.range_of_value.Goals as goal

pub returns-clause-asked : goal.returns-clause-asked
returns-clause-asked c = range_told c.args.size c.args.value.now c.read_range.result c.read_range.ensures.spelled c.read_range.ensures.other

pub returns-clause-within : goal.returns-clause-within
returns-clause-within c = range_within c.args.size c.args.value.now c.read_range.result
    (range_told c.args.size c.args.value.now c.read_range.result c.read_range.ensures.spelled c.read_range.ensures.other)
