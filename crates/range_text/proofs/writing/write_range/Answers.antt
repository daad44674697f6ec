use Rattle.std.proofs.Common.{rules}
use Rattle.range_text.proofs.Written.{range_spelled}
use Rattle.range_text.proofs.writing.write_range.Goals as goal

pub returns-clause-back : goal.returns-clause-back
returns-clause-back c = range_spelled _ c.args.first c.args.last (search rules) c.requires.order c.requires.small
