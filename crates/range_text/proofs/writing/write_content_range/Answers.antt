use Rattle.std.proofs.Common.{rules}
use Rattle.range_text.proofs.Written.{content_spelled}
use Rattle.range_text.proofs.writing.write_content_range.Goals as goal

pub returns-in-Part-clause-back : goal.returns-in-Part-clause-back
returns-in-Part-clause-back c = content_spelled _ c.args.range (search rules) c.requires

pub returns-in-Unsatisfied-clause-back : goal.returns-in-Unsatisfied-clause-back
returns-in-Unsatisfied-clause-back c = content_spelled _ c.args.range (search rules) c.requires
