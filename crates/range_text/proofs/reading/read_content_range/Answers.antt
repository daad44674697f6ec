use Rattle.std.proofs.Common.{rules}
use Rattle.range_text.proofs.Forms.{only_content, some_content}
use Rattle.range_text.proofs.reading.read_content_range.Goals as goal

pub returns-in_err-part-clause-only : goal.returns-in_err-part-clause-only
returns-in_err-part-clause-only c = only_content c.args.value.now _ (search rules)

pub returns-in_err-read_number-clause-only : goal.returns-in_err-read_number-clause-only
returns-in_err-read_number-clause-only c = only_content c.args.value.now _ (search rules)

pub returns-clause-some : goal.returns-clause-some
returns-clause-some c = some_content c.args.value.now _ (search rules)

pub returns-clause-only : goal.returns-clause-only
returns-clause-only c = only_content c.args.value.now _ (search rules)
