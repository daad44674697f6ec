use Rattle.fgb_check.proofs.Declared.{accepted_front}
use Rattle.fgb_check.proofs.source.check.Goals as goal

pub returns-in-Ok-clause-front : goal.returns-in-Ok-clause-front
returns-in-Ok-clause-front g c = λ image told none. let whole = c.in-Ok.ensures.file image told in accepted_front image _ _ whole.index whole.file.file.opened none (c.in-Ok.ensures.asked image told)
