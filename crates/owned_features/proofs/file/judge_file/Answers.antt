use Rattle.owned_features.proofs.Whole.{accepted_valid}
use Rattle.owned_features.proofs.file.judge_file.Goals as goal

pub returns-in-Ok-Accepted-clause-valid : goal.returns-in-Ok-Accepted-clause-valid
returns-in-Ok-Accepted-clause-valid g c = λ image told. let accepted = c.in-Ok-Accepted in
    accepted_valid image accepted.field-0 accepted.field-0-0 accepted.field-0-1 accepted.field-0-is (accepted.ensures.judged image told)
