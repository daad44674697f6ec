use Rattle.fgb_file.proofs.Passing.{first_invalid, first_same}
use Rattle.fgb_file.proofs.Valid.{unbroken_valid}
use Rattle.fgb_file.proofs.refusals_are_of_invalid_files.Goals as goal

pub returns-clause-first : goal.returns-clause-first
returns-clause-first c = λ image e first. first_invalid image first

pub returns-clause-some : goal.returns-clause-some
returns-clause-some c = λ image unbroken. unbroken_valid image unbroken

pub returns-clause-one : goal.returns-clause-one
returns-clause-one c = λ image e f a b. first_same image a b
