use Rattle.fgb_file.proofs.Passing.{file_sound, files_same}
use Rattle.fgb_file.proofs.Valid.{valid_file}
use Rattle.fgb_file.proofs.files_are_features.Goals as goal

pub returns-clause-whole : goal.returns-clause-whole
returns-clause-whole c = λ image valid. valid_file image valid

pub returns-clause-sound : goal.returns-clause-sound
returns-clause-sound c = λ image index pieces file. file_sound image file

pub returns-clause-one : goal.returns-clause-one
returns-clause-one c = λ image index pieces other others file also. files_same image file also
