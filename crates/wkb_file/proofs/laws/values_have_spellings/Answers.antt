use Rattle.wkb_file.proofs.Spelled.{value_has_spelling}
use Rattle.wkb_file.proofs.laws.values_have_spellings.Goals as goal

pub returns : goal.returns
returns c = value_has_spelling
