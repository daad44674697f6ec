use Rattle.wkb_file.proofs.Spelled.{one_spelling, spellings_are_values}
use Rattle.wkb_file.proofs.laws.spellings_are_files.Goals as goal

pub returns : goal.returns
returns c = record {
  file = λ shapes bytes spelled are written small. record { values = spellings_are_values shapes bytes spelled are written small; small = small };
  one = one_spelling;
}
