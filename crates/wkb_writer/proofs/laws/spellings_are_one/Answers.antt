use Rattle.wkb_writer.proofs.OnlyOne.{none_of_both, only_extended, only_one}
use Rattle.wkb_writer.proofs.laws.spellings_are_one.Goals as goal

pub returns : goal.returns
returns c = record { one = only_one; extended = only_extended; not_both = none_of_both }
