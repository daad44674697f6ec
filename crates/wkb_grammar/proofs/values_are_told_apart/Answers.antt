use Rattle.wkb_grammar.proofs.Apart.{values_are_told_apart}
use Rattle.wkb_grammar.proofs.values_are_told_apart.Goals as goal

pub returns : goal.returns
returns c = values_are_told_apart
