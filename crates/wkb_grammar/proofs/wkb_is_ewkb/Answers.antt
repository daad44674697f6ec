use Rattle.wkb_grammar.proofs.Written.{wkb_is_extended}
use Rattle.wkb_grammar.proofs.wkb_is_ewkb.Goals as goal

pub returns : goal.returns
returns c = wkb_is_extended
