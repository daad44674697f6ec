use Rattle.std.proofs.Common.{sym}
use Rattle.fgb_where.specs.Binding.{no_class, no_value}
use Rattle.fgb_where.proofs.words.Condition.read_as.Goals as goal

pub returns-in_default : goal.returns-in_default
returns-in_default c = no_class (sym c.in_default.ensures)

pub returns-in-None : goal.returns-in-None
returns-in-None c = no_value c.in-Some.class (sym c.in-Some.ensures) c.in-None.ensures.none
