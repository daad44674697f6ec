use Rattle.box_list.proofs.Parts.{alone, first_cut}
use Rattle.box_list.proofs.words.cut.Goals as goal

pub returns-in-Some : goal.returns-in-Some
returns-in-Some c = first_cut c.args.text.now c.in-Some.part c.in-Some.later c.in-Some.ensures.cases

pub returns-in-None : goal.returns-in-None
returns-in-None c = alone c.args.text.now c.in-None.ensures.cases
