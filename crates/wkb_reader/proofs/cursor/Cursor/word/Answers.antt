use Rattle.std.proofs.Common.{arith}
use Rattle.flat_layout.specs.declared.Rule.TheVariants.{WkbEnd}
use Rattle.wkb_reader.specs.Refusals.{IsCut, cut_item}
use Rattle.wkb_reader.proofs.Passing.{names_here}
use Rattle.wkb_reader.proofs.cursor.Cursor.word.Goals as goal

pub returns-then-self-lt4-clause-err : goal.returns-then-self-lt4-clause-err
returns-then-self-lt4-clause-err c =
    names_here c.refused.result c.args.self.now.at WkbEnd (IsCut 4 c.args.self.now.rest.now) c.refused.ensures (cut_item (omega arith))
