use Rattle.std.proofs.Common.{◌+◌, arith}
use Rattle.box_search.proofs.Lists.{blank, followed, number_is}
use Rattle.box_search.proofs.nodes.is_followed.Goals as goal

pub overflow_add-result-then-i-run : goal.overflow_add-result-then-i-run
overflow_add-result-then-i-run c = let is = number_is c.args.run.now c.args.i blank c.requires.some in omega (arith, is, c.requires.small)

pub returns-then-i-run : goal.returns-then-i-run
returns-then-i-run c =
    followed c.args.run.now c.args.i _ _ c.if-i-run.true (number_is c.args.run.now (c.args.i + 1) blank c.if-i-run.true) (number_is c.args.run.now c.args.i blank c.requires.some)
