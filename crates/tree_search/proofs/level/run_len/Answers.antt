use Rattle.tree_search.proofs.Neighbours.{neighbour_more, none_behind}
use Rattle.tree_search.proofs.level.run_len.Goals as goal

pub loop-i-preserved : goal.loop-i-preserved
loop-i-preserved c = neighbour_more c.args.nodes.now _ c.loop-i.i _ c.loop-i-test.true c.if-node-first.false c.loop-i.invariant

pub returns-clause-all : goal.returns-clause-all
returns-clause-all c = λ next is _. none_behind c.args.nodes.now next is
