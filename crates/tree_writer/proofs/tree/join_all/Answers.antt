use Rattle.std.proofs.Common.{ap, sym, ◌∙◌, arith, get_or}
use Rattle.std.proofs.lemmas.List.{take_all}
use Rattle.order_keys.specs.declared.bounds.Bounds.{Bounds}
use Rattle.order_keys.specs.Boxes.{join}
use Rattle.tree_writer.specs.Packed.{joined}
use Rattle.tree_writer.proofs.Joins.{joined_more}
use Rattle.tree_writer.proofs.Paging.{nothing}
use Rattle.tree_writer.proofs.tree.join_all.Goals as goal

pub loop-node-preserved : goal.loop-node-preserved
loop-node-preserved c =
    c.join-bounds.ensures.value
    ∙ ap (λ (b : Bounds). join b (get_or c.args.nodes.now c.loop-node.node-index nothing).bounds) c.loop-node.invariant
    ∙ sym (joined_more c.args.nodes.now c.loop-node.node-index nothing (omega arith))

pub returns : goal.returns
returns c = c.loop-node.invariant ∙ ap joined (take_all c.loop-node.node-index c.args.nodes.now (omega arith))
