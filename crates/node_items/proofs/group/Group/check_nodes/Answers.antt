use Rattle.std.proofs.Common.{arith, below_more}
use Rattle.level_bounds.specs.Shapes.{shape_of}
use Rattle.node_items.proofs.Faults.{refused_exit}
use Rattle.node_items.proofs.Groups.{clean_nodes, refused_node}
use Rattle.node_items.proofs.group.Group.check_nodes.Goals as goal

pub returns-in_err-check_node : goal.returns-in_err-check_node
returns-in_err-check_node c k from till nodes are holds =
    refused_exit _ _ _ c.from_residual.ensures.1
    (refused_node (shape_of c.args.levels.now) c.args.self.now k from till nodes holds are c.loop-i.i c.in_err-check_node.field-0.0 (omega (arith, c.len-i-end.ensures)) c.loop-i.invariant c.in_err-check_node.ensures)

pub loop-i-preserved : goal.loop-i-preserved
loop-i-preserved c = below_more _ _ c.loop-i.invariant c.in_ok-check_node.ensures

pub returns : goal.returns
returns c k from till nodes are holds =
    clean_nodes (shape_of c.args.levels.now) c.args.self.now k from till nodes holds are (λ j inside. c.loop-i.invariant j (omega (arith, c.len-i-end.ensures)))
