use Rattle.level_bounds.specs.Shapes.{shape_of}
use Rattle.tree_writer.specs.Rows.{parent_over}
use Rattle.tree_writer.proofs.Parents.{parent_more}
use Rattle.tree_writer.proofs.tree.parents.Goals as goal

pub loop-i-preserved : goal.loop-i-preserved
loop-i-preserved c =
    parent_more (parent_over (shape_of c.args.levels.now) c.args.nodes.now c.args.level) c.loop-i.i c.loop-i.parents.items c.push.new.self.items c.parent.result
    c.loop-i.invariant c.parent.ensures c.in_ok-push.ensures.items
