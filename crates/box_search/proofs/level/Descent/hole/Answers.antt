use Rattle.std.proofs.Common.{arith}
use Rattle.level_bounds.specs.Shapes.{shape_of}
use Rattle.box_search.proofs.Bridges.{child_order, hole_numbers}
use Rattle.box_search.proofs.level.Descent.hole.Goals as goal

pub overflow_sub-result : goal.overflow_sub-result
overflow_sub-result c = let t = shape_of c.args.self.now.levels.now in
    omega (arith, child_order t c.args.k c.args.node c.args.later c.requires.order c.children-end.result.1 c.children-first.result.0 c.children-end.ensures.end c.children-first.ensures.first)

pub returns : goal.returns
returns c = let t = shape_of c.args.self.now.levels.now in
    hole_numbers t c.args.k c.args.node c.args.later c.children-end.result.1 c.children-first.result.0 c.children-end.ensures.end c.children-first.ensures.first
