use Rattle.std.proofs.Common.{◌-◌, ◌≤◌, length, arith, rules}
use Rattle.level_bounds.specs.Shapes.{shape_of}
use Rattle.tree_writer.proofs.Parents.{children_behind, children_within, is_inner, is_node, numbered, parent_is}
use Rattle.tree_writer.proofs.tree.parent.Goals as goal

pub group-from-requires : goal.group-from-requires
group-from-requires c =
    is_inner (shape_of c.args.levels.now) c.args.level c.args.i c.level-base.result.0 c.level.result.0 c.requires.below c.requires.there c.level-base.ensures.first c.level.ensures.first

pub overflow_sub-children : goal.overflow_sub-children
overflow_sub-children c =
    let t = shape_of c.args.levels.now in
    let k = c.args.level in
    let i = c.args.i in
    let is = is_node t k i c.level-base.result.0 c.level.result.0 c.requires.below c.requires.there c.level-base.ensures.first c.level.ensures.first in
    let number = numbered t k i c.level-base.result.0 c.level.result.0 c.requires.below c.requires.there c.level-base.ensures.first c.level.ensures.first in
    children_behind t k i c.level-base.result.0 c.level.result.0 c.requires.below c.requires.there c.level-base.ensures.first c.level.ensures.first
    c.group-from.result.0 c.group-from.result.1 (c.group-from.ensures.children k i is number)

pub overflow_sub-children-2 : goal.overflow_sub-children-2
overflow_sub-children-2 c = omega (arith, overflow_sub-children c, c.group-from.ensures.order)

pub slice_bounds-children-end : goal.slice_bounds-children-end
slice_bounds-children-end c =
    let t = shape_of c.args.levels.now in
    let k = c.args.level in
    let i = c.args.i in
    let is = is_node t k i c.level-base.result.0 c.level.result.0 c.requires.below c.requires.there c.level-base.ensures.first c.level.ensures.first in
    let number = numbered t k i c.level-base.result.0 c.level.result.0 c.requires.below c.requires.there c.level-base.ensures.first c.level.ensures.first in
    let within = children_within t k i c.level-base.result.0 c.level.result.0 c.requires.below c.requires.there c.level-base.ensures.first c.level.ensures.first
    c.group-from.result.0 c.group-from.result.1 (c.group-from.ensures.children k i is number) in
    let inside : c.group-from.result.1 - c.level-base.result.0 ≤ length c.args.nodes.now = omega (arith, within, c.requires.all) in
    search rules

pub returns : goal.returns
returns c =
    let t = shape_of c.args.levels.now in
    let k = c.args.level in
    let i = c.args.i in
    let is = is_node t k i c.level-base.result.0 c.level.result.0 c.requires.below c.requires.there c.level-base.ensures.first c.level.ensures.first in
    let number = numbered t k i c.level-base.result.0 c.level.result.0 c.requires.below c.requires.there c.level-base.ensures.first c.level.ensures.first in
    parent_is t k i c.level-base.result.0 c.level.result.0 c.requires.below c.requires.there c.level-base.ensures.first c.level.ensures.first
    c.group-from.result.0 c.group-from.result.1 (c.group-from.ensures.children k i is number) c.args.nodes.now c.join_all.result c.join_all.ensures
