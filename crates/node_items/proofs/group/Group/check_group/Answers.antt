use Rattle.std.proofs.Common.{◌≡◌, ◌+◌, arith}
use Rattle.level_bounds.specs.Shapes.{shape_of}
use Rattle.level_bounds.specs.Levels.{place, first_child, children_end}
use Rattle.level_bounds.proofs.Kept.{kept_shape, kept_fits}
use Rattle.level_bounds.proofs.Places.{root_first}
use Rattle.node_items.specs.Groups.{place_of}
use Rattle.node_items.proofs.Faults.{refused_exit, nodes_first, then_parent}
use Rattle.node_items.proofs.Groups.{child_is_node, root_is_node, root_group, root_clean, root_refused, same_parent}
use Rattle.node_items.proofs.group.Group.check_group.Goals as goal

pub returns-in_err-check_nodes-clause-group : goal.returns-in_err-check_nodes-clause-group
returns-in_err-check_nodes-clause-group c k i nodes is holds parent =
    let t = shape_of c.args.levels.now in
    refused_exit _ _ _ c.from_residual.ensures.1
    (nodes_first t nodes (place_of c.args.self.now) k i _
    (c.in_err-check_nodes.ensures k (first_child t i) (children_end t k i) nodes (λ d from under. child_is_node t k i d is under) holds))

pub returns-in_err-check_nodes-clause-root : goal.returns-in_err-check_nodes-clause-root
returns-in_err-check_nodes-clause-root c nodes holds none =
    let t = shape_of c.args.levels.now in
    refused_exit _ _ _ c.from_residual.ensures.1
    (root_refused t nodes (place_of c.args.self.now) _
    (c.in_err-check_nodes.ensures t.top 0 1 nodes (λ d from under. root_is_node t (kept_shape c.args.levels.now) d under) (root_group t c.args.self.now nodes (root_first t) holds)))

pub returns-in-Some-clause-group : goal.returns-in-Some-clause-group
returns-in-Some-clause-group c k i nodes is holds parent =
    let t = shape_of c.args.levels.now in
    let same : (c.in-Some.item ≡ nodes (place t (k + 1) i)) × (c.in-Some.number ≡ place t (k + 1) i) = same_parent c.args.parent _ _ _ _ c.in-Some.is parent in
    then_parent t nodes (place_of c.args.self.now) k i c.check_parent.result
    (c.in_ok-check_nodes.ensures k (first_child t i) (children_end t k i) nodes (λ d from under. child_is_node t k i d is under) holds)
    (c.check_parent.ensures t k i nodes holds same.0 same.1)

pub returns-in-None-clause-root : goal.returns-in-None-clause-root
returns-in-None-clause-root c nodes holds none =
    let t = shape_of c.args.levels.now in
    root_clean t nodes (place_of c.args.self.now)
    (c.in_ok-check_nodes.ensures t.top 0 1 nodes (λ d from under. root_is_node t (kept_shape c.args.levels.now) d under) (root_group t c.args.self.now nodes (root_first t) holds))

pub check_parent-requires : goal.check_parent-requires
check_parent-requires c = omega (arith, c.requires.known c.in-Some.item c.in-Some.number c.in-Some.is, kept_fits c.args.levels.now)
