use Rattle.std.proofs.Common.{◌+◌, ◌*◌, ◌≤◌, ◌∙◌, arith}
use Rattle.level_bounds.specs.Levels.{node_count}
use Rattle.level_bounds.specs.Shapes.{shape_of}
use Rattle.node_items.specs.Nodes.{stored}
use Rattle.read_stop.proofs.Asking.{asks_then}
use Rattle.index_reader.specs.Parts.{AreChildren}
use Rattle.index_reader.proofs.Standing.{stands_first, stand_next, asks_wider, inner_within}
use Rattle.index_reader.proofs.Stored.{stored_read, parent_is}
use Rattle.index_reader.proofs.Stops.{on_ok_map}
use Rattle.index_reader.proofs.nodes.read_children.Goals as goal

pub read_group-requires-clause-stands : goal.read_group-requires-clause-stands
read_group-requires-clause-stands g c = let t = shape_of c.args.levels.now in
    stands_first t c.args.levels.now.shaped.shaped c.args.place c.args.number c.args.parents.now c.args.nodes.now c.requires.stand c.requires.inner c.group-first.result.0
    (λ k i is number. (c.group-first.ensures.children k i is number).0)

pub returns-clause-judged : goal.returns-clause-judged
returns-clause-judged g c = λ k i is number image told. let t = shape_of c.args.levels.now in
    let read = c.in_ok-parent.ensures in
    let told_children = c.group-first.ensures.children k i is number in
    let children : AreChildren t k i c.group-first.result.0 c.group-first.result.1 = record { parent = is; first = told_children.0; end = told_children.1 } in
    c.read_group.ensures.group k i children image (read.asked.keeps.image ∙ told)
    (parent_is (stored image c.args.place) c.in_ok-parent.parent c.args.number _ (read.node image told ∙ stored_read image c.args.parents.now.at c.args.place c.args.number c.requires.stand.parent) number)

pub returns-clause-stand : goal.returns-clause-stand
returns-clause-stand g c = let t = shape_of c.args.levels.now in
    on_ok_map c.read_group.result _ _ (λ behind.
    stand_next t c.args.levels.now.shaped.shaped c.args.place c.args.number c.args.parents.now c.args.nodes.now c.requires.stand c.requires.inner c.read_node.new.window c.read_group.new.window c.group-first.result.1
    (λ k i is number. (c.group-first.ensures.children k i is number).1) c.in_ok-parent.ensures.passes c.in_ok-parent.ensures.end behind c.read_group.ensures.end)
    c.read_group.ensures.passes

pub returns-clause-asked : goal.returns-clause-asked
returns-clause-asked g c = let t = shape_of c.args.levels.now in
    let stand = c.requires.stand in
    let begins : c.args.place ≤ c.args.parents.now.at = omega (arith, stand.parent) in
    let ends : c.args.parents.now.end ≤ c.args.place + 40 * node_count t = rw stand.inner (inner_within t c.args.place) in
    let stands = stands_first t c.args.levels.now.shaped.shaped c.args.place c.args.number c.args.parents.now c.args.nodes.now stand c.requires.inner c.group-first.result.0 (λ k i is number. (c.group-first.ensures.children k i is number).0) in
    asks_then (asks_wider c.args.parents.now.at c.args.parents.now.end c.args.place (c.args.place + 40 * node_count t) begins ends c.in_ok-parent.ensures.asked)
    (asks_wider c.args.nodes.now.at c.args.nodes.now.end c.args.place (c.args.place + 40 * node_count t) (omega (arith, stands)) (omega (arith, stand.end)) c.read_group.ensures.asked)
