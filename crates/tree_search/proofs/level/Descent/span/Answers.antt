use Rattle.std.proofs.Common.{◌+◌, ◌-◌, length, ap, ◌∙◌, arith}
use Rattle.level_bounds.specs.Levels.{place, first_child}
use Rattle.level_bounds.specs.Shapes.{shape_of}
use Rattle.node_items.specs.Nodes.{node_place}
use Rattle.tree_search.specs.Descent.{children_before, first_number}
use Rattle.tree_search.proofs.Offsets.{number_is}
use Rattle.tree_search.proofs.Neighbours.{blank, first_is, neighbour_is, run_node, run_in_front, run_end, first_before, place_order}
use Rattle.tree_search.proofs.level.Descent.span.Goals as goal

pub group-first-requires : goal.group-first-requires
group-first-requires c = run_in_front (shape_of c.args.self.now.levels.now) c.args.self.now.levels.now.shaped.shaped c.args.k c.args.run.now c.requires.neighbours c.requires.level c.requires.there c.level-above.result.0 0 blank c.level-above.ensures.first c.requires.some

pub overflow_add-above-2 : goal.overflow_add-above-2
overflow_add-above-2 c = omega (arith, neighbour_is c.args.run.now (length c.args.run.now - 1) blank c.requires.neighbours (omega arith), c.requires.there)

pub group-end-requires : goal.group-end-requires
group-end-requires c = run_in_front (shape_of c.args.self.now.levels.now) c.args.self.now.levels.now.shaped.shaped c.args.k c.args.run.now c.requires.neighbours c.requires.level c.requires.there c.level-above.result.0 (length c.args.run.now - 1) blank c.level-above.ensures.first (omega arith)

pub returns-clause-from : goal.returns-clause-from
returns-clause-from c = let t = shape_of c.args.self.now.levels.now in
    let node = run_node t c.args.self.now.levels.now.shaped.shaped c.args.k c.args.run.now c.requires.neighbours c.requires.level c.requires.there 0 blank c.requires.some in
    ap (node_place c.args.self.now.place)
    ((c.group-first.ensures.children c.args.k _ node (number_is t (c.args.k + 1) _ c.level-above.result.0 c.level-above.ensures.first)).0
    ∙ ap (λ n. place t c.args.k (first_child t n)) (first_is c.args.run.now blank c.requires.some))

pub returns-clause-until : goal.returns-clause-until
returns-clause-until c = let t = shape_of c.args.self.now.levels.now in
    let node = run_node t c.args.self.now.levels.now.shaped.shaped c.args.k c.args.run.now c.requires.neighbours c.requires.level c.requires.there (length c.args.run.now - 1) blank (omega arith) in
    ap (node_place c.args.self.now.place)
    ((c.group-end.ensures.children c.args.k _ node (number_is t (c.args.k + 1) _ c.level-above.result.0 c.level-above.ensures.first)).1
    ∙ ap (place t c.args.k) (run_end t c.args.self.now.levels.now.shaped.shaped c.args.k c.args.run.now c.requires.neighbours c.requires.level c.requires.there blank c.requires.some))

pub returns-clause-order : goal.returns-clause-order
returns-clause-order c = let t = shape_of c.args.self.now.levels.now in let at = c.args.self.now.place in
    let first = run_node t c.args.self.now.levels.now.shaped.shaped c.args.k c.args.run.now c.requires.neighbours c.requires.level c.requires.there 0 blank c.requires.some in
    let last = run_node t c.args.self.now.levels.now.shaped.shaped c.args.k c.args.run.now c.requires.neighbours c.requires.level c.requires.there (length c.args.run.now - 1) blank (omega arith) in
    let from = (c.group-first.ensures.children c.args.k _ first (number_is t (c.args.k + 1) _ c.level-above.result.0 c.level-above.ensures.first)).0 in
    let until = (c.group-end.ensures.children c.args.k _ last (number_is t (c.args.k + 1) _ c.level-above.result.0 c.level-above.ensures.first)).1 in
    let before = first_before t c.args.self.now.levels.now.shaped.shaped c.args.k (first_number c.args.run.now) (first_number c.args.run.now + length c.args.run.now) (omega (arith, c.requires.there)) (omega arith) in
    rw (from, until, first_is c.args.run.now blank c.requires.some, run_end t c.args.self.now.levels.now.shaped.shaped c.args.k c.args.run.now c.requires.neighbours c.requires.level c.requires.there blank c.requires.some) (place_order t c.args.k (first_child t (first_number c.args.run.now)) (children_before t c.args.k (first_number c.args.run.now + length c.args.run.now)) at before)
