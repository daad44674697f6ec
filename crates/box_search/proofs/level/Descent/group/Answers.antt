use Rattle.std.proofs.Common.{ℕ, arith, ◌+◌, ◌-◌, ◌++◌, map, sym, ap, ◌∙◌, subst}
use Rattle.std.specs.List.{filter, range_with_len}
use Rattle.fgb_outside.specs.Asked.{Ascends}
use Rattle.level_bounds.specs.Levels.{place, first_child, children_end}
use Rattle.level_bounds.specs.Shapes.{shape_of}
use Rattle.node_items.specs.Nodes.{stored}
use Rattle.index_reader.proofs.Stops.{on_ok_map}
use Rattle.index_reader.proofs.Stored.{parent_is}
use Rattle.box_list.specs.Lists.{meets_any}
use Rattle.tree_search.specs.Wanted.{passes}
use Rattle.tree_search.specs.Searches.{hit_of}
use Rattle.tree_search.specs.Descent.{numbers}
use Rattle.tree_search.proofs.Offsets.{number_is, offset_is, count_is}
use Rattle.box_search.specs.Following.{next_before, next_under, one_for}
use Rattle.box_search.specs.Hits.{plains}
use Rattle.box_search.proofs.Following.{behind_child}
use Rattle.box_search.proofs.level.Descent.group.Goals as goal

pub returns-clause-found : goal.returns-clause-found
returns-clause-found g c = let t = shape_of c.args.self.now.levels.now in let j = c.args.parent.number in
    let told = c.children-first.ensures in
    let first = offset_is t c.args.k (first_child t j) c.children-first.result.0 c.level.result.0 told.first c.level.ensures.first in
    let count = count_is t c.args.k (first_child t j) (children_end t c.args.k j) c.children-first.result.0 c.children-first.result.1 told.first told.end in
    on_ok_map c.siblings.result _ _ (λ found image is.
    let nodes = stored image c.args.self.now.place in
    let added = λ (from n : ℕ). plains c.args.found.now.items ++ map (hit_of t nodes c.args.k) (filter (passes t nodes (meets_any c.args.self.now.boxes.now) c.args.k) (range_with_len from n)) in
    found image is c.args.k c.level.ensures.first ∙ ap (λ n. added n (c.children-first.result.1 - c.children-first.result.0)) first ∙ ap (added (first_child t j)) count) c.siblings.ensures.found

pub returns-clause-rise : goal.returns-clause-rise
returns-clause-rise g c = let t = shape_of c.args.self.now.levels.now in let j = c.args.parent.number in
    let told = c.children-first.ensures in
    let first = offset_is t c.args.k (first_child t j) c.children-first.result.0 c.level.result.0 told.first c.level.ensures.first in
    let end = offset_is t c.args.k (children_end t c.args.k j) c.children-first.result.1 c.level.result.0 told.end c.level.ensures.first in
    on_ok_map c.siblings.result _ _ (λ rise low before.
    subst (λ n. Ascends low n (numbers (plains c.siblings.new.found.items))) end (rise low (subst (λ n. Ascends low n (numbers (plains c.args.found.now.items))) (sym first) before))) c.siblings.ensures.rise

pub returns-clause-judged : goal.returns-clause-judged
returns-clause-judged g c = λ image told is. let t = shape_of c.args.self.now.levels.now in let j = c.args.parent.number in
    let nodes = stored image c.args.self.now.place in
    let number = number_is t (c.args.k + 1) j c.level-2.result.0 c.level-2.ensures.first in
    c.siblings.ensures.group c.args.k j (record { parent = c.requires.node; first = c.children-first.ensures.first; end = c.children-first.ensures.end }) image told
    (parent_is nodes c.args.parent.item _ _ (is ∙ ap nodes (sym number)) number)

pub returns-clause-passes : goal.returns-clause-passes
returns-clause-passes g c = rw (← c.children-first.ensures.first, ← c.children-first.ensures.end) c.siblings.ensures.passes

pub returns-clause-reads : goal.returns-clause-reads
returns-clause-reads g c = rw (← c.children-first.ensures.first) c.siblings.ensures.reads

pub returns-clause-front : goal.returns-clause-front
returns-clause-front g c = rw (← c.children-first.ensures.first) c.siblings.ensures.front

pub returns-clause-next : goal.returns-clause-next
returns-clause-next g c = let t = shape_of c.args.self.now.levels.now in let j = c.args.parent.number in
    let told = c.children-first.ensures in
    let first = offset_is t c.args.k (first_child t j) c.children-first.result.0 c.level.result.0 told.first c.level.ensures.first in
    let end = offset_is t c.args.k (children_end t c.args.k j) c.children-first.result.1 c.level.result.0 told.end c.level.ensures.first in
    on_ok_map c.siblings.result _ _ (λ next image is passing mine later.
    let nodes = stored image c.args.self.now.place in
    next image is c.args.k c.level.ensures.first (next_under t nodes c.args.k passing) (λ i from till.
    behind_child t c.args.self.now.levels.now.shaped.shaped nodes c.args.k j passing c.args.goes_on mine later c.requires.follows i (omega (arith, first, from)) (omega (arith, end, till))
    ∙ ap (λ e. next_before t nodes c.args.k (e + one_for c.args.goes_on) i) (sym end))) c.siblings.ensures.next
