use Rattle.std.proofs.Common.{ℕ, ◌+◌, ◌-◌, ◌<◌, ◌++◌, map, sym, ap, ◌∙◌, subst}
use Rattle.std.specs.List.{filter, range_with_len}
use Rattle.fgb_outside.specs.Asked.{Ascends}
use Rattle.level_bounds.specs.Levels.{place, first_child, children_end}
use Rattle.level_bounds.specs.Shapes.{shape_of}
use Rattle.level_bounds.proofs.Places.{inner_in_front}
use Rattle.node_items.specs.Nodes.{stored}
use Rattle.index_reader.proofs.Stops.{on_ok_map}
use Rattle.tree_search.specs.Wanted.{meets_box, passes}
use Rattle.tree_search.specs.Searches.{hit_of}
use Rattle.tree_search.specs.Descent.{numbers}
use Rattle.tree_search.proofs.Offsets.{number_is, offset_is, count_is}
use Rattle.tree_search.proofs.level.Descent.group.Goals as goal

pub group-first-requires : goal.group-first-requires
group-first-requires g c = let t = shape_of c.args.self.now.levels.now in
    subst (λ n. n < place t 0 0) (sym (number_is t (c.args.k + 1) c.args.parent.number c.level.result.0 c.level.ensures.first)) (inner_in_front t c.args.k c.args.parent.number c.requires.node)

pub returns-clause-found : goal.returns-clause-found
returns-clause-found g c = let t = shape_of c.args.self.now.levels.now in let j = c.args.parent.number in
    let told = c.group-first.ensures.children c.args.k j c.requires.node (number_is t (c.args.k + 1) j c.level.result.0 c.level.ensures.first) in
    let first = offset_is t c.args.k (first_child t j) c.group-first.result.0 c.level-2.result.0 told.0 c.level-2.ensures.first in
    let count = count_is t c.args.k (first_child t j) (children_end t c.args.k j) c.group-first.result.0 c.group-first.result.1 told.0 told.1 in
    on_ok_map c.siblings.result _ _ (λ found image is.
    let nodes = stored image c.args.self.now.place in
    let added = λ (from n : ℕ). c.args.found.now.items ++ map (hit_of t nodes c.args.k) (filter (passes t nodes (meets_box c.args.self.now.bounds) c.args.k) (range_with_len from n)) in
    found image is c.args.k c.level-2.ensures.first ∙ ap (λ n. added n (c.group-first.result.1 - c.group-first.result.0)) first ∙ ap (added (first_child t j)) count) c.siblings.ensures.found

pub returns-clause-rise : goal.returns-clause-rise
returns-clause-rise g c = let t = shape_of c.args.self.now.levels.now in let j = c.args.parent.number in
    let told = c.group-first.ensures.children c.args.k j c.requires.node (number_is t (c.args.k + 1) j c.level.result.0 c.level.ensures.first) in
    let first = offset_is t c.args.k (first_child t j) c.group-first.result.0 c.level-2.result.0 told.0 c.level-2.ensures.first in
    let end = offset_is t c.args.k (children_end t c.args.k j) c.group-first.result.1 c.level-2.result.0 told.1 c.level-2.ensures.first in
    on_ok_map c.siblings.result _ _ (λ rise low before.
    subst (λ n. Ascends low n (numbers c.siblings.new.found.items)) end (rise low (subst (λ n. Ascends low n (numbers c.args.found.now.items)) (sym first) before))) c.siblings.ensures.rise
