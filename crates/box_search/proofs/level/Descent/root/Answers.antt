use Rattle.std.proofs.Common.{◌+◌, [], ◌∷◌, ◌++◌, ◌∙◌, sym, ap, subst, map, arith}
use Rattle.std.specs.List.{filter}
use Rattle.fgb_outside.proofs.Asking.{reads_along, front_along}
use Rattle.section_window.specs.Window.{ahead}
use Rattle.level_bounds.specs.Shapes.{shape_of}
use Rattle.level_bounds.proofs.Places.{root_first}
use Rattle.node_items.specs.Nodes.{stored}
use Rattle.read_stop.proofs.Stopping.{on_err}
use Rattle.box_list.specs.Lists.{meets_any}
use Rattle.tree_search.specs.Wanted.{passes}
use Rattle.tree_search.specs.Searches.{hit_of}
use Rattle.tree_search.proofs.Descent.{hits_root}
use Rattle.box_search.specs.Following.{HaveNext, next_of}
use Rattle.box_search.specs.Hits.{plains}
use Rattle.box_search.proofs.Behind.{root_next}
use Rattle.box_search.proofs.Windows.{last_begun, root_behind, root_bridged}
use Rattle.box_search.proofs.level.Descent.root.Goals as goal

pub returns-in_err-siblings-clause-front : goal.returns-in_err-siblings-clause-front
returns-in_err-siblings-clause-front g c = let t = shape_of c.args.self.now.levels.now in
    on_err c.from_residual.result _ (front_along _ _ (root_bridged t c.args.self.now.place c.args.self.now.gap (c.args.self.now.place + 40) c.args.window.now c.requires.stands c.requires.empty c.requires.none (omega arith)) c.in_err-siblings.ensures.front)

pub returns-clause-found : goal.returns-clause-found
returns-clause-found g c = λ image told. let t = shape_of c.args.self.now.levels.now in let nodes = stored image c.args.self.now.place in
    c.in_ok-siblings.ensures.found image told t.top (sym (root_first t))
    ∙ ap (λ l. plains l ++ map (hit_of t nodes t.top) (filter (passes t nodes (meets_any c.args.self.now.boxes.now) t.top) (0 ∷ []))) c.new-found.ensures.items
    ∙ ap (map (hit_of t nodes t.top)) (sym (hits_root t nodes (meets_any c.args.self.now.boxes.now) c.args.self.now.levels.now.shaped.shaped))

pub returns-clause-reads : goal.returns-clause-reads
returns-clause-reads g c = let t = shape_of c.args.self.now.levels.now in
    let goes = c.in_ok-siblings.ensures.passes in
    reads_along _ _ (root_bridged t c.args.self.now.place c.args.self.now.gap (ahead c.siblings.new.window.held) c.args.window.now c.requires.stands c.requires.empty c.requires.none (omega (arith, goes.stands, goes.before))) c.in_ok-siblings.ensures.reads

pub returns-clause-last : goal.returns-clause-last
returns-clause-last g c = let t = shape_of c.args.self.now.levels.now in
    let goes = c.in_ok-siblings.ensures.passes in
    last_begun c.siblings.new.window (c.args.self.now.place + 40) goes.begun (omega (arith, goes.stands, goes.before)) ∙ sym (root_behind t c.args.self.now.place)

pub returns-clause-next : goal.returns-clause-next
returns-clause-next g c = λ image told. let t = shape_of c.args.self.now.levels.now in let nodes = stored image c.args.self.now.place in let test = meets_any c.args.self.now.boxes.now in
    c.in_ok-siblings.ensures.next image told t.top (sym (root_first t)) (next_of t nodes test t.top) (λ i from till. root_next t c.args.self.now.levels.now.shaped.shaped nodes test i _ (omega arith))
    (subst (HaveNext (next_of t nodes test t.top)) (sym c.new-found.ensures.items) tt)
