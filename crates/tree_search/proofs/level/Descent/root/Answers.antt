use Rattle.std.proofs.Common.{[], ◌∷◌, ◌++◌, ◌∙◌, sym, ap, map}
use Rattle.fgb_outside.proofs.Asking.{reads_along, front_along}
use Rattle.std.specs.List.{filter}
use Rattle.level_bounds.specs.Shapes.{shape_of}
use Rattle.level_bounds.proofs.Places.{root_first}
use Rattle.node_items.specs.Nodes.{stored}
use Rattle.read_stop.proofs.Stopping.{on_err}
use Rattle.tree_search.specs.Wanted.{meets_box, passes}
use Rattle.tree_search.specs.Searches.{hit_of}
use Rattle.tree_search.proofs.Descent.{hits_root}
use Rattle.tree_search.proofs.Positions.{root_asked, root_left}
use Rattle.tree_search.proofs.level.Descent.root.Goals as goal

pub returns-in_err-siblings-clause-front : goal.returns-in_err-siblings-clause-front
returns-in_err-siblings-clause-front g c = let t = shape_of c.args.self.now.levels.now in
    on_err c.from_residual.result _ (front_along _ _ (root_left c.args.self.now.place t c.args.window.now c.requires.stands c.requires.none) c.in_err-siblings.ensures.front)

pub returns-clause-found : goal.returns-clause-found
returns-clause-found g c = λ image told. let t = shape_of c.args.self.now.levels.now in let nodes = stored image c.args.self.now.place in
    c.in_ok-siblings.ensures.found image told t.top (sym (root_first t))
    ∙ ap (λ l. l ++ map (hit_of t nodes t.top) (filter (passes t nodes (meets_box c.args.self.now.bounds) t.top) (0 ∷ []))) c.new-found.ensures.items
    ∙ ap (map (hit_of t nodes t.top)) (sym (hits_root t nodes (meets_box c.args.self.now.bounds) c.args.self.now.levels.now.shaped.shaped))

pub returns-clause-reads : goal.returns-clause-reads
returns-clause-reads g c = let t = shape_of c.args.self.now.levels.now in
    reads_along _ _ (root_asked c.args.self.now.place t c.args.window.now c.siblings.new.window c.requires.stands c.requires.none c.in_ok-siblings.ensures.passes) c.in_ok-siblings.ensures.reads
