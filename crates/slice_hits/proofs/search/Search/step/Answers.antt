use Rattle.std.proofs.Common.{◌≡◌, ◌<◌, ◌≤◌, ◌∙◌, ◌+◌, ◌-◌, Some, ap, subst, sym}
use Rattle.level_bounds.specs.Levels.{place}
use Rattle.found_features.specs.Lent.{entry_of}
use Rattle.slice_hits.specs.Preorder.{leaf_at}
use Rattle.slice_hits.specs.Searching.{Stands, nodes_of, tree_of}
use Rattle.slice_hits.proofs.AtLeaves.{ends_is}
use Rattle.slice_hits.proofs.Exits.{passes_exit}
use Rattle.slice_hits.proofs.Numbers.{node_there}
use Rattle.slice_hits.proofs.Stepping.{behind_here, leaf_here, none_of, step_found, step_leaf_refused, step_on, step_refused, visit_fewer, visit_nearer, visit_no_farther, way}
use Rattle.slice_hits.proofs.Visiting.{root_number}
use Rattle.slice_hits.proofs.search.Search.step.Goals as goal

pub returns-in_err-visit-clause-passes : goal.returns-in_err-visit-clause-passes
returns-in_err-visit-clause-passes c = λ image boxes entries stands.
    let s = c.args.self.now in
    let at = node_there (tree_of s) s.levels.shaped.shaped c.args.node (s.there c.args.node c.requires) in
    let here : s.node ≡ Some (place (tree_of s) at.level at.index) = c.requires ∙ ap Some at.stands in
    passes_exit image boxes entries (λ es. Stands image boxes es s) c.from_residual.result c.in_err-visit.field-0.0 c.from_residual.ensures.1
    (step_refused image boxes entries s stands at.level at.index at.is here c.in_err-visit.field-0.0 (c.in_err-visit.ensures.refused at.level at.index at.is at.stands))

pub returns-in_default-clause-passes : goal.returns-in_default-clause-passes
returns-in_default-clause-passes c = λ image boxes entries stands.
    let s = c.args.self.now in
    let shape = s.levels.shaped.shaped in
    let at = node_there (tree_of s) shape c.args.node (s.there c.args.node c.requires) in
    let here : s.node ≡ Some (place (tree_of s) at.level at.index) = c.requires ∙ ap Some at.stands in
    record {
      over = record { over = stands.over.over; begins = stands.over.begins; sought = stands.over.sought };
      come =
          step_on image boxes entries s stands at.level at.index at.is here (λ top. c.in_ok-visit.ensures.root (root_number (tree_of s) shape at.level at.index c.args.node at.is at.stands top)) c.in_ok-visit.visit
          (none_of c.in_ok-visit.visit.leaf c.in_default.not-Some) (c.in_ok-visit.ensures.goes at.level at.index at.is at.stands);
    }

pub returns-in_default-clause-nearer : goal.returns-in_default-clause-nearer
returns-in_default-clause-nearer c =
    let s = c.args.self.now in
    let t = tree_of s in
    let shape = s.levels.shaped.shaped in
    let at = node_there t shape c.args.node (s.there c.args.node c.requires) in
    let here : s.node ≡ Some (place t at.level at.index) = c.requires ∙ ap Some at.stands in
    subst (λ x. way t c.in_ok-visit.visit.next < way t x) (sym here)
    (visit_nearer t shape (nodes_of s) s.place s.boxes at.level at.index at.is c.in_ok-visit.visit (c.in_ok-visit.ensures.goes at.level at.index at.is at.stands))

pub returns-in_default-clause-no_farther : goal.returns-in_default-clause-no_farther
returns-in_default-clause-no_farther c =
    let s = c.args.self.now in
    let t = tree_of s in
    let shape = s.levels.shaped.shaped in
    let at = node_there t shape c.args.node (s.there c.args.node c.requires) in
    let here : s.node ≡ Some (place t at.level at.index) = c.requires ∙ ap Some at.stands in
    subst (λ x. t.leaves - leaf_at t c.in_ok-visit.visit.next + 1 ≤ t.leaves - leaf_at t x + 1) (sym here)
    (visit_no_farther t shape (nodes_of s) s.place s.boxes at.level at.index at.is c.in_ok-visit.visit (c.in_ok-visit.ensures.goes at.level at.index at.is at.stands))

pub returns-in_err-found-clause-passes : goal.returns-in_err-found-clause-passes
returns-in_err-found-clause-passes c = λ image boxes entries stands.
    let s = c.args.self.now in
    let shape = s.levels.shaped.shaped in
    let at = node_there (tree_of s) shape c.args.node (s.there c.args.node c.requires) in
    let here : s.node ≡ Some (place (tree_of s) at.level at.index) = c.requires ∙ ap Some at.stands in
    let root = λ (top : at.level ≡ (tree_of s).top). c.in_ok-visit.ensures.root (root_number (tree_of s) shape at.level at.index c.args.node at.is at.stands top) in
    let visits = c.in_ok-visit.ensures.goes at.level at.index at.is at.stands in
    let leaf_is = leaf_here image boxes entries s stands at.level at.index at.is here root c.in_ok-visit.visit c.in-Some.leaf c.in-Some.is visits in
    let behind = behind_here image boxes entries s stands at.level at.index at.is here root c.in_ok-visit.visit c.in-Some.leaf c.in-Some.is visits in
    passes_exit image boxes entries (λ es. Stands image boxes es s) c.from_residual-in_err-found.result c.in_err-found.field-0.0 c.from_residual-in_err-found.ensures.1
    (step_leaf_refused image boxes entries s stands at.level at.index at.is here root c.in_ok-visit.visit c.in-Some.leaf c.in-Some.is visits c.in_err-found.field-0.0
    (c.in_err-found.ensures.judged image boxes at.index stands.over leaf_is behind))

pub returns-clause-passes : goal.returns-clause-passes
returns-clause-passes c = λ image boxes entries stands.
    let s = c.args.self.now in
    let shape = s.levels.shaped.shaped in
    let at = node_there (tree_of s) shape c.args.node (s.there c.args.node c.requires) in
    let here : s.node ≡ Some (place (tree_of s) at.level at.index) = c.requires ∙ ap Some at.stands in
    let root = λ (top : at.level ≡ (tree_of s).top). c.in_ok-visit.ensures.root (root_number (tree_of s) shape at.level at.index c.args.node at.is at.stands top) in
    let visits = c.in_ok-visit.ensures.goes at.level at.index at.is at.stands in
    let leaf_is = leaf_here image boxes entries s stands at.level at.index at.is here root c.in_ok-visit.visit c.in-Some.leaf c.in-Some.is visits in
    let behind = behind_here image boxes entries s stands at.level at.index at.is here root c.in_ok-visit.visit c.in-Some.leaf c.in-Some.is visits in
    let read = c.in_ok-found.ensures.judged image boxes at.index stands.over leaf_is behind in
    record {
      over = record { over = stands.over.over; begins = stands.over.begins; sought = stands.over.sought };
      come =
          step_found image boxes entries s stands at.level at.index at.is here root c.in_ok-visit.visit c.in-Some.leaf c.in-Some.is visits (entry_of c.in_ok-found.found) read.1 read.0 _
          (ends_is image boxes s stands.over c.in-Some.leaf at.index leaf_is c.in_ok-found.found read.0 read.1);
    }

pub returns-clause-nearer : goal.returns-clause-nearer
returns-clause-nearer c =
    let s = c.args.self.now in
    let t = tree_of s in
    let shape = s.levels.shaped.shaped in
    let at = node_there t shape c.args.node (s.there c.args.node c.requires) in
    let here : s.node ≡ Some (place t at.level at.index) = c.requires ∙ ap Some at.stands in
    subst (λ x. way t c.in_ok-visit.visit.next < way t x) (sym here)
    (visit_nearer t shape (nodes_of s) s.place s.boxes at.level at.index at.is c.in_ok-visit.visit (c.in_ok-visit.ensures.goes at.level at.index at.is at.stands))

pub returns-clause-no_farther : goal.returns-clause-no_farther
returns-clause-no_farther c =
    let s = c.args.self.now in
    let t = tree_of s in
    let shape = s.levels.shaped.shaped in
    let at = node_there t shape c.args.node (s.there c.args.node c.requires) in
    let here : s.node ≡ Some (place t at.level at.index) = c.requires ∙ ap Some at.stands in
    subst (λ x. t.leaves - leaf_at t c.in_ok-visit.visit.next + 1 ≤ t.leaves - leaf_at t x + 1) (sym here)
    (visit_no_farther t shape (nodes_of s) s.place s.boxes at.level at.index at.is c.in_ok-visit.visit (c.in_ok-visit.ensures.goes at.level at.index at.is at.stands))

pub returns-clause-fewer : goal.returns-clause-fewer
returns-clause-fewer c =
    let s = c.args.self.now in
    let t = tree_of s in
    let shape = s.levels.shaped.shaped in
    let at = node_there t shape c.args.node (s.there c.args.node c.requires) in
    let here : s.node ≡ Some (place t at.level at.index) = c.requires ∙ ap Some at.stands in
    subst (λ x. t.leaves - leaf_at t c.in_ok-visit.visit.next + 1 < t.leaves - leaf_at t x + 1) (sym here)
    (visit_fewer t shape (nodes_of s) s.place s.boxes at.level at.index at.is c.in_ok-visit.visit c.in-Some.leaf c.in-Some.is (c.in_ok-visit.ensures.goes at.level at.index at.is at.stands))
