use Rattle.std.proofs.Common.{◌≡◌, ℕ, ◌+◌, ◌-◌, ◌≤◌, ◌++◌, length, map, refl, sym, ap, subst, ◌∙◌, append-nil, arith}
use Rattle.std.specs.List.{filter, flat_map, range_with_len}
use Rattle.fgb_outside.specs.Asked.{Ascends}
use Rattle.fgb_outside.proofs.Asking.{reads_nothing, reads_along, front_along}
use Rattle.section_window.specs.Window.{ahead}
use Rattle.section_window.proofs.Showing.{reads_on, front_on}
use Rattle.level_bounds.specs.Levels.{place, first_child, children_end}
use Rattle.level_bounds.specs.Shapes.{shape_of}
use Rattle.node_items.specs.Faults.{group_faults}
use Rattle.node_items.specs.Nodes.{node_place, stored}
use Rattle.node_items.proofs.Runs.{BeginsWith}
use Rattle.read_stop.specs.Stops.{AtRefusal}
use Rattle.read_stop.proofs.Stopping.{on_err}
use Rattle.tree_search.specs.Wanted.{meets_box, passes}
use Rattle.tree_search.specs.Searches.{hit_of}
use Rattle.tree_search.specs.Descent.{children_before, children_of, first_number, numbers}
use Rattle.tree_search.proofs.Judging.{each_of_all, clean_more, refused_later, first_stop, found_more}
use Rattle.tree_search.proofs.Neighbours.{blank, neighbour_is, run_node, before_first, before_order, place_order}
use Rattle.tree_search.proofs.Positions.{run_asked}
use Rattle.tree_search.proofs.Requests.{skip_at, skip_ahead, skip_over}
use Rattle.tree_search.proofs.level.Descent.run.Goals as goal

pub loop-parent-init : goal.loop-parent-init
loop-parent-init g c = let t = shape_of c.args.self.now.levels.now in let at = c.args.self.now.place in let k = c.args.k in let run = c.args.run.now in let j = first_number run in
    let from = c.span-from.result.0 in
    let n = from - c.at.result in
    let behind : ahead c.args.window.now ≤ from = rw c.span-from.ensures.from c.requires.behind in
    let far : n ≡ from - c.args.window.now.at = ap (λ m. from - m) c.at.ensures.value in
    let first : children_before t k (j + 0) ≡ first_child t j = (let none : j + 0 ≡ j = omega arith in ap (children_before t k) none) ∙ before_first t c.args.self.now.levels.now.shaped.shaped k j (omega (arith, c.requires.there)) in
    let ahead_is : ahead c.pass.new.self ≡ from = skip_ahead c.args.window.now c.pass.new.self from n behind far c.pass.ensures in
    record {
      over = skip_over c.args.window.now c.pass.new.self from n behind far c.pass.ensures t at (g.S.RangeSource.seen c.args.source.now) (omega (arith, c.span-from.ensures.order, c.span-from.ensures.within, c.requires.over.end)) c.requires.over;
      stands = skip_at c.args.window.now c.pass.new.self from n behind far c.pass.ensures ∙ c.span-from.ensures.from ∙ ap (λ m. node_place at (place t k m)) (sym first);
      on = omega (arith, ahead_is);
      before = omega (arith, ahead_is, c.span-from.ensures.order);
      rise = λ low rise. subst (λ m. Ascends low m (numbers c.args.found.now.items)) (sym first) rise;
      found = λ image told. sym (append-nil c.args.found.now.items);
      judged = λ image told are. refl;
      reads = let none : 0 ≡ ahead c.pass.new.self - from = omega (arith, ahead_is) in reads_along _ _ (ap (range_with_len from) none) (reads_nothing (g.S.RangeSource.seen c.args.source.now));
    }

pub group-requires-clause-node : goal.group-requires-clause-node
group-requires-clause-node g c = let t = shape_of c.args.self.now.levels.now in let at = c.args.self.now.place in let k = c.args.k in let run = c.args.run.now in let j = first_number run in
    run_node t c.args.self.now.levels.now.shaped.shaped c.args.k c.args.run.now c.requires.neighbours c.requires.level c.requires.there c.loop-parent.parent-index blank c.loop-parent-test.true

pub group-requires-clause-stands : goal.group-requires-clause-stands
group-requires-clause-stands g c = let t = shape_of c.args.self.now.levels.now in let at = c.args.self.now.place in let k = c.args.k in let run = c.args.run.now in let j = first_number run in
    let number = neighbour_is run c.loop-parent.parent-index blank c.requires.neighbours c.loop-parent-test.true in
    c.loop-parent.invariant.stands
    ∙ ap (λ m. node_place at (place t k m)) (before_first t c.args.self.now.levels.now.shaped.shaped k (j + c.loop-parent.parent-index) (omega (arith, c.requires.there, c.loop-parent-test.true)) ∙ ap (first_child t) (sym number))

pub group-requires-clause-until : goal.group-requires-clause-until
group-requires-clause-until g c = let t = shape_of c.args.self.now.levels.now in let at = c.args.self.now.place in let k = c.args.k in let run = c.args.run.now in let j = first_number run in
    let number = neighbour_is run c.loop-parent.parent-index blank c.requires.neighbours c.loop-parent-test.true in
    rw c.span-from.ensures.until (rw number (place_order t k (children_before t k (j + c.loop-parent.parent-index + 1)) (children_before t k (j + length run)) at (before_order t k (j + c.loop-parent.parent-index + 1) (j + length run) (omega (arith, c.loop-parent-test.true)))))

pub returns-in_err-group-clause-judged : goal.returns-in_err-group-clause-judged
returns-in_err-group-clause-judged g c = let t = shape_of c.args.self.now.levels.now in let at = c.args.self.now.place in let k = c.args.k in let run = c.args.run.now in let j = first_number run in
    λ image told are. let stop = c.in_err-group.field-0.0 in
    first_stop c.from_residual.result stop _ c.from_residual.ensures.1
    (rw c.requires.neighbours (refused_later (group_faults t (stored image at) at k) j (length run) c.loop-parent.parent-index stop c.loop-parent-test.true (c.loop-parent.invariant.judged image told are)
    (subst (λ i. AtRefusal stop (BeginsWith (group_faults t (stored image at) at k i))) (neighbour_is run c.loop-parent.parent-index blank c.requires.neighbours c.loop-parent-test.true)
    (c.in_err-group.ensures.judged image (c.loop-parent.invariant.reads.keeps.image ∙ told) (each_of_all _ run c.loop-parent.parent-index blank are c.loop-parent-test.true)))))

pub returns-in_err-group-clause-front : goal.returns-in_err-group-clause-front
returns-in_err-group-clause-front g c = let t = shape_of c.args.self.now.levels.now in let at = c.args.self.now.place in let k = c.args.k in let run = c.args.run.now in let j = first_number run in
    on_err c.from_residual.result _ (front_along _ _ (run_asked at t k run c.span-from.result.0 c.span-from.result.1 c.requires.neighbours c.span-from.ensures.from c.span-from.ensures.until)
    (front_on c.span-from.result.0 (ahead c.loop-parent.window) c.span-from.result.1 c.loop-parent.invariant.on c.loop-parent.invariant.before c.loop-parent.invariant.reads c.in_err-group.ensures.front))

pub loop-parent-preserved : goal.loop-parent-preserved
loop-parent-preserved g c = let t = shape_of c.args.self.now.levels.now in let at = c.args.self.now.place in let k = c.args.k in let run = c.args.run.now in let j = first_number run in
    let i = c.loop-parent.parent-index in let inv = c.loop-parent.invariant in let read = c.in_ok-group.ensures in let goes = read.passes in
    let number = neighbour_is run i blank c.requires.neighbours c.loop-parent-test.true in
    let next : j + i + 1 ≡ j + (i + 1) = omega arith in
    let end : children_end t k (j + i) ≡ children_before t k (j + (i + 1)) = ap (children_before t k) next in
    let first = before_first t c.args.self.now.levels.now.shaped.shaped k (j + i) (omega (arith, c.requires.there, c.loop-parent-test.true)) in
    record {
      over = read.over;
      stands = goes.stands ∙ ap (λ m. node_place at (place t k (children_end t k m))) number ∙ ap (λ m. node_place at (place t k m)) end;
      on = omega (arith, inv.on, goes.on);
      before = goes.before;
      rise = λ low rise.
          subst (λ m. Ascends low m (numbers c.group.new.found.items)) (ap (children_end t k) number ∙ end)
          (read.rise low (subst (λ m. Ascends low m (numbers c.loop-parent.found.items)) (first ∙ ap (first_child t) (sym number)) (inv.rise low rise)));
      found = λ image told.
          let nodes = stored image at in let part = λ (m : ℕ). filter (passes t nodes (meets_box c.args.self.now.bounds) k) (children_of t k m) in
          found_more (hit_of t nodes k) part c.args.found.now.items c.loop-parent.found.items c.group.new.found.items j i (inv.found image told)
          (read.found image (inv.reads.keeps.image ∙ told) ∙ ap (λ m. c.loop-parent.found.items ++ map (hit_of t nodes k) (part m)) number);
      judged = λ image told are.
          clean_more (group_faults t (stored image at) at k) j i (inv.judged image told are)
          (ap (group_faults t (stored image at) at k) (sym number) ∙ read.judged image (inv.reads.keeps.image ∙ told) (each_of_all _ run i blank are c.loop-parent-test.true));
      reads = reads_on c.span-from.result.0 (ahead c.loop-parent.window) (ahead c.group.new.window) inv.on goes.on inv.reads read.reads;
    }

pub returns-clause-found : goal.returns-clause-found
returns-clause-found g c = let t = shape_of c.args.self.now.levels.now in let at = c.args.self.now.place in let k = c.args.k in let run = c.args.run.now in let j = first_number run in
    let ends : c.loop-parent.parent-index ≡ length run = omega (arith, c.loop-parent-test.false, c.loop-parent.auto.parent-index-end) in
    let all : range_with_len j c.loop-parent.parent-index ≡ numbers run = ap (range_with_len j) ends ∙ sym c.requires.neighbours in
    λ image told.
    let nodes = stored image at in let part = λ (m : ℕ). filter (passes t nodes (meets_box c.args.self.now.bounds) k) (children_of t k m) in
    c.loop-parent.invariant.found image told ∙ ap (λ l. c.args.found.now.items ++ map (hit_of t nodes k) (flat_map part l)) all

pub returns-clause-judged : goal.returns-clause-judged
returns-clause-judged g c = let t = shape_of c.args.self.now.levels.now in let at = c.args.self.now.place in let k = c.args.k in let run = c.args.run.now in let j = first_number run in
    let ends : c.loop-parent.parent-index ≡ length run = omega (arith, c.loop-parent-test.false, c.loop-parent.auto.parent-index-end) in
    let all : range_with_len j c.loop-parent.parent-index ≡ numbers run = ap (range_with_len j) ends ∙ sym c.requires.neighbours in
    λ image told are.
    ap (flat_map (group_faults t (stored image at) at k)) (sym all) ∙ c.loop-parent.invariant.judged image told are

pub returns-clause-reads : goal.returns-clause-reads
returns-clause-reads g c = let t = shape_of c.args.self.now.levels.now in let at = c.args.self.now.place in let k = c.args.k in let run = c.args.run.now in let j = first_number run in
    let ends : c.loop-parent.parent-index ≡ length run = omega (arith, c.loop-parent-test.false, c.loop-parent.auto.parent-index-end) in
    let stands = c.loop-parent.invariant.stands ∙ ap (λ m. node_place at (place t k (children_before t k (j + m)))) ends ∙ sym c.span-from.ensures.until in
    let all : ahead c.loop-parent.window - c.span-from.result.0 ≡ c.span-from.result.1 - c.span-from.result.0 = omega (arith, stands, c.loop-parent.invariant.before) in
    reads_along _ _ (ap (range_with_len c.span-from.result.0) all ∙ run_asked at t k run c.span-from.result.0 c.span-from.result.1 c.requires.neighbours c.span-from.ensures.from c.span-from.ensures.until) c.loop-parent.invariant.reads
