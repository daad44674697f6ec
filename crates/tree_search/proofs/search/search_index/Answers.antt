use Rattle.std.proofs.Common.{◌≡◌, ◌+◌, ◌-◌, ◌<◌, ◌≤◌, ◌++◌, map, sym, ap, subst, ◌∙◌, inl, inr, append_assoc, arith}
use Rattle.std.specs.List.{AllByRecursion, filter, flat_map}
use Rattle.std.proofs.lemmas.Bool.{cases_lt}
use Rattle.fgb_outside.specs.Asked.{Ascends}
use Rattle.fgb_outside.proofs.Asking.{reads_along, reads_reads, reads_then_front, front_along, front_longer}
use Rattle.fgb_outside.proofs.Shown.{keeps_trans}
use Rattle.section_window.specs.Window.{ahead}
use Rattle.level_bounds.specs.Levels.{width}
use Rattle.level_bounds.specs.Shapes.{shape_of}
use Rattle.level_bounds.proofs.Places.{level_follows}
use Rattle.level_bounds.proofs.Widths.{ceil_one}
use Rattle.node_items.specs.Faults.{group_faults}
use Rattle.node_items.specs.Nodes.{node_place, stored}
use Rattle.node_items.proofs.Runs.{BeginsWith}
use Rattle.read_stop.proofs.Stopping.{on_err, refusal_map, stop_exit}
use Rattle.index_reader.proofs.Stops.{refusal_told}
use Rattle.tree_search.specs.Wanted.{BreaksWanted, hits, meets_box, node_positions, passes}
use Rattle.tree_search.specs.Searches.{hit_of}
use Rattle.tree_search.specs.Descent.{AreFrom, all_children, children_of, level_positions, numbers}
use Rattle.tree_search.proofs.Descent.{hits_below}
use Rattle.tree_search.proofs.Faults.{level_breaks, root_breaks, wanted_clean}
use Rattle.tree_search.proofs.Whole.{all_below, hits_from, numbers_hits, positions_left, positions_more, wanted_all, wanted_from, wanted_top}
use Rattle.tree_search.proofs.search.search_index.Goals as goal

pub returns-in_err-found-clause-refused : goal.returns-in_err-found-clause-refused
returns-in_err-found-clause-refused g c = let t = shape_of c.args.levels.now in let at = c.args.place in let test = meets_box c.args.bounds in let s = g.S.RangeSource.seen c.args.source.now in let shape = c.args.levels.now.shaped.shaped in
    let stop = c.in_err-found.field-0.0 in
    stop_exit c.from_residual.result stop _ c.from_residual.ensures.1
    (refusal_told stop s (λ image e. BreaksWanted t (stored image at) test at e.place e.rule) (λ image told.
    refusal_map stop _ _ (root_breaks t (stored image at) test at shape) (c.in_err-found.ensures.judged image told)))

pub returns-in_err-found-clause-front : goal.returns-in_err-found-clause-front
returns-in_err-found-clause-front g c = let t = shape_of c.args.levels.now in let at = c.args.place in let test = meets_box c.args.bounds in let s = g.S.RangeSource.seen c.args.source.now in let shape = c.args.levels.now.shaped.shaped in
    on_err c.from_residual.result _ (λ image told.
    let nodes = stored image at in
    let left = positions_left t nodes test at t.top (omega arith) in
    front_along _ _ (ap (λ l. node_positions at l ++ left.0) (sym (wanted_top t nodes test shape)) ∙ left.1) (front_longer left.0 c.in_err-found.ensures.front))

pub loop-k-init : goal.loop-k-init
loop-k-init g c = let t = shape_of c.args.levels.now in let at = c.args.place in let test = meets_box c.args.bounds in let s = g.S.RangeSource.seen c.args.source.now in let shape = c.args.levels.now.shaped.shaped in
    let top : c.count-k.result - 1 ≡ c.args.levels.now.count - 1 = omega (arith, c.count-k.ensures.count) in
    let read = c.in_ok-found.ensures in
    rw top (record {
      under = omega arith;
      over = read.over;
      behind = read.behind;
      rise = read.rise;
      found = read.found;
      root = read.judged;
      groups = λ image told j from till. absurd (omega arith);
      keeps = read.reads.keeps;
      reads = λ image told. reads_along _ _ (ap (node_positions at) (sym (wanted_top t (stored image at) test shape))) read.reads;
    })

pub level-requires-clause-behind : goal.level-requires-clause-behind
level-requires-clause-behind g c = let t = shape_of c.args.levels.now in let at = c.args.place in let test = meets_box c.args.bounds in let s = g.S.RangeSource.seen c.args.source.now in let shape = c.args.levels.now.shaped.shaped in
    let inv = c.loop-k.invariant in
    subst (λ p. ahead c.loop-k.window ≤ node_place at p) (level_follows t c.loop-k.k (omega (arith, c.loop-k-test.true)) inv.under) inv.behind

pub returns-in_err-found-2-clause-refused : goal.returns-in_err-found-2-clause-refused
returns-in_err-found-2-clause-refused g c = let t = shape_of c.args.levels.now in let at = c.args.place in let test = meets_box c.args.bounds in let s = g.S.RangeSource.seen c.args.source.now in let shape = c.args.levels.now.shaped.shaped in let inv = c.loop-k.invariant in let k = c.loop-k.k - 1 in
    let below : k < t.top = omega (arith, inv.under, c.loop-k-test.true) in
    let up : c.loop-k.k ≡ k + 1 = omega (arith, c.loop-k-test.true) in
    let stop = c.in_err-found-2.field-0.0 in
    stop_exit c.from_residual-in_err-found-2.result stop _ c.from_residual-in_err-found-2.ensures.1
    (refusal_told stop s (λ image e. BreaksWanted t (stored image at) test at e.place e.rule) (λ image told.
    let nodes = stored image at in
    let are : c.deref.result.now ≡ map (hit_of t nodes (k + 1)) (hits t nodes test (k + 1)) = c.deref.ensures.value ∙ inv.found image told ∙ ap (λ m. map (hit_of t nodes m) (hits t nodes test m)) up in
    let nums : numbers c.deref.result.now ≡ hits t nodes test (k + 1) = ap numbers are ∙ numbers_hits t nodes (k + 1) (hits t nodes test (k + 1)) in
    refusal_map stop _ _ (λ e begins. level_breaks t nodes test at k e below (subst (λ l. BeginsWith (flat_map (group_faults t nodes at k) l) e) nums begins))
    (c.in_err-found-2.ensures.judged image (inv.keeps.image ∙ told) (subst (AreFrom t nodes (k + 1)) (sym are) (hits_from t nodes (k + 1) (hits t nodes test (k + 1)))))))

pub returns-in_err-found-2-clause-front : goal.returns-in_err-found-2-clause-front
returns-in_err-found-2-clause-front g c = let t = shape_of c.args.levels.now in let at = c.args.place in let test = meets_box c.args.bounds in let s = g.S.RangeSource.seen c.args.source.now in let shape = c.args.levels.now.shaped.shaped in let inv = c.loop-k.invariant in let k = c.loop-k.k - 1 in
    let below : k < t.top = omega (arith, inv.under, c.loop-k-test.true) in
    let up : c.loop-k.k ≡ k + 1 = omega (arith, c.loop-k-test.true) in
    on_err c.from_residual-in_err-found-2.result _ (λ image told.
    let nodes = stored image at in
    let are : c.deref.result.now ≡ map (hit_of t nodes (k + 1)) (hits t nodes test (k + 1)) = c.deref.ensures.value ∙ inv.found image told ∙ ap (λ m. map (hit_of t nodes m) (hits t nodes test m)) up in
    let nums : numbers c.deref.result.now ≡ hits t nodes test (k + 1) = ap numbers are ∙ numbers_hits t nodes (k + 1) (hits t nodes test (k + 1)) in
    let left = positions_left t nodes test at k (omega arith) in
    let here = level_positions at t k (all_children t k (numbers c.deref.result.now)) in
    front_along _ _ (ap (λ m. node_positions at (wanted_from t nodes test m) ++ (here ++ left.0)) up ∙ sym (append_assoc (node_positions at (wanted_from t nodes test (k + 1))) here left.0)
    ∙ ap (λ l. l ++ left.0) (positions_more t nodes test shape at k c.deref.result.now below nums) ∙ left.1)
    (reads_then_front (inv.reads image told) (front_longer left.0 c.in_err-found-2.ensures.front)))

pub loop-k-preserved : goal.loop-k-preserved
loop-k-preserved g c = let t = shape_of c.args.levels.now in let at = c.args.place in let test = meets_box c.args.bounds in let s = g.S.RangeSource.seen c.args.source.now in let shape = c.args.levels.now.shaped.shaped in let inv = c.loop-k.invariant in let k = c.loop-k.k - 1 in
    let below : k < t.top = omega (arith, inv.under, c.loop-k-test.true) in
    let up : c.loop-k.k ≡ k + 1 = omega (arith, c.loop-k-test.true) in
    let read = c.in_ok-found-2.ensures in
    record {
      under = omega (arith, inv.under);
      over = read.over;
      behind = read.behind;
      rise = read.rise;
      found = λ image told.
          let nodes = stored image at in
          let are : c.deref.result.now ≡ map (hit_of t nodes (k + 1)) (hits t nodes test (k + 1)) = c.deref.ensures.value ∙ inv.found image told ∙ ap (λ m. map (hit_of t nodes m) (hits t nodes test m)) up in
          let nums : numbers c.deref.result.now ≡ hits t nodes test (k + 1) = ap numbers are ∙ numbers_hits t nodes (k + 1) (hits t nodes test (k + 1)) in
          read.found image (inv.keeps.image ∙ told)
          ∙ ap (λ l. map (hit_of t nodes k) (flat_map (λ j. filter (passes t nodes test k) (children_of t k j)) l)) nums
          ∙ ap (map (hit_of t nodes k)) (sym (hits_below t nodes test shape k below));
      root = inv.root;
      groups = λ image told j from till. elim (cases_lt k j) [
        | inl above ↦ inv.groups image told j (omega arith) till
        | inr here ↦
            let nodes = stored image at in
            let are : c.deref.result.now ≡ map (hit_of t nodes (k + 1)) (hits t nodes test (k + 1)) = c.deref.ensures.value ∙ inv.found image told ∙ ap (λ m. map (hit_of t nodes m) (hits t nodes test m)) up in
            let nums : numbers c.deref.result.now ≡ hits t nodes test (k + 1) = ap numbers are ∙ numbers_hits t nodes (k + 1) (hits t nodes test (k + 1)) in
            let same : j ≡ k = omega arith in
            rw same (ap (flat_map (group_faults t nodes at k)) (sym nums) ∙ read.judged image (inv.keeps.image ∙ told) (subst (AreFrom t nodes (k + 1)) (sym are) (hits_from t nodes (k + 1) (hits t nodes test (k + 1)))))
      ];
      keeps = keeps_trans inv.keeps read.reads.keeps;
      reads = λ image told.
          let nodes = stored image at in
          let are : c.deref.result.now ≡ map (hit_of t nodes (k + 1)) (hits t nodes test (k + 1)) = c.deref.ensures.value ∙ inv.found image told ∙ ap (λ m. map (hit_of t nodes m) (hits t nodes test m)) up in
          let nums : numbers c.deref.result.now ≡ hits t nodes test (k + 1) = ap numbers are ∙ numbers_hits t nodes (k + 1) (hits t nodes test (k + 1)) in
          reads_along _ _ (ap (λ m. node_positions at (wanted_from t nodes test m) ++ level_positions at t k (all_children t k (numbers c.deref.result.now))) up ∙ positions_more t nodes test shape at k c.deref.result.now below nums)
          (reads_reads (inv.reads image told) read.reads);
    }

pub returns-clause-within : goal.returns-clause-within
returns-clause-within g c = let t = shape_of c.args.levels.now in let at = c.args.place in let test = meets_box c.args.bounds in let s = g.S.RangeSource.seen c.args.source.now in let shape = c.args.levels.now.shaped.shaped in
    let inv = c.loop-k.invariant in
    let ends : c.loop-k.k ≡ 0 = omega (arith, c.loop-k-test.false) in
    subst (λ w. AllByRecursion (λ h. h.number < w) c.loop-k.found.items) (ceil_one t.leaves t.node_size)
    (all_below 0 (width t 0) c.loop-k.found.items (subst (λ m. Ascends 0 (width t m) (numbers c.loop-k.found.items)) ends inv.rise))

pub returns-clause-clean : goal.returns-clause-clean
returns-clause-clean g c = let t = shape_of c.args.levels.now in let at = c.args.place in let test = meets_box c.args.bounds in let s = g.S.RangeSource.seen c.args.source.now in let shape = c.args.levels.now.shaped.shaped in
    let inv = c.loop-k.invariant in
    let ends : c.loop-k.k ≡ 0 = omega (arith, c.loop-k-test.false) in
    λ image told. wanted_clean t (stored image at) test at shape (inv.root image told) (λ k below. inv.groups image told k (omega arith) below)

pub returns-clause-reads : goal.returns-clause-reads
returns-clause-reads g c = let t = shape_of c.args.levels.now in let at = c.args.place in let test = meets_box c.args.bounds in let s = g.S.RangeSource.seen c.args.source.now in let shape = c.args.levels.now.shaped.shaped in
    let inv = c.loop-k.invariant in
    let ends : c.loop-k.k ≡ 0 = omega (arith, c.loop-k-test.false) in
    λ image told. let nodes = stored image at in
    reads_along _ _ (ap (λ m. node_positions at (wanted_from t nodes test m)) ends ∙ ap (node_positions at) (wanted_all t nodes test)) (inv.reads image told)
