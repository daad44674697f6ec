use Rattle.std.proofs.Common.{◌≡◌, [], ◌∷◌, None, ◌+◌, ◌-◌, ◌<◌, ◌≤◌, ◌++◌, map, sym, ap, subst, ◌∙◌, inl, inr, append_assoc, arith}
use Rattle.std.specs.List.{AllByRecursion, filter, flat_map}
use Rattle.std.proofs.lemmas.Bool.{cases_lt}
use Rattle.fgb_outside.specs.Asked.{Ascends}
use Rattle.fgb_outside.proofs.Asking.{reads_along, reads_reads, reads_then_front, front_along, front_longer}
use Rattle.fgb_outside.proofs.Shown.{keeps_trans}
use Rattle.section_window.specs.Window.{ahead}
use Rattle.level_bounds.specs.Levels.{place, width}
use Rattle.level_bounds.specs.Shapes.{shape_of}
use Rattle.level_bounds.proofs.Places.{level_follows}
use Rattle.level_bounds.proofs.Widths.{ceil_one}
use Rattle.node_items.specs.Faults.{group_faults}
use Rattle.node_items.specs.Nodes.{node_place, stored}
use Rattle.node_items.proofs.Runs.{BeginsWith}
use Rattle.read_stop.proofs.Stopping.{on_err, refusal_map, stop_exit}
use Rattle.index_reader.proofs.Stops.{refusal_told}
use Rattle.box_list.specs.Lists.{meets_any}
use Rattle.gap_window.specs.Gaps.{behind, bridged, bridged_behind}
use Rattle.gap_window.specs.Bridging.{last_asked}
use Rattle.gap_window.proofs.Bridges.{behind_append, behind_behind, bridged_append}
use Rattle.tree_search.specs.Wanted.{BreaksWanted, hits, node_positions, passes, wanted_nodes}
use Rattle.tree_search.specs.Searches.{hit_of}
use Rattle.tree_search.specs.Descent.{AreFrom, all_children, children_of, level_positions, numbers}
use Rattle.tree_search.proofs.Descent.{hits_below}
use Rattle.tree_search.proofs.Faults.{level_breaks, root_breaks, wanted_clean}
use Rattle.tree_search.proofs.Whole.{all_below, hits_from, numbers_hits, positions_left, positions_more, wanted_all, wanted_from, wanted_top}
use Rattle.box_search.specs.Following.{HaveNext, Tells, next_of, next_under}
use Rattle.box_search.specs.Hits.{plains}
use Rattle.box_search.proofs.Following.{have_same, hits_tell, is_hit, next_told, within}
use Rattle.box_search.proofs.search.search_boxes.Goals as goal

pub returns-in_err-found-clause-refused : goal.returns-in_err-found-clause-refused
returns-in_err-found-clause-refused g c = let t = shape_of c.args.levels.now in let at = c.args.place in let test = meets_any c.args.boxes.now in let s = g.S.RangeSource.seen c.args.source.now in let shape = c.args.levels.now.shaped.shaped in
    let stop = c.in_err-found.field-0.0 in
    stop_exit c.from_residual.result stop _ c.from_residual.ensures.1
    (refusal_told stop s (λ image e. BreaksWanted t (stored image at) test at e.place e.rule) (λ image told.
    refusal_map stop _ _ (root_breaks t (stored image at) test at shape) (c.in_err-found.ensures.judged image told)))

pub returns-in_err-found-clause-front : goal.returns-in_err-found-clause-front
returns-in_err-found-clause-front g c = let t = shape_of c.args.levels.now in let at = c.args.place in let test = meets_any c.args.boxes.now in let s = g.S.RangeSource.seen c.args.source.now in let shape = c.args.levels.now.shaped.shaped in
    on_err c.from_residual.result _ (λ image told.
    let nodes = stored image at in
    let left = positions_left t nodes test at t.top (omega arith) in
    let here = node_positions at (map (place t t.top) (0 ∷ [])) in
    front_along _ _ (sym (bridged_append c.args.gap here left.0) ∙ ap (bridged c.args.gap) (ap (λ l. node_positions at l ++ left.0) (sym (wanted_top t nodes test shape)) ∙ left.1))
    (front_longer (bridged_behind c.args.gap (behind None here) left.0) c.in_err-found.ensures.front))

pub loop-k-init : goal.loop-k-init
loop-k-init g c = let t = shape_of c.args.levels.now in let at = c.args.place in let test = meets_any c.args.boxes.now in let s = g.S.RangeSource.seen c.args.source.now in let shape = c.args.levels.now.shaped.shaped in
    let top : c.count-k.result - 1 ≡ c.args.levels.now.count - 1 = omega (arith, c.count-k.ensures.count) in
    let read = c.in_ok-found.ensures in
    rw top (record {
      under = omega arith;
      over = read.over;
      past = read.behind;
      rise = read.rise;
      found = read.found;
      next = read.next;
      root = read.judged;
      groups = λ image told j from till. absurd (omega arith);
      keeps = read.reads.keeps;
      last = λ image told. read.last ∙ ap (λ l. behind None (node_positions at l)) (sym (wanted_top t (stored image at) test shape));
      reads = λ image told. reads_along _ _ (ap (λ l. bridged c.args.gap (node_positions at l)) (sym (wanted_top t (stored image at) test shape))) read.reads;
    })

pub level-requires-clause-behind : goal.level-requires-clause-behind
level-requires-clause-behind g c = let t = shape_of c.args.levels.now in let at = c.args.place in let test = meets_any c.args.boxes.now in let s = g.S.RangeSource.seen c.args.source.now in let shape = c.args.levels.now.shaped.shaped in
    let inv = c.loop-k.invariant in
    subst (λ p. ahead c.loop-k.window.held ≤ node_place at p) (level_follows t c.loop-k.k (omega (arith, c.loop-k-test.true)) inv.under) inv.past

pub returns-in_err-found-2-clause-refused : goal.returns-in_err-found-2-clause-refused
returns-in_err-found-2-clause-refused g c = let t = shape_of c.args.levels.now in let at = c.args.place in let test = meets_any c.args.boxes.now in let s = g.S.RangeSource.seen c.args.source.now in let shape = c.args.levels.now.shaped.shaped in let inv = c.loop-k.invariant in let k = c.loop-k.k - 1 in
    let below : k < t.top = omega (arith, inv.under, c.loop-k-test.true) in
    let up : c.loop-k.k ≡ k + 1 = omega (arith, c.loop-k-test.true) in
    let stop = c.in_err-found-2.field-0.0 in
    stop_exit c.from_residual-in_err-found-2.result stop _ c.from_residual-in_err-found-2.ensures.1
    (refusal_told stop s (λ image e. BreaksWanted t (stored image at) test at e.place e.rule) (λ image told.
    let nodes = stored image at in
    let are : plains c.deref.result.now ≡ map (hit_of t nodes (k + 1)) (hits t nodes test (k + 1)) = ap plains c.deref.ensures.value ∙ inv.found image told ∙ ap (λ m. map (hit_of t nodes m) (hits t nodes test m)) up in
    let nums : numbers (plains c.deref.result.now) ≡ hits t nodes test (k + 1) = ap numbers are ∙ numbers_hits t nodes (k + 1) (hits t nodes test (k + 1)) in
    refusal_map stop _ _ (λ e begins. level_breaks t nodes test at k e below (subst (λ l. BeginsWith (flat_map (group_faults t nodes at k) l) e) nums begins))
    (c.in_err-found-2.ensures.judged image (inv.keeps.image ∙ told) (subst (AreFrom t nodes (k + 1)) (sym are) (hits_from t nodes (k + 1) (hits t nodes test (k + 1)))))))

pub returns-in_err-found-2-clause-front : goal.returns-in_err-found-2-clause-front
returns-in_err-found-2-clause-front g c = let t = shape_of c.args.levels.now in let at = c.args.place in let test = meets_any c.args.boxes.now in let s = g.S.RangeSource.seen c.args.source.now in let shape = c.args.levels.now.shaped.shaped in let inv = c.loop-k.invariant in let k = c.loop-k.k - 1 in
    let below : k < t.top = omega (arith, inv.under, c.loop-k-test.true) in
    let up : c.loop-k.k ≡ k + 1 = omega (arith, c.loop-k-test.true) in
    on_err c.from_residual-in_err-found-2.result _ (λ image told.
    let nodes = stored image at in
    let are : plains c.deref.result.now ≡ map (hit_of t nodes (k + 1)) (hits t nodes test (k + 1)) = ap plains c.deref.ensures.value ∙ inv.found image told ∙ ap (λ m. map (hit_of t nodes m) (hits t nodes test m)) up in
    let nums : numbers (plains c.deref.result.now) ≡ hits t nodes test (k + 1) = ap numbers are ∙ numbers_hits t nodes (k + 1) (hits t nodes test (k + 1)) in
    let left = positions_left t nodes test at k (omega arith) in
    let here = level_positions at t k (all_children t k (numbers (plains c.deref.result.now))) in
    let before = node_positions at (wanted_from t nodes test (k + 1)) in
    let last : last_asked c.loop-k.window ≡ behind None before = inv.last image told ∙ ap (λ m. behind None (node_positions at (wanted_from t nodes test m))) up in
    let all : before ++ (here ++ left.0) ≡ node_positions at (wanted_nodes t nodes test) =
    sym (append_assoc before here left.0) ∙ ap (λ l. l ++ left.0) (positions_more t nodes test shape at k (plains c.deref.result.now) below nums) ∙ left.1 in
    front_along _ _
    (ap (λ m. bridged c.args.gap (node_positions at (wanted_from t nodes test m)) ++ (bridged_behind c.args.gap (last_asked c.loop-k.window) here ++ bridged_behind c.args.gap (behind (last_asked c.loop-k.window) here) left.0)) up
    ∙ ap (λ l. bridged c.args.gap before ++ l) (sym (behind_append c.args.gap (last_asked c.loop-k.window) here left.0) ∙ ap (λ o. bridged_behind c.args.gap o (here ++ left.0)) last)
    ∙ sym (bridged_append c.args.gap before (here ++ left.0)) ∙ ap (bridged c.args.gap) all)
    (reads_then_front (inv.reads image told) (front_longer (bridged_behind c.args.gap (behind (last_asked c.loop-k.window) here) left.0) c.in_err-found-2.ensures.front)))

pub loop-k-preserved : goal.loop-k-preserved
loop-k-preserved g c = let t = shape_of c.args.levels.now in let at = c.args.place in let test = meets_any c.args.boxes.now in let s = g.S.RangeSource.seen c.args.source.now in let shape = c.args.levels.now.shaped.shaped in let inv = c.loop-k.invariant in let k = c.loop-k.k - 1 in
    let below : k < t.top = omega (arith, inv.under, c.loop-k-test.true) in
    let up : c.loop-k.k ≡ k + 1 = omega (arith, c.loop-k-test.true) in
    let read = c.in_ok-found-2.ensures in
    record {
      under = omega (arith, inv.under);
      over = read.over;
      past = read.behind;
      rise = read.rise;
      found = λ image told.
          let nodes = stored image at in
          let are : plains c.deref.result.now ≡ map (hit_of t nodes (k + 1)) (hits t nodes test (k + 1)) = ap plains c.deref.ensures.value ∙ inv.found image told ∙ ap (λ m. map (hit_of t nodes m) (hits t nodes test m)) up in
          let nums : numbers (plains c.deref.result.now) ≡ hits t nodes test (k + 1) = ap numbers are ∙ numbers_hits t nodes (k + 1) (hits t nodes test (k + 1)) in
          read.found image (inv.keeps.image ∙ told)
          ∙ ap (λ l. map (hit_of t nodes k) (flat_map (λ j. filter (passes t nodes test k) (children_of t k j)) l)) nums
          ∙ ap (map (hit_of t nodes k)) (sym (hits_below t nodes test shape k below));
      next = λ image told.
          let nodes = stored image at in
          let are : plains c.deref.result.now ≡ map (hit_of t nodes (k + 1)) (hits t nodes test (k + 1)) = ap plains c.deref.ensures.value ∙ inv.found image told ∙ ap (λ m. map (hit_of t nodes m) (hits t nodes test m)) up in
          let nums : numbers (plains c.deref.result.now) ≡ hits t nodes test (k + 1) = ap numbers are ∙ numbers_hits t nodes (k + 1) (hits t nodes test (k + 1)) in
          let passing = within (is_hit t shape nodes test (k + 1)) (width t (k + 1)) in
          have_same (next_under t nodes k passing) (next_of t nodes test k) (next_told t shape nodes test k below) _
          (read.next image (inv.keeps.image ∙ told) passing (subst (Tells passing) (sym nums) (hits_tell t shape nodes test (k + 1))));
      root = inv.root;
      groups = λ image told j from till. elim (cases_lt k j) [
        | inl above ↦ inv.groups image told j (omega arith) till
        | inr here ↦
            let nodes = stored image at in
            let are : plains c.deref.result.now ≡ map (hit_of t nodes (k + 1)) (hits t nodes test (k + 1)) = ap plains c.deref.ensures.value ∙ inv.found image told ∙ ap (λ m. map (hit_of t nodes m) (hits t nodes test m)) up in
            let nums : numbers (plains c.deref.result.now) ≡ hits t nodes test (k + 1) = ap numbers are ∙ numbers_hits t nodes (k + 1) (hits t nodes test (k + 1)) in
            let same : j ≡ k = omega arith in
            rw same (ap (flat_map (group_faults t nodes at k)) (sym nums) ∙ read.judged image (inv.keeps.image ∙ told) (subst (AreFrom t nodes (k + 1)) (sym are) (hits_from t nodes (k + 1) (hits t nodes test (k + 1)))))
      ];
      keeps = keeps_trans inv.keeps read.reads.keeps;
      last = λ image told.
          let nodes = stored image at in
          let are : plains c.deref.result.now ≡ map (hit_of t nodes (k + 1)) (hits t nodes test (k + 1)) = ap plains c.deref.ensures.value ∙ inv.found image told ∙ ap (λ m. map (hit_of t nodes m) (hits t nodes test m)) up in
          let nums : numbers (plains c.deref.result.now) ≡ hits t nodes test (k + 1) = ap numbers are ∙ numbers_hits t nodes (k + 1) (hits t nodes test (k + 1)) in
          let here = level_positions at t k (all_children t k (numbers (plains c.deref.result.now))) in
          let before = node_positions at (wanted_from t nodes test (k + 1)) in
          let last : last_asked c.loop-k.window ≡ behind None before = inv.last image told ∙ ap (λ m. behind None (node_positions at (wanted_from t nodes test m))) up in
          read.last ∙ ap (λ o. behind o here) last ∙ sym (behind_behind None before here) ∙ ap (behind None) (positions_more t nodes test shape at k (plains c.deref.result.now) below nums);
      reads = λ image told.
          let nodes = stored image at in
          let are : plains c.deref.result.now ≡ map (hit_of t nodes (k + 1)) (hits t nodes test (k + 1)) = ap plains c.deref.ensures.value ∙ inv.found image told ∙ ap (λ m. map (hit_of t nodes m) (hits t nodes test m)) up in
          let nums : numbers (plains c.deref.result.now) ≡ hits t nodes test (k + 1) = ap numbers are ∙ numbers_hits t nodes (k + 1) (hits t nodes test (k + 1)) in
          let here = level_positions at t k (all_children t k (numbers (plains c.deref.result.now))) in
          let before = node_positions at (wanted_from t nodes test (k + 1)) in
          let last : last_asked c.loop-k.window ≡ behind None before = inv.last image told ∙ ap (λ m. behind None (node_positions at (wanted_from t nodes test m))) up in
          reads_along _ _
          (ap (λ m. bridged c.args.gap (node_positions at (wanted_from t nodes test m)) ++ bridged_behind c.args.gap (last_asked c.loop-k.window) here) up
          ∙ ap (λ o. bridged c.args.gap before ++ bridged_behind c.args.gap o here) last
          ∙ sym (bridged_append c.args.gap before here) ∙ ap (bridged c.args.gap) (positions_more t nodes test shape at k (plains c.deref.result.now) below nums))
          (reads_reads (inv.reads image told) read.reads);
    }

pub returns-clause-within : goal.returns-clause-within
returns-clause-within g c = let t = shape_of c.args.levels.now in let at = c.args.place in let test = meets_any c.args.boxes.now in let s = g.S.RangeSource.seen c.args.source.now in let shape = c.args.levels.now.shaped.shaped in
    let inv = c.loop-k.invariant in
    let ends : c.loop-k.k ≡ 0 = omega (arith, c.loop-k-test.false) in
    subst (λ w. AllByRecursion (λ h. h.number < w) (plains c.loop-k.found.items)) (ceil_one t.leaves t.node_size)
    (all_below 0 (width t 0) (plains c.loop-k.found.items) (subst (λ m. Ascends 0 (width t m) (numbers (plains c.loop-k.found.items))) ends inv.rise))

pub returns-clause-clean : goal.returns-clause-clean
returns-clause-clean g c = let t = shape_of c.args.levels.now in let at = c.args.place in let test = meets_any c.args.boxes.now in let s = g.S.RangeSource.seen c.args.source.now in let shape = c.args.levels.now.shaped.shaped in
    let inv = c.loop-k.invariant in
    let ends : c.loop-k.k ≡ 0 = omega (arith, c.loop-k-test.false) in
    λ image told. wanted_clean t (stored image at) test at shape (inv.root image told) (λ k below. inv.groups image told k (omega arith) below)

pub returns-clause-reads : goal.returns-clause-reads
returns-clause-reads g c = let t = shape_of c.args.levels.now in let at = c.args.place in let test = meets_any c.args.boxes.now in let s = g.S.RangeSource.seen c.args.source.now in let shape = c.args.levels.now.shaped.shaped in
    let inv = c.loop-k.invariant in
    let ends : c.loop-k.k ≡ 0 = omega (arith, c.loop-k-test.false) in
    λ image told. let nodes = stored image at in
    reads_along _ _ (ap (bridged c.args.gap) (ap (λ m. node_positions at (wanted_from t nodes test m)) ends ∙ ap (node_positions at) (wanted_all t nodes test))) (inv.reads image told)

pub returns-clause-next : goal.returns-clause-next
returns-clause-next g c = let t = shape_of c.args.levels.now in let at = c.args.place in let test = meets_any c.args.boxes.now in
    let ends : c.loop-k.k ≡ 0 = omega (arith, c.loop-k-test.false) in
    λ image told. subst (λ m. HaveNext (next_of t (stored image at) test m) c.loop-k.found.items) ends (c.loop-k.invariant.next image told)
