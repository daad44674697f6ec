use Rattle.std.proofs.Common.{◌≡◌, ℕ, ◌+◌, ◌-◌, ◌<◌, ◌≤◌, [], ◌++◌, length, map, get_or, refl, sym, ap, subst, ◌∙◌, append_assoc, append-nil, arith, rules}
use Rattle.std.specs.List.{filter, flat_map}
use Rattle.std.proofs.lemmas.List.{nil_from_length}
use Rattle.fgb_outside.specs.Asked.{Ascends}
use Rattle.fgb_outside.proofs.Asking.{ascends_wider, reads_nothing, reads_along, reads_reads, reads_then_front, front_along, front_longer}
use Rattle.section_window.specs.Window.{ahead}
use Rattle.gap_window.specs.Gaps.{behind, bridged_behind}
use Rattle.gap_window.specs.Bridging.{last_asked}
use Rattle.level_bounds.specs.Levels.{place, width, first_child}
use Rattle.level_bounds.specs.Shapes.{shape_of}
use Rattle.node_items.specs.Faults.{group_faults}
use Rattle.node_items.specs.Nodes.{node_place, stored}
use Rattle.node_items.proofs.Runs.{BeginsWith}
use Rattle.read_stop.specs.Stops.{AtRefusal}
use Rattle.read_stop.proofs.Stopping.{on_err}
use Rattle.box_list.specs.Lists.{meets_any}
use Rattle.tree_search.specs.Wanted.{passes}
use Rattle.tree_search.specs.Searches.{hit_of}
use Rattle.tree_search.specs.Descent.{AreFrom, all_children, children_before, children_of, first_number, level_positions, numbers}
use Rattle.tree_search.proofs.Judging.{first_stop}
use Rattle.tree_search.proofs.Neighbours.{before_none, before_under, before_within, place_order}
use Rattle.tree_search.proofs.Positions.{none_positions}
use Rattle.tree_search.proofs.Runs.{both_all}
use Rattle.box_search.specs.Following.{HaveNext, Tells, next_under}
use Rattle.box_search.specs.Hits.{plains}
use Rattle.box_search.specs.Runs.{AreNear, StaysBefore}
use Rattle.box_search.proofs.Lists.{first_at, length_nums, nums, nums_split, rise_at}
use Rattle.box_search.proofs.Behind.{far_apart}
use Rattle.box_search.proofs.Following.{tells_front, tells_later}
use Rattle.box_search.proofs.Levels.{behind_split, bridged_split, clean_left, found_left, parted, plains_split, refused_run, run_and_later, run_ends, run_rises}
use Rattle.box_search.proofs.level.Descent.level.Goals as goal

pub loop-rest-init : goal.loop-rest-init
loop-rest-init g c = let t = shape_of c.args.self.now.levels.now in let at = c.args.self.now.place in let k = c.args.k in let gap = c.args.self.now.gap in
    record {
      over = c.requires.over;
      low = (0, (c.requires.rise, subst (λ l. Ascends 0 (children_before t k 0) (numbers (plains l))) (sym c.new-found.ensures.items) (omega arith), rw (before_none t k) c.requires.behind));
      found = λ image told. ap (λ l. plains l ++ map (hit_of t (stored image at) k) (flat_map (λ j. filter (passes t (stored image at) (meets_any c.args.self.now.boxes.now) k) (children_of t k j)) (nums c.args.parents.now))) c.new-found.ensures.items;
      next = λ image told passing tells. (tells, subst (HaveNext (next_under t (stored image at) k passing)) (sym c.new-found.ensures.items) tt);
      judged = λ image told are. (are, refl);
      last = refl;
      reads = ([], (reads_nothing (g.S.RangeSource.seen c.args.source.now), refl));
    }

pub run_len-requires-clause-rise : goal.run_len-requires-clause-rise
run_len-requires-clause-rise g c = let t = shape_of c.args.self.now.levels.now in let at = c.args.self.now.place in let k = c.args.k in let gap = c.args.self.now.gap in
    (c.loop-rest.invariant.low.0, c.loop-rest.invariant.low.1.0)

pub run-requires-clause-near : goal.run-requires-clause-near
run-requires-clause-near g c = let t = shape_of c.args.self.now.levels.now in let at = c.args.self.now.place in let k = c.args.k in let gap = c.args.self.now.gap in let rest = c.loop-rest.rest.now in let run = c.split_at.result.0.now in let later = c.split_at.result.1.now in let inv = c.loop-rest.invariant in
    let split = parted rest run later c.run_len.result c.split_at.ensures.front c.split_at.ensures.back in
    let some : 0 < length run = omega (arith, c.split_at.ensures.front_len, c.run_len.ensures.some) in
    let next = run_and_later rest run later split inv.low.0 (width t (k + 1)) some inv.low.1.0 in
    subst (λ l. AreNear t k gap (nums l)) (sym c.split_at.ensures.front) c.run_len.ensures.near

pub run-requires-clause-behind : goal.run-requires-clause-behind
run-requires-clause-behind g c = let t = shape_of c.args.self.now.levels.now in let at = c.args.self.now.place in let k = c.args.k in let gap = c.args.self.now.gap in let rest = c.loop-rest.rest.now in let run = c.split_at.result.0.now in let later = c.split_at.result.1.now in let inv = c.loop-rest.invariant in
    let split = parted rest run later c.run_len.result c.split_at.ensures.front c.split_at.ensures.back in
    let some : 0 < length run = omega (arith, c.split_at.ensures.front_len, c.run_len.ensures.some) in
    let next = run_and_later rest run later split inv.low.0 (width t (k + 1)) some inv.low.1.0 in
    (inv.low.0, (run_rises rest run later split inv.low.0 (width t (k + 1)) inv.low.1.0, inv.low.1.2))

pub returns-in_err-run-clause-judged : goal.returns-in_err-run-clause-judged
returns-in_err-run-clause-judged g c = let t = shape_of c.args.self.now.levels.now in let at = c.args.self.now.place in let k = c.args.k in let gap = c.args.self.now.gap in let rest = c.loop-rest.rest.now in let run = c.split_at.result.0.now in let later = c.split_at.result.1.now in let inv = c.loop-rest.invariant in
    let split = parted rest run later c.run_len.result c.split_at.ensures.front c.split_at.ensures.back in
    let some : 0 < length run = omega (arith, c.split_at.ensures.front_len, c.run_len.ensures.some) in
    let next = run_and_later rest run later split inv.low.0 (width t (k + 1)) some inv.low.1.0 in
    λ image told from. let stop = c.in_err-run.field-0.0 in
    let judged = inv.judged image told from in
    let each = both_all _ (plains run) (plains later) (subst (λ l. AreFrom t (stored image at) (k + 1) l) (plains_split rest run later split) judged.0) in
    first_stop c.from_residual.result stop _ c.from_residual.ensures.1
    (subst (λ l. AtRefusal stop (BeginsWith l)) (sym judged.1) (refused_run rest run later split (group_faults t (stored image at) at k) stop
    (c.in_err-run.ensures.judged image (inv.reads.1.0.keeps.image ∙ told) each.0)))

pub returns-in_err-run-clause-front : goal.returns-in_err-run-clause-front
returns-in_err-run-clause-front g c = let t = shape_of c.args.self.now.levels.now in let at = c.args.self.now.place in let k = c.args.k in let gap = c.args.self.now.gap in let rest = c.loop-rest.rest.now in let run = c.split_at.result.0.now in let later = c.split_at.result.1.now in let inv = c.loop-rest.invariant in
    let split = parted rest run later c.run_len.result c.split_at.ensures.front c.split_at.ensures.back in
    let some : 0 < length run = omega (arith, c.split_at.ensures.front_len, c.run_len.ensures.some) in
    let next = run_and_later rest run later split inv.low.0 (width t (k + 1)) some inv.low.1.0 in
    on_err c.from_residual.result _
    (front_along _ _ (ap (λ l. inv.reads.0 ++ l) (sym (bridged_split rest run later split at t k gap (last_asked c.loop-rest.window))) ∙ inv.reads.1.1)
    (reads_then_front inv.reads.1.0 (front_longer (bridged_behind gap (behind (last_asked c.loop-rest.window) (level_positions at t k (all_children t k (nums run)))) (level_positions at t k (all_children t k (nums later)))) c.in_err-run.ensures.front)))

pub loop-rest-preserved : goal.loop-rest-preserved
loop-rest-preserved g c = let t = shape_of c.args.self.now.levels.now in let at = c.args.self.now.place in let k = c.args.k in let gap = c.args.self.now.gap in let rest = c.loop-rest.rest.now in let run = c.split_at.result.0.now in let later = c.split_at.result.1.now in let inv = c.loop-rest.invariant in
    let split = parted rest run later c.run_len.result c.split_at.ensures.front c.split_at.ensures.back in
    let some : 0 < length run = omega (arith, c.split_at.ensures.front_len, c.run_len.ensures.some) in
    let next = run_and_later rest run later split inv.low.0 (width t (k + 1)) some inv.low.1.0 in
    let read = c.in_ok-run.ensures in
    let ends = run_ends t k run some in
    let asked = bridged_behind gap (last_asked c.loop-rest.window) (level_positions at t k (all_children t k (nums run))) in
    let first : inv.low.0 ≤ first_number (plains run) = omega (arith, (rise_at inv.low.0 next.0 (nums run) 0 next.1.0 (omega (arith, length_nums run, some))).0, first_at run some) in
    record {
      over = read.over;
      low = (
        get_or (nums run) (length run - 1) 0 + 1,
        (
          next.1.2,
          rw (← ends) (read.rise 0 (ascends_wider 0 0 (children_before t k inv.low.0) (first_child t (first_number (plains run))) (numbers (plains c.loop-rest.found.items)) (omega arith) (before_under t k inv.low.0 (first_number (plains run)) first) inv.low.1.1)),
          rw (← ends) read.behind,
        ),
      );
      found = λ image told.
          found_left rest run later split (hit_of t (stored image at) k) (λ j. filter (passes t (stored image at) (meets_any c.args.self.now.boxes.now) k) (children_of t k j)) (plains c.loop-rest.found.items) (plains c.run.new.found.items) _
          (inv.found image told) (read.found image (inv.reads.1.0.keeps.image ∙ told));
      next = λ image told passing tells.
          let both = inv.next image told passing tells in
          let parts = nums_split rest run later split in
          let all : Tells passing (nums run ++ nums later) = subst (Tells passing) parts both.0 in
          let rise : Ascends inv.low.0 (width t (k + 1)) (nums run ++ nums later) = subst (Ascends inv.low.0 (width t (k + 1))) parts inv.low.1.0 in
          let stays : StaysBefore t k gap (nums run ++ nums later) c.run_len.result = subst (λ l. StaysBefore t k gap l c.run_len.result) parts c.run_len.ensures.all in
          let count : length (nums run) ≡ c.run_len.result = omega (arith, length_nums run, c.split_at.ensures.front_len) in
          let front = tells_front passing (nums run) (nums later) all (far_apart t c.args.self.now.levels.now.shaped.shaped k gap inv.low.0 (nums run ++ nums later) c.run_len.result (length (nums run)) rise count stays) in
          (tells_later passing (nums run) (nums later) all, read.next image (inv.reads.1.0.keeps.image ∙ told) passing front both.1);
      judged = λ image told from.
          let judged = inv.judged image told from in
          let each = both_all _ (plains run) (plains later) (subst (λ l. AreFrom t (stored image at) (k + 1) l) (plains_split rest run later split) judged.0) in
          (each.1, judged.1 ∙ clean_left rest run later split (group_faults t (stored image at) at k) (read.judged image (inv.reads.1.0.keeps.image ∙ told) each.0));
      last = ap (λ o. behind o (level_positions at t k (all_children t k (nums later)))) read.last ∙ sym (behind_split rest run later split at t k (last_asked c.loop-rest.window)) ∙ inv.last;
      reads = (
        inv.reads.0 ++ asked,
        (
          reads_reads inv.reads.1.0 read.reads,
          append_assoc inv.reads.0 asked (bridged_behind gap (last_asked c.run.new.window) (level_positions at t k (all_children t k (nums later))))
              ∙ ap (λ o. inv.reads.0 ++ (asked ++ bridged_behind gap o (level_positions at t k (all_children t k (nums later))))) read.last
              ∙ ap (λ l. inv.reads.0 ++ l) (sym (bridged_split rest run later split at t k gap (last_asked c.loop-rest.window))) ∙ inv.reads.1.1,
        ),
      );
    }

pub returns-clause-found : goal.returns-clause-found
returns-clause-found g c = let t = shape_of c.args.self.now.levels.now in let at = c.args.self.now.place in let k = c.args.k in let gap = c.args.self.now.gap in let inv = c.loop-rest.invariant in let rest = c.loop-rest.rest.now in let empty : rest ≡ [] = nil_from_length rest (search rules) in
    λ image told.
    let part = λ (j : ℕ). filter (passes t (stored image at) (meets_any c.args.self.now.boxes.now) k) (children_of t k j) in
    sym (append-nil (plains c.loop-rest.found.items)) ∙ ap (λ l. plains c.loop-rest.found.items ++ map (hit_of t (stored image at) k) (flat_map part (nums l))) (sym empty) ∙ inv.found image told

pub returns-clause-rise : goal.returns-clause-rise
returns-clause-rise g c = let t = shape_of c.args.self.now.levels.now in let at = c.args.self.now.place in let k = c.args.k in let gap = c.args.self.now.gap in let inv = c.loop-rest.invariant in let rest = c.loop-rest.rest.now in let empty : rest ≡ [] = nil_from_length rest (search rules) in
    ascends_wider 0 0 (children_before t k inv.low.0) (width t k) (numbers (plains c.loop-rest.found.items)) (omega arith) (before_within t k inv.low.0) inv.low.1.1

pub returns-clause-behind : goal.returns-clause-behind
returns-clause-behind g c = let t = shape_of c.args.self.now.levels.now in let at = c.args.self.now.place in let k = c.args.k in let gap = c.args.self.now.gap in let inv = c.loop-rest.invariant in let rest = c.loop-rest.rest.now in let empty : rest ≡ [] = nil_from_length rest (search rules) in
    omega (arith, inv.low.1.2, place_order t k (children_before t k inv.low.0) (width t k) at (before_within t k inv.low.0))

pub returns-clause-judged : goal.returns-clause-judged
returns-clause-judged g c = let t = shape_of c.args.self.now.levels.now in let at = c.args.self.now.place in let k = c.args.k in let gap = c.args.self.now.gap in let inv = c.loop-rest.invariant in let rest = c.loop-rest.rest.now in let empty : rest ≡ [] = nil_from_length rest (search rules) in
    λ image told from. let judged = inv.judged image told from in
    judged.1 ∙ ap (λ l. flat_map (group_faults t (stored image at) at k) (nums l)) empty

pub returns-clause-last : goal.returns-clause-last
returns-clause-last g c = let t = shape_of c.args.self.now.levels.now in let at = c.args.self.now.place in let k = c.args.k in let gap = c.args.self.now.gap in let inv = c.loop-rest.invariant in let rest = c.loop-rest.rest.now in let empty : rest ≡ [] = nil_from_length rest (search rules) in
    ap (behind (last_asked c.loop-rest.window)) (sym (none_positions at t k)) ∙ ap (λ l. behind (last_asked c.loop-rest.window) (level_positions at t k (all_children t k (nums l)))) (sym empty) ∙ inv.last

pub returns-clause-reads : goal.returns-clause-reads
returns-clause-reads g c = let t = shape_of c.args.self.now.levels.now in let at = c.args.self.now.place in let k = c.args.k in let gap = c.args.self.now.gap in let inv = c.loop-rest.invariant in let rest = c.loop-rest.rest.now in let empty : rest ≡ [] = nil_from_length rest (search rules) in
    reads_along _ _ (sym (append-nil inv.reads.0) ∙ ap (λ l. inv.reads.0 ++ bridged_behind gap (last_asked c.loop-rest.window) l) (sym (none_positions at t k)) ∙ ap (λ l. inv.reads.0 ++ bridged_behind gap (last_asked c.loop-rest.window) (level_positions at t k (all_children t k (nums l)))) (sym empty) ∙ inv.reads.1.1) inv.reads.1.0

pub returns-clause-next : goal.returns-clause-next
returns-clause-next g c = λ image told passing tells. (c.loop-rest.invariant.next image told passing tells).1
