use Rattle.std.proofs.Common.{◌≡◌, ℕ, ◌+◌, ◌<◌, [], ◌++◌, length, map, refl, sym, ap, subst, ◌∙◌, append_assoc, append-nil, arith, rules}
use Rattle.std.specs.List.{filter, flat_map}
use Rattle.std.proofs.lemmas.List.{nil_from_length}
use Rattle.fgb_outside.specs.Asked.{Ascends}
use Rattle.fgb_outside.proofs.Asking.{ascends_wider, reads_nothing, reads_along, reads_reads, reads_then_front, front_along, front_longer}
use Rattle.level_bounds.specs.Levels.{width, first_child}
use Rattle.level_bounds.specs.Shapes.{shape_of}
use Rattle.node_items.specs.Faults.{group_faults}
use Rattle.node_items.specs.Nodes.{stored}
use Rattle.node_items.proofs.Runs.{BeginsWith}
use Rattle.read_stop.specs.Stops.{AtRefusal}
use Rattle.read_stop.proofs.Stopping.{on_err}
use Rattle.tree_search.specs.Wanted.{meets_box, passes}
use Rattle.tree_search.specs.Searches.{hit_of}
use Rattle.tree_search.specs.Descent.{AreFrom, all_children, children_before, children_of, first_number, level_positions, numbers}
use Rattle.tree_search.proofs.Judging.{first_stop}
use Rattle.tree_search.proofs.Positions.{none_positions}
use Rattle.tree_search.proofs.Neighbours.{before_none, before_within, before_under}
use Rattle.tree_search.proofs.Runs.{both_all, clean_left, first_below, found_left, front_neighbours, parted, positions_split, refused_run, run_and_later, run_there, width_within}
use Rattle.tree_search.proofs.level.Descent.level.Goals as goal

pub loop-rest-init : goal.loop-rest-init
loop-rest-init g c = let t = shape_of c.args.self.now.levels.now in let at = c.args.self.now.place in let k = c.args.k in
    record {
      over = c.requires.over;
      low = (0, (c.requires.rise, subst (λ l. Ascends 0 (children_before t k 0) (numbers l)) (sym c.new-found.ensures.items) (omega arith), rw (before_none t k) c.requires.behind));
      found = λ image told. ap (λ l. l ++ map (hit_of t (stored image at) k) (flat_map (λ j. filter (passes t (stored image at) (meets_box c.args.self.now.bounds) k) (children_of t k j)) (numbers c.args.parents.now))) c.new-found.ensures.items;
      judged = λ image told are. (are, refl);
      reads = ([], (reads_nothing (g.S.RangeSource.seen c.args.source.now), refl));
    }

pub run_len-requires-clause-small : goal.run_len-requires-clause-small
run_len-requires-clause-small g c = let t = shape_of c.args.self.now.levels.now in let at = c.args.self.now.place in let k = c.args.k in
    let low = c.loop-rest.invariant.low in
    let some : 0 < length c.loop-rest.rest.now = search rules in
    omega (arith, first_below low.0 (width t (k + 1)) c.loop-rest.rest.now low.1.0 some, width_within t (k + 1) (omega arith))

pub run-requires-clause-there : goal.run-requires-clause-there
run-requires-clause-there g c = let t = shape_of c.args.self.now.levels.now in let at = c.args.self.now.place in let k = c.args.k in let rest = c.loop-rest.rest.now in let run = c.split_at.result.0.now in let later = c.split_at.result.1.now in
    let split = parted rest run later c.run_len.result c.split_at.ensures.front c.split_at.ensures.back in
    let are = front_neighbours rest run c.run_len.result c.split_at.ensures.front c.run_len.ensures.neighbours c.run_len.ensures.some c.run_len.ensures.within in
    let some : 0 < length run = omega (arith, c.split_at.ensures.front_len, c.run_len.ensures.some) in
    run_there rest run later split c.loop-rest.invariant.low.0 (width t (k + 1)) are some c.loop-rest.invariant.low.1.0

pub returns-in_err-run-clause-judged : goal.returns-in_err-run-clause-judged
returns-in_err-run-clause-judged g c = let t = shape_of c.args.self.now.levels.now in let at = c.args.self.now.place in let k = c.args.k in let rest = c.loop-rest.rest.now in let run = c.split_at.result.0.now in let later = c.split_at.result.1.now in
    let split = parted rest run later c.run_len.result c.split_at.ensures.front c.split_at.ensures.back in
    λ image told from. let stop = c.in_err-run.field-0.0 in let inv = c.loop-rest.invariant in
    let judged = inv.judged image told from in
    let each = both_all _ run later (subst (AreFrom t (stored image at) (k + 1)) split judged.0) in
    first_stop c.from_residual.result stop _ c.from_residual.ensures.1
    (subst (λ l. AtRefusal stop (BeginsWith l)) (sym judged.1) (refused_run rest run later split (group_faults t (stored image at) at k) stop
    (c.in_err-run.ensures.judged image (inv.reads.1.0.keeps.image ∙ told) each.0)))

pub returns-in_err-run-clause-front : goal.returns-in_err-run-clause-front
returns-in_err-run-clause-front g c = let t = shape_of c.args.self.now.levels.now in let at = c.args.self.now.place in let k = c.args.k in let rest = c.loop-rest.rest.now in let run = c.split_at.result.0.now in let later = c.split_at.result.1.now in
    let split = parted rest run later c.run_len.result c.split_at.ensures.front c.split_at.ensures.back in
    let inv = c.loop-rest.invariant in
    on_err c.from_residual.result _
    (front_along _ _ (ap (λ l. inv.reads.0 ++ l) (sym (positions_split rest run later split at t k)) ∙ inv.reads.1.1)
    (reads_then_front inv.reads.1.0 (front_longer (level_positions at t k (all_children t k (numbers later))) c.in_err-run.ensures.front)))

pub loop-rest-preserved : goal.loop-rest-preserved
loop-rest-preserved g c = let t = shape_of c.args.self.now.levels.now in let at = c.args.self.now.place in let k = c.args.k in let rest = c.loop-rest.rest.now in let run = c.split_at.result.0.now in let later = c.split_at.result.1.now in
    let split = parted rest run later c.run_len.result c.split_at.ensures.front c.split_at.ensures.back in
    let are = front_neighbours rest run c.run_len.result c.split_at.ensures.front c.run_len.ensures.neighbours c.run_len.ensures.some c.run_len.ensures.within in
    let some : 0 < length run = omega (arith, c.split_at.ensures.front_len, c.run_len.ensures.some) in
    let inv = c.loop-rest.invariant in let read = c.in_ok-run.ensures in let low = inv.low in
    let next = run_and_later rest run later split low.0 (width t (k + 1)) are some low.1.0 in
    record {
      over = read.over;
      low = (
        first_number run + length run,
        (
          next.1,
          read.rise 0 (ascends_wider 0 0 (children_before t k low.0) (first_child t (first_number run)) (numbers c.loop-rest.found.items) (omega arith) (before_under t k low.0 (first_number run) next.0) low.1.1),
          read.behind,
        ),
      );
      found = λ image told.
          found_left rest run later split (hit_of t (stored image at) k) (λ j. filter (passes t (stored image at) (meets_box c.args.self.now.bounds) k) (children_of t k j)) c.loop-rest.found.items c.run.new.found.items _
          (inv.found image told) (read.found image (inv.reads.1.0.keeps.image ∙ told));
      judged = λ image told from.
          let judged = inv.judged image told from in
          let each = both_all _ run later (subst (AreFrom t (stored image at) (k + 1)) split judged.0) in
          (each.1, judged.1 ∙ clean_left rest run later split (group_faults t (stored image at) at k) (read.judged image (inv.reads.1.0.keeps.image ∙ told) each.0));
      reads = (
        inv.reads.0 ++ level_positions at t k (all_children t k (numbers run)),
        (
          reads_reads inv.reads.1.0 read.reads,
          append_assoc inv.reads.0 (level_positions at t k (all_children t k (numbers run))) (level_positions at t k (all_children t k (numbers later)))
              ∙ ap (λ l. inv.reads.0 ++ l) (sym (positions_split rest run later split at t k)) ∙ inv.reads.1.1,
        ),
      );
    }

pub returns-clause-found : goal.returns-clause-found
returns-clause-found g c = let t = shape_of c.args.self.now.levels.now in let at = c.args.self.now.place in let k = c.args.k in
    let rest = c.loop-rest.rest.now in let empty : rest ≡ [] = nil_from_length rest (search rules) in
    λ image told.
    let part = λ (j : ℕ). filter (passes t (stored image at) (meets_box c.args.self.now.bounds) k) (children_of t k j) in
    sym (append-nil c.loop-rest.found.items) ∙ ap (λ l. c.loop-rest.found.items ++ map (hit_of t (stored image at) k) (flat_map part (numbers l))) (sym empty) ∙ c.loop-rest.invariant.found image told

pub returns-clause-rise : goal.returns-clause-rise
returns-clause-rise g c = let t = shape_of c.args.self.now.levels.now in let at = c.args.self.now.place in let k = c.args.k in
    let low = c.loop-rest.invariant.low in
    ascends_wider 0 0 (children_before t k low.0) (width t k) (numbers c.loop-rest.found.items) (omega arith) (before_within t k low.0) low.1.1

pub returns-clause-reads : goal.returns-clause-reads
returns-clause-reads g c = let t = shape_of c.args.self.now.levels.now in let at = c.args.self.now.place in let k = c.args.k in
    let rest = c.loop-rest.rest.now in let empty : rest ≡ [] = nil_from_length rest (search rules) in
    let inv = c.loop-rest.invariant in
    reads_along _ _ (sym (append-nil inv.reads.0) ∙ ap (λ l. inv.reads.0 ++ l) (sym (none_positions at t k)) ∙ ap (λ l. inv.reads.0 ++ level_positions at t k (all_children t k (numbers l))) (sym empty) ∙ inv.reads.1.1) inv.reads.1.0
