use Rattle.std.proofs.Common.{◌≡◌, ℕ, ◌+◌, ◌-◌, ◌*◌, ◌<◌, ◌≤◌, [], ◌++◌, true, length, take, get_or, map, refl, sym, ap, subst, ◌∙◌, append-nil, arith}
use Rattle.std.specs.List.{filter, flat_map, range_with_len}
use Rattle.std.proofs.lemmas.List.{take_all}
use Rattle.fgb_outside.specs.Asked.{Ascends}
use Rattle.fgb_outside.proofs.Asking.{ascends_wider, reads_nothing, reads_along, front_along}
use Rattle.section_window.specs.Window.{ahead}
use Rattle.gap_window.specs.Bridging.{asks_from}
use Rattle.level_bounds.specs.Levels.{place, first_child, children_end, width}
use Rattle.level_bounds.specs.Shapes.{shape_of}
use Rattle.node_items.specs.Faults.{group_faults}
use Rattle.node_items.specs.Nodes.{node_place, stored}
use Rattle.node_items.proofs.Runs.{BeginsWith}
use Rattle.read_stop.specs.Stops.{AtRefusal}
use Rattle.read_stop.proofs.Stopping.{on_err}
use Rattle.box_list.specs.Lists.{meets_any}
use Rattle.tree_search.specs.Wanted.{passes}
use Rattle.tree_search.specs.Searches.{hit_of}
use Rattle.tree_search.specs.declared.search.Hit.{Hit as Plain}
use Rattle.tree_search.specs.Descent.{children_of, numbers}
use Rattle.tree_search.proofs.Judging.{first_stop}
use Rattle.tree_search.proofs.Runs.{width_within}
use Rattle.box_search.specs.Hits.{plains, room_for}
use Rattle.box_search.specs.Runs.{ends_at, hole_between}
use Rattle.box_search.proofs.Lists.{blank, ends_is, first_at, item_is, length_nums, near_at, node_there, number_is, nums, rise_at}
use Rattle.box_search.proofs.Bridges.{begins_at, ends_last, ends_of, hole_is}
use Rattle.box_search.proofs.Following.{tells_here, tells_next}
use Rattle.box_search.proofs.Runs.{asked_run, asks_least, asks_within, behind_first, behind_run, clean_take, first_before_last, found_take, next_behind, next_child, reads_on_to, refused_at, room_within}
use Rattle.box_search.proofs.Windows.{front_going, last_begun, reads_going}
use Rattle.box_search.proofs.level.Descent.run.Goals as goal

pub children-end-requires : goal.children-end-requires
children-end-requires g c = let t = shape_of c.args.self.now.levels.now in let at = c.args.self.now.place in let k = c.args.k in let run = c.args.run.now in let ns = nums run in let shape = c.args.self.now.levels.now.shaped.shaped in let low = c.requires.behind.0 in let rise = c.requires.behind.1.0 in
    let len = length_nums run in
    node_there t k low run (length run - 1) blank c.requires.level rise (omega (arith, c.requires.some))

pub loop-i-init : goal.loop-i-init
loop-i-init g c = let t = shape_of c.args.self.now.levels.now in let at = c.args.self.now.place in let k = c.args.k in let run = c.args.run.now in let ns = nums run in let shape = c.args.self.now.levels.now.shaped.shaped in let low = c.requires.behind.0 in let rise = c.requires.behind.1.0 in
    let len = length_nums run in
    let until : at + 40 * c.children-end.result.1 ≡ ends_last t k at ns =
    ap (node_place at) (c.children-end.ensures.end ∙ ap (λ n. place t k (children_end t k n)) (number_is run (length run - 1) blank (omega (arith, c.requires.some))) ∙ ap (place t k) (sym (ends_is t k ns (length run - 1) (omega (arith, len, c.requires.some))))) in
    let some : 0 < length ns = omega (arith, len, c.requires.some) in
    let behind = behind_first t shape k at low ns rise (ahead c.args.window.now.held) some c.requires.behind.1.1 in
    let less = asks_least c.args.window.now (begins_at t k at (get_or ns 0 0)) in
    let none : 0 ≡ ahead c.args.window.now.held - (asks_from c.args.window.now (begins_at t k at (get_or ns 0 0))) = omega (arith, less) in
    record {
      over = c.requires.over;
      before = omega (arith, behind, until, first_before_last t shape k at low ns rise some);
      onward = λ _. omega (arith, behind);
      asks = λ _. omega (arith, less);
      stands = λ no. absurd (omega (arith, no));
      rise = λ from before. (λ _. before, λ no. absurd (omega (arith, no)));
      found = λ image told. sym (append-nil (plains c.args.found.now.items));
      next = λ image told passing tells all. all;
      judged = λ image told are. refl;
      reads = reads_along _ _ (ap (range_with_len (asks_from c.args.window.now (begins_at t k at (get_or ns 0 0)))) none) (reads_nothing (g.S.RangeSource.seen c.args.source.now));
    }

pub is_followed-goes_on-requires-clause-small : goal.is_followed-goes_on-requires-clause-small
is_followed-goes_on-requires-clause-small g c = let t = shape_of c.args.self.now.levels.now in let at = c.args.self.now.place in let k = c.args.k in let run = c.args.run.now in let ns = nums run in let shape = c.args.self.now.levels.now.shaped.shaped in let low = c.requires.behind.0 in let rise = c.requires.behind.1.0 in
    let len = length_nums run in
    let i = c.loop-i.i in let inv = c.loop-i.invariant in let under : i < length ns = omega (arith, len, c.loop-i-test.true) in let number = number_is run i blank c.loop-i-test.true in
    let there = rise_at low (width t (k + 1)) ns i rise under in let narrow = width_within t (k + 1) (omega (arith, c.requires.level)) in omega (arith, there.1, narrow, c.requires.small)

pub group-requires-clause-node : goal.group-requires-clause-node
group-requires-clause-node g c = let t = shape_of c.args.self.now.levels.now in let at = c.args.self.now.place in let k = c.args.k in let run = c.args.run.now in let ns = nums run in let shape = c.args.self.now.levels.now.shaped.shaped in let low = c.requires.behind.0 in let rise = c.requires.behind.1.0 in
    let len = length_nums run in
    let i = c.loop-i.i in let inv = c.loop-i.invariant in let under : i < length ns = omega (arith, len, c.loop-i-test.true) in let number = number_is run i blank c.loop-i-test.true in
    node_there t k low run i blank c.requires.level rise c.loop-i-test.true

pub group-requires-clause-follows : goal.group-requires-clause-follows
group-requires-clause-follows g c = let t = shape_of c.args.self.now.levels.now in let at = c.args.self.now.place in let k = c.args.k in let run = c.args.run.now in let ns = nums run in let shape = c.args.self.now.levels.now.shaped.shaped in let low = c.requires.behind.0 in let rise = c.requires.behind.1.0 in
    let len = length_nums run in
    let i = c.loop-i.i in let inv = c.loop-i.invariant in let under : i < length ns = omega (arith, len, c.loop-i-test.true) in let number = number_is run i blank c.loop-i-test.true in
    λ is. let follows = c.is_followed-goes_on.ensures.0 is in
    let there = rise_at low (width t (k + 1)) ns (i + 1) rise (omega (arith, len, follows.0)) in
    omega (arith, there.1, follows.1, number)

pub group-requires-clause-onward : goal.group-requires-clause-onward
group-requires-clause-onward g c = let t = shape_of c.args.self.now.levels.now in let at = c.args.self.now.place in let k = c.args.k in let run = c.args.run.now in let ns = nums run in let shape = c.args.self.now.levels.now.shaped.shaped in let low = c.requires.behind.0 in let rise = c.requires.behind.1.0 in
    let len = length_nums run in
    let i = c.loop-i.i in let inv = c.loop-i.invariant in let under : i < length ns = omega (arith, len, c.loop-i-test.true) in let number = number_is run i blank c.loop-i-test.true in
    rw number (inv.onward under)

pub group-requires-clause-until : goal.group-requires-clause-until
group-requires-clause-until g c = let t = shape_of c.args.self.now.levels.now in let at = c.args.self.now.place in let k = c.args.k in let run = c.args.run.now in let ns = nums run in let shape = c.args.self.now.levels.now.shaped.shaped in let low = c.requires.behind.0 in let rise = c.requires.behind.1.0 in
    let len = length_nums run in
    let i = c.loop-i.i in let inv = c.loop-i.invariant in let under : i < length ns = omega (arith, len, c.loop-i-test.true) in let number = number_is run i blank c.loop-i-test.true in
    let until : at + 40 * c.children-end.result.1 ≡ ends_last t k at ns =
    ap (node_place at) (c.children-end.ensures.end ∙ ap (λ n. place t k (children_end t k n)) (number_is run (length run - 1) blank (omega (arith, c.requires.some))) ∙ ap (place t k) (sym (ends_is t k ns (length run - 1) (omega (arith, len, c.requires.some))))) in
    rw (number, until) (room_within t shape k at low ns rise i c.is_followed-goes_on.result under (λ is. let follows = c.is_followed-goes_on.ensures.0 is in (omega (arith, len, follows.0), follows.1)))

pub group-requires-clause-inside : goal.group-requires-clause-inside
group-requires-clause-inside g c = let t = shape_of c.args.self.now.levels.now in let at = c.args.self.now.place in let k = c.args.k in let run = c.args.run.now in let ns = nums run in let shape = c.args.self.now.levels.now.shaped.shaped in let low = c.requires.behind.0 in let rise = c.requires.behind.1.0 in
    let len = length_nums run in
    let i = c.loop-i.i in let inv = c.loop-i.invariant in let under : i < length ns = omega (arith, len, c.loop-i-test.true) in let number = number_is run i blank c.loop-i-test.true in
    omega (arith, inv.over.end, c.children-end.ensures.within)

pub returns-in_err-group-clause-judged : goal.returns-in_err-group-clause-judged
returns-in_err-group-clause-judged g c = let t = shape_of c.args.self.now.levels.now in let at = c.args.self.now.place in let k = c.args.k in let run = c.args.run.now in let ns = nums run in let shape = c.args.self.now.levels.now.shaped.shaped in let low = c.requires.behind.0 in let rise = c.requires.behind.1.0 in
    let len = length_nums run in
    let i = c.loop-i.i in let inv = c.loop-i.invariant in let under : i < length ns = omega (arith, len, c.loop-i-test.true) in let number = number_is run i blank c.loop-i-test.true in
    λ image told are. let stop = c.in_err-group.field-0.0 in
    first_stop c.from_residual.result stop _ c.from_residual.ensures.1
    (refused_at (group_faults t (stored image at) at k) ns i stop under (inv.judged image told are)
    (subst (λ n. AtRefusal stop (BeginsWith (group_faults t (stored image at) at k n))) number
    (c.in_err-group.ensures.judged image (inv.reads.keeps.image ∙ told) (ap (λ (h : Plain). h.item) (item_is run i blank (λ h. h ≡ hit_of t (stored image at) (k + 1) h.number) are c.loop-i-test.true)))))

pub returns-in_err-group-clause-front : goal.returns-in_err-group-clause-front
returns-in_err-group-clause-front g c = let t = shape_of c.args.self.now.levels.now in let at = c.args.self.now.place in let k = c.args.k in let run = c.args.run.now in let ns = nums run in let shape = c.args.self.now.levels.now.shaped.shaped in let low = c.requires.behind.0 in let rise = c.requires.behind.1.0 in
    let len = length_nums run in
    let i = c.loop-i.i in let inv = c.loop-i.invariant in let under : i < length ns = omega (arith, len, c.loop-i-test.true) in let number = number_is run i blank c.loop-i-test.true in
    let here : begins_at t k at (get_or run i blank).number ≡ begins_at t k at (get_or ns i 0) = ap (begins_at t k at) number in
    let asks : asks_from c.loop-i.window (begins_at t k at (get_or run i blank).number) ≡ (asks_from c.args.window.now (begins_at t k at (get_or ns 0 0))) + (ahead c.loop-i.window.held - (asks_from c.args.window.now (begins_at t k at (get_or ns 0 0)))) = ap (asks_from c.loop-i.window) here ∙ inv.asks under in
    let until : at + 40 * c.children-end.result.1 ≡ ends_last t k at ns =
    ap (node_place at) (c.children-end.ensures.end ∙ ap (λ n. place t k (children_end t k n)) (number_is run (length run - 1) blank (omega (arith, c.requires.some))) ∙ ap (place t k) (sym (ends_is t k ns (length run - 1) (omega (arith, len, c.requires.some))))) in
    let some : 0 < length ns = omega (arith, len, c.requires.some) in
    let behind = behind_first t shape k at low ns rise (ahead c.args.window.now.held) some c.requires.behind.1.1 in
    let asked = asked_run t shape k at low ns rise c.args.self.now.gap c.args.window.now c.requires.near some c.requires.over.gap_is behind in
    let order : asks_from c.loop-i.window (begins_at t k at (get_or run i blank).number) ≤ at + 40 * c.children-end.result.1 =
    omega (arith, asks, inv.before, until, first_before_last t shape k at low ns rise some, asks_within c.args.window.now (begins_at t k at (get_or ns 0 0)) behind) in
    on_err c.from_residual.result _ (front_along _ _ (ap (λ u. range_with_len (asks_from c.args.window.now (begins_at t k at (get_or ns 0 0))) (u - (asks_from c.args.window.now (begins_at t k at (get_or ns 0 0))))) until ∙ asked)
    (front_going (asks_from c.args.window.now (begins_at t k at (get_or ns 0 0))) (ahead c.loop-i.window.held) _ (at + 40 * c.children-end.result.1) asks order inv.reads c.in_err-group.ensures.front))

pub loop-i-preserved : goal.loop-i-preserved
loop-i-preserved g c = let t = shape_of c.args.self.now.levels.now in let at = c.args.self.now.place in let k = c.args.k in let run = c.args.run.now in let ns = nums run in let shape = c.args.self.now.levels.now.shaped.shaped in let low = c.requires.behind.0 in let rise = c.requires.behind.1.0 in
    let len = length_nums run in
    let i = c.loop-i.i in let inv = c.loop-i.invariant in let under : i < length ns = omega (arith, len, c.loop-i-test.true) in let number = number_is run i blank c.loop-i-test.true in
    let here : begins_at t k at (get_or run i blank).number ≡ begins_at t k at (get_or ns i 0) = ap (begins_at t k at) number in
    let asks : asks_from c.loop-i.window (begins_at t k at (get_or run i blank).number) ≡ (asks_from c.args.window.now (begins_at t k at (get_or ns 0 0))) + (ahead c.loop-i.window.held - (asks_from c.args.window.now (begins_at t k at (get_or ns 0 0)))) = ap (asks_from c.loop-i.window) here ∙ inv.asks under in
    let read = c.in_ok-group.ensures in let goes = read.passes in
    let back : i + 1 - 1 ≡ i = omega arith in
    let stands : c.group.new.window.held.at ≡ ends_of t k at (get_or ns i 0) = goes.stands ∙ ap (ends_of t k at) number in
    let on : (asks_from c.args.window.now (begins_at t k at (get_or ns 0 0))) ≤ ahead c.group.new.window.held = omega (arith, asks, goes.on) in
    record {
      over = read.over;
      before = goes.before;
      onward = λ more. omega (arith, stands, next_behind t shape k at low ns rise i more);
      asks = λ more.
          reads_on_to c.group.new.window (begins_at t k at (get_or ns (i + 1) 0)) (ends_of t k at (get_or ns i 0)) (hole_between t k (get_or ns i 0) (get_or ns (i + 1) 0)) goes.begun stands
          (hole_is t shape k at (get_or ns i 0) (get_or ns (i + 1) 0)) (rw read.over.gap_is (near_at t k c.args.self.now.gap ns i c.requires.near more)) ∙ omega (arith, on);
      stands = λ _. rw back (stands, (on, goes.begun));
      rise = λ from before.
          let found = read.rise from (rw number ((inv.rise from before).0 under)) in
          let here : Ascends from (children_end t k (get_or ns i 0)) (numbers (plains c.group.new.found.items)) = subst (λ n. Ascends from (children_end t k n) (numbers (plains c.group.new.found.items))) number found in (
            λ more. ascends_wider from from (children_end t k (get_or ns i 0)) (first_child t (get_or ns (i + 1) 0)) _ (omega arith) (next_child t shape k at low ns rise i more) here,
            λ _. rw back here,
          );
      found = λ image told.
          let nodes = stored image at in let part = λ (m : ℕ). filter (passes t nodes (meets_any c.args.self.now.boxes.now) k) (children_of t k m) in
          found_take (hit_of t nodes k) part (plains c.args.found.now.items) (plains c.loop-i.found.items) (plains c.group.new.found.items) ns i under (inv.found image told)
          (read.found image (inv.reads.keeps.image ∙ told) ∙ ap (λ m. plains c.loop-i.found.items ++ map (hit_of t nodes k) (part m)) number);
      next = λ image told passing tells all.
          let goes_on = c.is_followed-goes_on.result in let follows = c.is_followed-goes_on.ensures in
          let mine : passing (get_or run i blank).number ≡ true = ap passing number ∙ tells_here passing ns i tells under in
          let later : passing ((get_or run i blank).number + 1) ≡ goes_on = ap (λ n. passing (n + 1)) number
          ∙ tells_next passing ns i goes_on tells under (λ yes. let f = follows.0 yes in (omega (arith, len, f.0), f.1), λ f. follows.1 (omega (arith, len, f.0), f.1)) in
          read.next image (inv.reads.keeps.image ∙ told) passing mine later (inv.next image told passing tells all);
      judged = λ image told are.
          clean_take (group_faults t (stored image at) at k) ns i under (inv.judged image told are)
          (ap (group_faults t (stored image at) at k) (sym number)
          ∙ read.judged image (inv.reads.keeps.image ∙ told) (ap (λ (h : Plain). h.item) (item_is run i blank (λ h. h ≡ hit_of t (stored image at) (k + 1) h.number) are c.loop-i-test.true)));
      reads = reads_going (asks_from c.args.window.now (begins_at t k at (get_or ns 0 0))) (ahead c.loop-i.window.held) _ (ahead c.group.new.window.held) asks goes.on inv.reads read.reads;
    }

pub returns-clause-found : goal.returns-clause-found
returns-clause-found g c = let t = shape_of c.args.self.now.levels.now in let at = c.args.self.now.place in let k = c.args.k in let run = c.args.run.now in let ns = nums run in let shape = c.args.self.now.levels.now.shaped.shaped in let low = c.requires.behind.0 in let rise = c.requires.behind.1.0 in
    let len = length_nums run in
    let i = c.loop-i.i in let inv = c.loop-i.invariant in let some : 0 < length ns = omega (arith, len, c.requires.some) in let ended : i ≡ length ns = omega (arith, len, c.loop-i-test.false, c.loop-i.auto.i-end) in let all : take i ns ≡ ns = take_all i ns (omega (arith, ended)) in
    let last : ends_at t k ns ≡ children_end t k (get_or ns (i - 1) 0) = ends_is t k ns (i - 1) (omega (arith, ended, some)) in let stands = inv.stands (omega (arith, ended, some)) in
    λ image told.
    let nodes = stored image at in let part = λ (m : ℕ). filter (passes t nodes (meets_any c.args.self.now.boxes.now) k) (children_of t k m) in
    inv.found image told ∙ ap (λ l. plains c.args.found.now.items ++ map (hit_of t nodes k) (flat_map part l)) all

pub returns-clause-rise : goal.returns-clause-rise
returns-clause-rise g c = let t = shape_of c.args.self.now.levels.now in let at = c.args.self.now.place in let k = c.args.k in let run = c.args.run.now in let ns = nums run in let shape = c.args.self.now.levels.now.shaped.shaped in let low = c.requires.behind.0 in let rise = c.requires.behind.1.0 in
    let len = length_nums run in
    let i = c.loop-i.i in let inv = c.loop-i.invariant in let some : 0 < length ns = omega (arith, len, c.requires.some) in let ended : i ≡ length ns = omega (arith, len, c.loop-i-test.false, c.loop-i.auto.i-end) in let all : take i ns ≡ ns = take_all i ns (omega (arith, ended)) in
    let last : ends_at t k ns ≡ children_end t k (get_or ns (i - 1) 0) = ends_is t k ns (i - 1) (omega (arith, ended, some)) in let stands = inv.stands (omega (arith, ended, some)) in
    λ from before.
    subst (λ n. Ascends from n (numbers (plains c.loop-i.found.items))) (sym last)
    ((inv.rise from (subst (λ n. Ascends from (first_child t n) (numbers (plains c.args.found.now.items))) (sym (first_at run c.requires.some)) before)).1 (omega (arith, ended, some)))

pub returns-clause-behind : goal.returns-clause-behind
returns-clause-behind g c = let t = shape_of c.args.self.now.levels.now in let at = c.args.self.now.place in let k = c.args.k in let run = c.args.run.now in let ns = nums run in let shape = c.args.self.now.levels.now.shaped.shaped in let low = c.requires.behind.0 in let rise = c.requires.behind.1.0 in
    let len = length_nums run in
    let i = c.loop-i.i in let inv = c.loop-i.invariant in let some : 0 < length ns = omega (arith, len, c.requires.some) in let ended : i ≡ length ns = omega (arith, len, c.loop-i-test.false, c.loop-i.auto.i-end) in let all : take i ns ≡ ns = take_all i ns (omega (arith, ended)) in
    let last : ends_at t k ns ≡ children_end t k (get_or ns (i - 1) 0) = ends_is t k ns (i - 1) (omega (arith, ended, some)) in let stands = inv.stands (omega (arith, ended, some)) in
    let until : at + 40 * c.children-end.result.1 ≡ ends_last t k at ns =
    ap (node_place at) (c.children-end.ensures.end ∙ ap (λ n. place t k (children_end t k n)) (number_is run (length run - 1) blank (omega (arith, c.requires.some))) ∙ ap (place t k) (sym (ends_is t k ns (length run - 1) (omega (arith, len, c.requires.some))))) in
    let end : ends_last t k at ns ≡ ends_of t k at (get_or ns (i - 1) 0) = ap (λ n. node_place at (place t k n)) last in
    let reached : ahead c.loop-i.window.held ≡ ends_last t k at ns = omega (arith, stands.0, inv.before, until, end) in
    omega (arith, reached)

pub returns-clause-judged : goal.returns-clause-judged
returns-clause-judged g c = let t = shape_of c.args.self.now.levels.now in let at = c.args.self.now.place in let k = c.args.k in let run = c.args.run.now in let ns = nums run in let shape = c.args.self.now.levels.now.shaped.shaped in let low = c.requires.behind.0 in let rise = c.requires.behind.1.0 in
    let len = length_nums run in
    let i = c.loop-i.i in let inv = c.loop-i.invariant in let some : 0 < length ns = omega (arith, len, c.requires.some) in let ended : i ≡ length ns = omega (arith, len, c.loop-i-test.false, c.loop-i.auto.i-end) in let all : take i ns ≡ ns = take_all i ns (omega (arith, ended)) in
    let last : ends_at t k ns ≡ children_end t k (get_or ns (i - 1) 0) = ends_is t k ns (i - 1) (omega (arith, ended, some)) in let stands = inv.stands (omega (arith, ended, some)) in
    λ image told are.
    ap (flat_map (group_faults t (stored image at) at k)) (sym all) ∙ inv.judged image told are

pub returns-clause-last : goal.returns-clause-last
returns-clause-last g c = let t = shape_of c.args.self.now.levels.now in let at = c.args.self.now.place in let k = c.args.k in let run = c.args.run.now in let ns = nums run in let shape = c.args.self.now.levels.now.shaped.shaped in let low = c.requires.behind.0 in let rise = c.requires.behind.1.0 in
    let len = length_nums run in
    let i = c.loop-i.i in let inv = c.loop-i.invariant in let some : 0 < length ns = omega (arith, len, c.requires.some) in let ended : i ≡ length ns = omega (arith, len, c.loop-i-test.false, c.loop-i.auto.i-end) in let all : take i ns ≡ ns = take_all i ns (omega (arith, ended)) in
    let last : ends_at t k ns ≡ children_end t k (get_or ns (i - 1) 0) = ends_is t k ns (i - 1) (omega (arith, ended, some)) in let stands = inv.stands (omega (arith, ended, some)) in
    let until : at + 40 * c.children-end.result.1 ≡ ends_last t k at ns =
    ap (node_place at) (c.children-end.ensures.end ∙ ap (λ n. place t k (children_end t k n)) (number_is run (length run - 1) blank (omega (arith, c.requires.some))) ∙ ap (place t k) (sym (ends_is t k ns (length run - 1) (omega (arith, len, c.requires.some))))) in
    let end : ends_last t k at ns ≡ ends_of t k at (get_or ns (i - 1) 0) = ap (λ n. node_place at (place t k n)) last in
    let reached : ahead c.loop-i.window.held ≡ ends_last t k at ns = omega (arith, stands.0, inv.before, until, end) in
    last_begun c.loop-i.window (ends_last t k at ns) stands.1.1 reached ∙ sym (behind_run t shape k at low ns _ rise some)

pub returns-clause-reads : goal.returns-clause-reads
returns-clause-reads g c = let t = shape_of c.args.self.now.levels.now in let at = c.args.self.now.place in let k = c.args.k in let run = c.args.run.now in let ns = nums run in let shape = c.args.self.now.levels.now.shaped.shaped in let low = c.requires.behind.0 in let rise = c.requires.behind.1.0 in
    let len = length_nums run in
    let i = c.loop-i.i in let inv = c.loop-i.invariant in let some : 0 < length ns = omega (arith, len, c.requires.some) in let ended : i ≡ length ns = omega (arith, len, c.loop-i-test.false, c.loop-i.auto.i-end) in let all : take i ns ≡ ns = take_all i ns (omega (arith, ended)) in
    let last : ends_at t k ns ≡ children_end t k (get_or ns (i - 1) 0) = ends_is t k ns (i - 1) (omega (arith, ended, some)) in let stands = inv.stands (omega (arith, ended, some)) in
    let until : at + 40 * c.children-end.result.1 ≡ ends_last t k at ns =
    ap (node_place at) (c.children-end.ensures.end ∙ ap (λ n. place t k (children_end t k n)) (number_is run (length run - 1) blank (omega (arith, c.requires.some))) ∙ ap (place t k) (sym (ends_is t k ns (length run - 1) (omega (arith, len, c.requires.some))))) in
    let end : ends_last t k at ns ≡ ends_of t k at (get_or ns (i - 1) 0) = ap (λ n. node_place at (place t k n)) last in
    let reached : ahead c.loop-i.window.held ≡ ends_last t k at ns = omega (arith, stands.0, inv.before, until, end) in
    let behind = behind_first t shape k at low ns rise (ahead c.args.window.now.held) some c.requires.behind.1.1 in
    let asked = asked_run t shape k at low ns rise c.args.self.now.gap c.args.window.now c.requires.near some c.requires.over.gap_is behind in
    reads_along _ _ (ap (λ u. range_with_len (asks_from c.args.window.now (begins_at t k at (get_or ns 0 0))) (u - (asks_from c.args.window.now (begins_at t k at (get_or ns 0 0))))) reached ∙ asked) inv.reads
