use Rattle.std.proofs.Common.{◌≡◌, ℕ, ◌+◌, ◌-◌, ◌*◌, ◌<◌, ◌≤◌, [], ◌++◌, Bool, true, length, take, get_or, map}
use Rattle.std.specs.List.{filter, flat_map, range_with_len}
use Rattle.fgb_outside.specs.Source.{IfTold}
use Rattle.fgb_outside.specs.Asked.{Ascends, IsInside, Reads}
use Rattle.section_window.specs.Window.{ahead}
use Rattle.gap_window.specs.Bridging.{asks_from}
use Rattle.level_bounds.specs.Levels.{children_end, first_child, node_count}
use Rattle.level_bounds.specs.Shapes.{shape_of}
use Rattle.node_items.specs.Faults.{group_faults}
use Rattle.node_items.specs.Nodes.{stored}
use Rattle.box_list.specs.Lists.{meets_any}
use Rattle.tree_search.specs.Wanted.{passes}
use Rattle.tree_search.specs.Searches.{hit_of}
use Rattle.tree_search.specs.Descent.{AreFrom, children_of, numbers}
use Rattle.box_search.specs.Following.{KeepNext, Tells, next_under}
use Rattle.box_search.specs.Hits.{plains}
use Rattle.box_search.specs.Sought.{IsOver}
use Rattle.box_search.proofs.Lists.{nums}
use Rattle.box_search.proofs.Bridges.{begins_at, ends_of}
use Rattle.box_search.proofs.level.Descent.run.Given as goal

abbrev pub invariant-loop-i : goal.invariant-loop-i
invariant-loop-i g l =
    let t = shape_of l.self.levels.now in
    let at = l.self.place in
    let s = g.S.RangeSource.seen l.fn.source in
    let ns = nums l.run in
    let start = asks_from l.fn.window (begins_at t l.k at (get_or ns 0 0)) in
    record {
      over : IsOver t at l.self.gap l.window (g.S.RangeSource.seen l.source);
      before : ahead l.window.held ≤ l.until;
      onward : l.i < length ns → l.window.held.at ≤ begins_at t l.k at (get_or ns l.i 0);
      asks : l.i < length ns → asks_from l.window (begins_at t l.k at (get_or ns l.i 0)) ≡ start + (ahead l.window.held - start);
      stands : 0 < l.i → (l.window.held.at ≡ ends_of t l.k at (get_or ns (l.i - 1) 0)) × ((start ≤ ahead l.window.held) × (l.window.begun ≡ true));
      rise : (low : ℕ) → Ascends low (first_child t (get_or ns 0 0)) (numbers (plains l.fn.found.items))
          → (l.i < length ns → Ascends low (first_child t (get_or ns l.i 0)) (numbers (plains l.found.items))) × (0 < l.i → Ascends low (children_end t l.k (get_or ns (l.i - 1) 0)) (numbers (plains l.found.items)));
      found : IfTold s (λ image. plains l.found.items ≡ plains l.fn.found.items ++ map (hit_of t (stored image at) l.k)
          (flat_map (λ j. filter (passes t (stored image at) (meets_any l.self.boxes.now) l.k) (children_of t l.k j)) (take l.i ns)));
      next : IfTold s (λ image. (passing : ℕ → Bool) → Tells passing ns → KeepNext (next_under t (stored image at) l.k passing) l.fn.found.items l.found.items);
      judged : IfTold s (λ image. AreFrom t (stored image at) (l.k + 1) (plains l.run) → flat_map (group_faults t (stored image at) at l.k) (take l.i ns) ≡ []);
      reads : Reads (IsInside at (at + 40 * node_count t)) s (g.S.RangeSource.seen l.source) (range_with_len start (ahead l.window.held - start));
    }
