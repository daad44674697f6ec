use Rattle.std.proofs.Common.{◌≡◌, ℕ, Bool, ◌+◌, ◌*◌, ◌≤◌, List, ◌++◌, length, map}
use Rattle.std.specs.List.{filter, flat_map}
use Rattle.fgb_outside.specs.Source.{IfTold}
use Rattle.fgb_outside.specs.Asked.{Ascends, IsInside, Reads}
use Rattle.section_window.specs.Window.{ahead}
use Rattle.gap_window.specs.Gaps.{behind, bridged_behind}
use Rattle.gap_window.specs.Bridging.{last_asked}
use Rattle.level_bounds.specs.Levels.{node_count, place, width}
use Rattle.level_bounds.specs.Shapes.{shape_of}
use Rattle.node_items.specs.Faults.{group_faults}
use Rattle.node_items.specs.Nodes.{node_place, stored}
use Rattle.box_list.specs.Lists.{meets_any}
use Rattle.tree_search.specs.Wanted.{passes}
use Rattle.tree_search.specs.Searches.{hit_of}
use Rattle.tree_search.specs.Descent.{AreFrom, all_children, children_before, children_of, level_positions, numbers}
use Rattle.box_search.specs.Following.{HaveNext, Tells, next_under}
use Rattle.box_search.specs.Hits.{plains}
use Rattle.box_search.specs.Sought.{IsOver}
use Rattle.box_search.proofs.Lists.{nums}
use Rattle.box_search.proofs.level.Descent.level.Given as goal

abbrev pub invariant-loop-rest : goal.invariant-loop-rest
invariant-loop-rest g l =
    let t = shape_of l.self.levels.now in
    let at = l.self.place in
    let s = g.S.RangeSource.seen l.fn.source in
    record {
      over : IsOver t at l.self.gap l.window (g.S.RangeSource.seen l.source);
      low : (low : ℕ) × (Ascends low (width t (l.k + 1)) (nums l.rest) × Ascends 0 (children_before t l.k low) (numbers (plains l.found.items)) × (ahead l.window.held ≤ node_place at (place t l.k (children_before t l.k low))));
      found : IfTold s (λ image. let part = λ (j : ℕ). filter (passes t (stored image at) (meets_any l.self.boxes.now) l.k) (children_of t l.k j) in
          plains l.found.items ++ map (hit_of t (stored image at) l.k) (flat_map part (nums l.rest)) ≡ map (hit_of t (stored image at) l.k) (flat_map part (nums l.parents)));
      next : IfTold s (λ image. (passing : ℕ → Bool) → Tells passing (nums l.parents) → Tells passing (nums l.rest) × HaveNext (next_under t (stored image at) l.k passing) l.found.items);
      judged : IfTold s (λ image. AreFrom t (stored image at) (l.k + 1) (plains l.parents) → AreFrom t (stored image at) (l.k + 1) (plains l.rest)
          × (flat_map (group_faults t (stored image at) at l.k) (nums l.parents) ≡ flat_map (group_faults t (stored image at) at l.k) (nums l.rest)));
      last : behind (last_asked l.window) (level_positions at t l.k (all_children t l.k (nums l.rest))) ≡ behind (last_asked l.fn.window) (level_positions at t l.k (all_children t l.k (nums l.parents)));
      reads : (asked : List ℕ) × (Reads (IsInside at (at + 40 * node_count t)) s (g.S.RangeSource.seen l.source) asked
          × (asked ++ bridged_behind l.self.gap (last_asked l.window) (level_positions at t l.k (all_children t l.k (nums l.rest))) ≡ bridged_behind l.self.gap (last_asked l.fn.window) (level_positions at t l.k (all_children t l.k (nums l.parents)))));
    }

abbrev pub decreases-loop-rest : goal.decreases-loop-rest
decreases-loop-rest g l = length l.rest
