use Rattle.std.proofs.Common.{◌≡◌, ℕ, ◌+◌, ◌*◌, ◌<◌, ◌≤◌, [], None, map}
use Rattle.std.specs.List.{flat_map}
use Rattle.fgb_outside.specs.Source.{IfTold, Keeps}
use Rattle.fgb_outside.specs.Asked.{Ascends, IsInside, Reads}
use Rattle.section_window.specs.Window.{ahead}
use Rattle.level_bounds.specs.Levels.{node_count, place, width}
use Rattle.level_bounds.specs.Shapes.{shape_of}
use Rattle.node_items.specs.Faults.{group_faults, root_faults}
use Rattle.node_items.specs.Nodes.{node_place, stored}
use Rattle.tree_search.specs.Wanted.{hits, node_positions}
use Rattle.tree_search.specs.Searches.{hit_of}
use Rattle.tree_search.specs.Descent.{numbers}
use Rattle.box_list.specs.Lists.{meets_any}
use Rattle.gap_window.specs.Gaps.{behind, bridged}
use Rattle.gap_window.specs.Bridging.{last_asked}
use Rattle.box_search.specs.Following.{HaveNext, next_of}
use Rattle.box_search.specs.Hits.{plains}
use Rattle.box_search.specs.Sought.{IsOver}
use Rattle.tree_search.proofs.Whole.{wanted_from}
use Rattle.box_search.proofs.search.search_boxes.Given as goal

abbrev pub invariant-loop-k : goal.invariant-loop-k
invariant-loop-k g l =
    let t = shape_of l.levels in
    let s = g.S.RangeSource.seen l.fn.source in
    record {
      under : l.k ≤ t.top;
      over : IsOver t l.place l.gap l.window (g.S.RangeSource.seen l.source);
      past : ahead l.window.held ≤ node_place l.place (place t l.k (width t l.k));
      rise : Ascends 0 (width t l.k) (numbers (plains l.found.items));
      found : IfTold s (λ image. plains l.found.items ≡ map (hit_of t (stored image l.place) l.k) (hits t (stored image l.place) (meets_any l.boxes) l.k));
      next : IfTold s (λ image. HaveNext (next_of t (stored image l.place) (meets_any l.boxes) l.k) l.found.items);
      root : IfTold s (λ image. root_faults t (stored image l.place) l.place ≡ []);
      groups : IfTold s (λ image. (j : ℕ) → l.k ≤ j → j < t.top → flat_map (group_faults t (stored image l.place) l.place j) (hits t (stored image l.place) (meets_any l.boxes) (j + 1)) ≡ []);
      keeps : Keeps s (g.S.RangeSource.seen l.source);
      reads : IfTold s (λ image. Reads (IsInside l.place (l.place + 40 * node_count t)) s (g.S.RangeSource.seen l.source) (bridged l.gap (node_positions l.place (wanted_from t (stored image l.place) (meets_any l.boxes) l.k))));
      last : IfTold s (λ image. last_asked l.window ≡ behind None (node_positions l.place (wanted_from t (stored image l.place) (meets_any l.boxes) l.k)));
    }

abbrev pub decreases-loop-k : goal.decreases-loop-k
decreases-loop-k g l = l.k
