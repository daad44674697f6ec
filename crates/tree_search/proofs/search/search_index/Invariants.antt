use Rattle.std.proofs.Common.{◌≡◌, ℕ, ◌+◌, ◌*◌, ◌<◌, ◌≤◌, [], map}
use Rattle.std.specs.List.{flat_map}
use Rattle.fgb_outside.specs.Source.{IfTold, Keeps}
use Rattle.fgb_outside.specs.Asked.{Ascends, IsInside, Reads}
use Rattle.section_window.specs.Window.{ahead}
use Rattle.level_bounds.specs.Levels.{node_count, place, width}
use Rattle.level_bounds.specs.Shapes.{shape_of}
use Rattle.node_items.specs.Faults.{group_faults, root_faults}
use Rattle.node_items.specs.Nodes.{node_place, stored}
use Rattle.tree_search.specs.Wanted.{hits, meets_box, node_positions}
use Rattle.tree_search.specs.Searches.{hit_of}
use Rattle.tree_search.specs.Descent.{IsOver, numbers}
use Rattle.tree_search.proofs.Whole.{wanted_from}
use Rattle.tree_search.proofs.search.search_index.Given as goal

abbrev pub invariant-loop-k : goal.invariant-loop-k
invariant-loop-k g l =
    let t = shape_of l.levels in
    let s = g.S.RangeSource.seen l.fn.source in
    record {
      under : l.k ≤ t.top;
      over : IsOver t l.place l.window (g.S.RangeSource.seen l.source);
      behind : ahead l.window ≤ node_place l.place (place t l.k (width t l.k));
      rise : Ascends 0 (width t l.k) (numbers l.found.items);
      found : IfTold s (λ image. l.found.items ≡ map (hit_of t (stored image l.place) l.k) (hits t (stored image l.place) (meets_box l.fn.bounds) l.k));
      root : IfTold s (λ image. root_faults t (stored image l.place) l.place ≡ []);
      groups : IfTold s (λ image. (j : ℕ) → l.k ≤ j → j < t.top → flat_map (group_faults t (stored image l.place) l.place j) (hits t (stored image l.place) (meets_box l.fn.bounds) (j + 1)) ≡ []);
      keeps : Keeps s (g.S.RangeSource.seen l.source);
      reads : IfTold s (λ image. Reads (IsInside l.place (l.place + 40 * node_count t)) s (g.S.RangeSource.seen l.source) (node_positions l.place (wanted_from t (stored image l.place) (meets_box l.fn.bounds) l.k)));
    }

abbrev pub decreases-loop-k : goal.decreases-loop-k
decreases-loop-k g l = l.k
