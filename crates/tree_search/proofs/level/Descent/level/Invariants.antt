use Rattle.std.proofs.Common.{◌≡◌, ℕ, ◌+◌, ◌*◌, ◌≤◌, List, ◌++◌, length, map}
use Rattle.std.specs.List.{filter, flat_map}
use Rattle.fgb_outside.specs.Source.{IfTold}
use Rattle.fgb_outside.specs.Asked.{Ascends, IsInside, Reads}
use Rattle.section_window.specs.Window.{ahead}
use Rattle.level_bounds.specs.Levels.{node_count, place, width}
use Rattle.level_bounds.specs.Shapes.{shape_of}
use Rattle.node_items.specs.Faults.{group_faults}
use Rattle.node_items.specs.Nodes.{node_place, stored}
use Rattle.tree_search.specs.Wanted.{meets_box, passes}
use Rattle.tree_search.specs.Searches.{hit_of}
use Rattle.tree_search.specs.Descent.{AreFrom, IsOver, all_children, children_before, children_of, level_positions, numbers}
use Rattle.tree_search.proofs.level.Descent.level.Given as goal

abbrev pub invariant-loop-rest : goal.invariant-loop-rest
invariant-loop-rest g l =
    let t = shape_of l.self.levels.now in
    let at = l.self.place in
    let s = g.S.RangeSource.seen l.fn.source in
    record {
      over : IsOver t at l.window (g.S.RangeSource.seen l.source);
      low : (low : ℕ) × (Ascends low (width t (l.k + 1)) (numbers l.rest) × Ascends 0 (children_before t l.k low) (numbers l.found.items) × (ahead l.window ≤ node_place at (place t l.k (children_before t l.k low))));
      found : IfTold s (λ image. let part = λ (j : ℕ). filter (passes t (stored image at) (meets_box l.self.bounds) l.k) (children_of t l.k j) in
          l.found.items ++ map (hit_of t (stored image at) l.k) (flat_map part (numbers l.rest)) ≡ map (hit_of t (stored image at) l.k) (flat_map part (numbers l.parents)));
      judged : IfTold s (λ image. AreFrom t (stored image at) (l.k + 1) l.parents → AreFrom t (stored image at) (l.k + 1) l.rest
          × (flat_map (group_faults t (stored image at) at l.k) (numbers l.parents) ≡ flat_map (group_faults t (stored image at) at l.k) (numbers l.rest)));
      reads : (asked : List ℕ) × (Reads (IsInside at (at + 40 * node_count t)) s (g.S.RangeSource.seen l.source) asked
          × (asked ++ level_positions at t l.k (all_children t l.k (numbers l.rest)) ≡ level_positions at t l.k (all_children t l.k (numbers l.parents))));
    }

abbrev pub decreases-loop-rest : goal.decreases-loop-rest
decreases-loop-rest g l = length l.rest
