use Rattle.std.proofs.Common.{◌≡◌, ℕ, ◌+◌, ◌-◌, ◌*◌, ◌≤◌, [], ◌++◌, map}
use Rattle.std.specs.List.{filter, flat_map, range_with_len}
use Rattle.fgb_outside.specs.Source.{IfTold}
use Rattle.fgb_outside.specs.Asked.{Ascends, IsInside, Reads}
use Rattle.section_window.specs.Window.{ahead}
use Rattle.level_bounds.specs.Levels.{node_count, place, first_child}
use Rattle.level_bounds.specs.Shapes.{shape_of}
use Rattle.node_items.specs.Faults.{group_faults}
use Rattle.node_items.specs.Nodes.{node_place, stored}
use Rattle.tree_search.specs.Wanted.{meets_box, passes}
use Rattle.tree_search.specs.Searches.{hit_of}
use Rattle.tree_search.specs.Descent.{AreFrom, IsOver, children_before, children_of, first_number, numbers}
use Rattle.tree_search.proofs.level.Descent.run.Given as goal

abbrev pub invariant-loop-parent : goal.invariant-loop-parent
invariant-loop-parent g l =
    let t = shape_of l.self.levels.now in
    let at = l.self.place in
    let s = g.S.RangeSource.seen l.fn.source in
    record {
      over : IsOver t at l.window (g.S.RangeSource.seen l.source);
      stands : l.window.at ≡ node_place at (place t l.k (children_before t l.k (first_number l.run + l.parent-index)));
      on : l.from ≤ ahead l.window;
      before : ahead l.window ≤ l.until;
      rise : (low : ℕ) → Ascends low (first_child t (first_number l.run)) (numbers l.fn.found.items) → Ascends low (children_before t l.k (first_number l.run + l.parent-index)) (numbers l.found.items);
      found : IfTold s (λ image. l.found.items ≡ l.fn.found.items ++ map (hit_of t (stored image at) l.k)
          (flat_map (λ j. filter (passes t (stored image at) (meets_box l.self.bounds) l.k) (children_of t l.k j)) (range_with_len (first_number l.run) l.parent-index)));
      judged : IfTold s (λ image. AreFrom t (stored image at) (l.k + 1) l.run → flat_map (group_faults t (stored image at) at l.k) (range_with_len (first_number l.run) l.parent-index) ≡ []);
      reads : Reads (IsInside at (at + 40 * node_count t)) s (g.S.RangeSource.seen l.source) (range_with_len l.from (ahead l.window - l.from));
    }
