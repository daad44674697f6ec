use Rattle.std.proofs.Common.{◌≡◌, ℕ, ◌<◌}
use Rattle.level_bounds.specs.Levels.{IsNode, node_count, place}
use Rattle.level_bounds.specs.Shapes.{shape_of}
use Rattle.slice_hits.proofs.Climbing.{Climbs}
use Rattle.slice_hits.proofs.after.next_behind.Given as goal

abbrev pub invariant-loop-parent : goal.invariant-loop-parent
invariant-loop-parent l =
    let t = shape_of l.levels in record {
      within : l.last < node_count t;
      climbs : (k i : ℕ) → IsNode t k i → l.fn.node ≡ place t k i → Climbs t l.levels.shaped.shaped k i l.last;
    }

abbrev pub decreases-loop-parent : goal.decreases-loop-parent
decreases-loop-parent l = l.last
