use Rattle.std.proofs.Common.{◌-◌}
use Rattle.geometry_view.specs.Views.{geometry_shown}
use Rattle.geometry_view.proofs.OwnBoxes.{IsBoxOf, first_points}
use Rattle.geometry_view.proofs.geometry.GeometryView.+bounds.Given as goal

abbrev pub decreases-bounds : goal.decreases-bounds
decreases-bounds l = 17 - l.self.now.depth

abbrev pub invariant-loop-i : goal.invariant-loop-i
invariant-loop-i l = IsBoxOf (first_points (geometry_shown l.self) l.i) l.bounds
