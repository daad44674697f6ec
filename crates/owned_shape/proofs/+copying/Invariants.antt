use Rattle.std.proofs.Common.{◌≡◌, ◌+◌, ◌-◌, ◌*◌, take}
use Rattle.std.specs.List.{All}
use Rattle.fgb_schema.specs.Shapes.{parts_in}
use Rattle.geometry_view.specs.Views.{geometry_shown}
use Rattle.owned_shape.specs.Records.{IsSound}
use Rattle.owned_shape.proofs.+copying.Given as goal

-- the parts stand one deeper
abbrev pub decreases-shape::Shape::of : goal.decreases-shape::Shape::of
decreases-shape::Shape::of l = 2 * (17 - l.view.now.depth) + 1

abbrev pub decreases-copies::parts_of : goal.decreases-copies::parts_of
decreases-copies::parts_of l = 2 * (17 - l.view.now.depth)

abbrev pub invariant-copies::parts_of-loop-i : goal.invariant-copies::parts_of-loop-i
invariant-copies::parts_of-loop-i l = record {
  copied : l.parts.items ≡ take l.i (parts_in (geometry_shown l.view));
  sound : All IsSound l.parts.items;
}
