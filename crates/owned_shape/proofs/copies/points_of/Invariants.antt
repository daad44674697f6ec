use Rattle.std.proofs.Common.{◌≡◌, ◌%◌, length, take}
use Rattle.std.specs.List.{All}
use Rattle.fgb_schema.specs.Shapes.{pairs_of, points_in}
use Rattle.geometry_view.specs.Views.{geometry_shown}
use Rattle.owned_shape.specs.Records.{IsNumber}
use Rattle.owned_shape.proofs.copies.points_of.Given as goal

abbrev pub invariant-loop-i : goal.invariant-loop-i
invariant-loop-i l = record {
  copied : pairs_of l.xy.items ≡ take l.i (points_in (geometry_shown l.view));
  even : length l.xy.items % 2 ≡ 0;
  numbers : All IsNumber l.xy.items;
}
