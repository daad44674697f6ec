use Rattle.std.proofs.Common.{◌≡◌, length}
use Rattle.std.specs.List.{AllByRecursion}
use Rattle.feature_tables.specs.Records.{Fits}
use Rattle.grid_features.specs.Grid.{AreGridFrom, grid_header}
use Rattle.grid_features.proofs.features.grid_features.Given as goal

abbrev pub invariant-loop-i : goal.invariant-loop-i
invariant-loop-i l = record {
  grid : AreGridFrom l.start 0 l.features.items;
  counted : length l.features.items ≡ l.i;
  fits : AllByRecursion (Fits grid_header) l.features.items;
}
