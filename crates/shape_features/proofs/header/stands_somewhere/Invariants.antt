use Rattle.std.proofs.Common.{◌≡◌, drop}
use Rattle.std.specs.List.{list_any}
use Rattle.shape_features.specs.Features.{stands_in}
use Rattle.shape_features.proofs.header.stands_somewhere.Given as goal

abbrev pub invariant-loop-shape : goal.invariant-loop-shape
invariant-loop-shape l = list_any (stands_in l.which) (drop l.shape-index l.shapes) ≡ list_any (stands_in l.which) l.shapes
