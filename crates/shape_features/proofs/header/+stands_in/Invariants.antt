use Rattle.std.proofs.Common.{◌≡◌}
use Rattle.std.specs.List.{list_any}
use Rattle.owned_shape.specs.Records.{depth}
use Rattle.wkb_writer.proofs.Wholes.{first_trees}
use Rattle.shape_features.specs.Features.{stands_beside}
use Rattle.shape_features.proofs.header.+stands_in.Given as goal

abbrev pub decreases-stands_in : goal.decreases-stands_in
decreases-stands_in l = depth l.shape.now

abbrev pub invariant-loop-i : goal.invariant-loop-i
invariant-loop-i l = l.stands ≡ list_any (stands_beside l.which) (first_trees l.shape l.i)
