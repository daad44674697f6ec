use Rattle.geometry_view.specs.Views.{geometry_shown}
use Rattle.owned_shape.specs.Records.{depth}
use Rattle.wkb_writer.proofs.SizesOfParts.{IsSizeTo}
use Rattle.wkb_writer.proofs.size.+size_of.Given as goal

abbrev pub decreases-size_of : goal.decreases-size_of
decreases-size_of l = depth (geometry_shown l.view.now)

abbrev pub invariant-loop-i : goal.invariant-loop-i
invariant-loop-i l = IsSizeTo l.fn.dimension (geometry_shown l.view) l.i l.size
