use Rattle.owned_shape.specs.Records.{depth}
use Rattle.wkb_writer.specs.Commons.{IsCommon}
use Rattle.wkb_writer.proofs.Wholes.{first_trees}
use Rattle.wkb_writer.proofs.dimension.+common_of.Given as goal

abbrev pub decreases-common_of : goal.decreases-common_of
decreases-common_of g l = depth (g.S.Shows.shown l.view.now)

abbrev pub invariant-loop-i : goal.invariant-loop-i
invariant-loop-i g l = IsCommon (first_trees (g.S.Shows.shown l.view) l.i) l.common
