use Rattle.std.proofs.Common.{arith}
use Rattle.owned_shape.proofs.Fields.{points_held}
use Rattle.owned_shape.proofs.shape.Shape.points.Goals as goal

pub returns : goal.returns
returns c = omega (arith, c.len.ensures, points_held c.self.inside c.args.self.now c.self.view_is)
