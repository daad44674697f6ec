use Rattle.std.proofs.Common.{arith}
use Rattle.owned_shape.proofs.Fields.{rings_held}
use Rattle.owned_shape.proofs.shape.Shape.rings.Goals as goal

pub returns : goal.returns
returns c = omega (arith, c.len.ensures, rings_held c.self.inside c.args.self.now c.self.view_is)
