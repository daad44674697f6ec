use Rattle.std.proofs.Common.{length, ap, arith}
use Rattle.owned_shape.proofs.Fields.{parts_held}
use Rattle.owned_shape.proofs.shape.Shape.parts.Goals as goal

pub returns : goal.returns
returns c = omega (arith, c.len.ensures, ap length (parts_held c.self.inside c.args.self.now c.self.view_is))
