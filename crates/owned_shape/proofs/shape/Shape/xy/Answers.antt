use Rattle.std.proofs.Common.{arith}
use Rattle.owned_shape.proofs.Fields.{point_held, point_sound, points_held}
use Rattle.owned_shape.proofs.shape.Shape.xy.Goals as goal

pub index-requires : goal.index-requires
index-requires c = omega (arith, c.requires, points_held c.self.inside c.args.self.now c.self.view_is)

pub index-requires-2 : goal.index-requires-2
index-requires-2 c = omega (arith, c.requires, points_held c.self.inside c.args.self.now c.self.view_is)

pub returns-clause-point : goal.returns-clause-point
returns-clause-point c = point_held c.self.inside c.args.self.now c.self.view_is c.args.i c.requires c.index.result.now c.index-2.result.now c.index.ensures c.index-2.ensures

pub returns-clause-finite_x : goal.returns-clause-finite_x
returns-clause-finite_x c = (point_sound c.self.inside c.args.self.now c.self.view_is c.args.i c.requires c.index.result.now c.index-2.result.now c.index.ensures c.index-2.ensures c.self.invariant.shown).0.0

pub returns-clause-finite_y : goal.returns-clause-finite_y
returns-clause-finite_y c = (point_sound c.self.inside c.args.self.now c.self.view_is c.args.i c.requires c.index.result.now c.index-2.result.now c.index.ensures c.index-2.ensures c.self.invariant.shown).1.0
