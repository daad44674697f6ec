use Rattle.std.proofs.Common.{◌<◌, ◌∙◌, length, ap, arith}
use Rattle.std.specs.Prelude.{slice_get}
use Rattle.owned_shape.proofs.Fields.{at_place, parts_held}
use Rattle.owned_shape.proofs.shape.Shape.part.Goals as goal

pub index-requires : goal.index-requires
index-requires c = omega (arith, c.requires, ap length (parts_held c.self.inside c.args.self.now c.self.view_is))

pub returns : goal.returns
returns c =
    let held = parts_held c.self.inside c.args.self.now c.self.view_is in
    let early : c.args.i < length c.self.inside.parts.items = omega (arith, c.requires, ap length held) in
    ap (λ parts. slice_get parts c.args.i) held ∙ at_place c.self.inside.parts.items c.args.i c.index.result.now early c.index.ensures
