use Rattle.std.proofs.Common.{◌-◌, ◌<◌, ◌∙◌, length, sym, ap, arith}
use Rattle.std.specs.Prelude.{slice_get, slice_index}
use Rattle.fgb_schema.specs.Shapes.{rings_in}
use Rattle.owned_shape.proofs.Fields.{read_at, ring_at, rings_held}
use Rattle.owned_shape.proofs.shape.Shape.ring.Goals as goal

pub start_of-requires : goal.start_of-requires
start_of-requires c = omega (arith, c.requires, ap length c.deref.ensures.value, rings_held c.self.inside c.args.self.now c.self.view_is)

pub index-requires : goal.index-requires
index-requires c = omega (arith, c.requires, rings_held c.self.inside c.args.self.now c.self.view_is)

pub returns : goal.returns
returns c =
    let ends = c.self.inside.ends.items in let i = c.args.i in
    let early : i < length ends = omega (arith, c.requires, rings_held c.self.inside c.args.self.now c.self.view_is) in
    ap (λ s. slice_get (rings_in s) i) (sym c.self.view_is)
    ∙ ring_at ends i c.start_of.result c.index.result.now early c.start_of.ensures.first (λ some. c.start_of.ensures.later some ∙ ap (λ s. slice_index s (i - 1)) c.deref.ensures.value)
    (read_at ends i c.index.result.now early c.index.ensures)
