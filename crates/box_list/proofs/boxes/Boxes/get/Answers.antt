use Rattle.std.proofs.Common.{◌≡◌, ◌<◌, length, take, arith, ap, sym, ◌∙◌, slice_get}
use Rattle.std.proofs.lemmas.Option.{slice_get-get_or}
use Rattle.box_list.proofs.Lists.{each_at}
use Rattle.box_list.proofs.boxes.Boxes.get.Goals as goal

pub returns-clause-at : goal.returns-clause-at
returns-clause-at c =
    let inside : c.args.i < length (take c.self.inside.count c.self.inside.boxes) = omega (arith, c.requires, ap length c.self.view_is) in
    ap (λ l. slice_get l c.args.i) (sym c.self.view_is) ∙ slice_get-get_or (take c.self.inside.count c.self.inside.boxes) c.args.i _ inside

pub returns-clause-valid : goal.returns-clause-valid
returns-clause-valid c =
    let inside : c.args.i < length (take c.self.inside.count c.self.inside.boxes) = omega (arith, c.requires, ap length c.self.view_is) in
    each_at (take c.self.inside.count c.self.inside.boxes) c.args.i _ c.self.invariant.2.each inside
