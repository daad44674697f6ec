use Rattle.std.proofs.Common.{arith, length, sym, ap, ◌∙◌}
use Rattle.fgb_schema.specs.Shapes.{points_in}
use Rattle.fgb_schema.specs.Tables.{has_rings}
use Rattle.geometry_view.specs.Kinds.{number_of}
use Rattle.geometry_view.specs.Views.{geometry_shown}
use Rattle.geometry_view.proofs.OwnNumbers.{rings_many, rings_all, rings_never}
use Rattle.geometry_view.proofs.ViewLists.{view_lacking}
use Rattle.geometry_view.proofs.geometry.GeometryView.rings.Goals as goal

pub returns-then-not-has_rings : goal.returns-then-not-has_rings
returns-then-not-has_rings c = sym (ap length (view_lacking c.args.self.now (sym c.has_rings.ensures ∙ c.if-not-has_rings.true)))

pub returns-in-Some : goal.returns-in-Some
returns-in-Some c =
    let g = c.args.self.now in
    let given = c.in-Some.ensures in
    c.len.ensures ∙ rings_many (has_rings (number_of g.kind)) c.ends.result c.in-Some.ends (length (points_in (geometry_shown g))) (sym c.has_rings.ensures ∙ c.if-not-has_rings.false) (record { is = given.0; some = given.1 })
    ∙ sym (ap length c.ends.ensures.rings)

pub returns-in-None : goal.returns-in-None
returns-in-None c =
    let g = c.args.self.now in
    rings_all (has_rings (number_of g.kind)) c.ends.result (length (points_in (geometry_shown g))) (sym c.has_rings.ensures ∙ c.if-not-has_rings.false) c.in-None.ensures (omega (arith, c.points.ensures))
    ∙ sym (ap length c.ends.ensures.rings)

pub returns-in-None-2 : goal.returns-in-None-2
returns-in-None-2 c =
    let g = c.args.self.now in
    rings_never (has_rings (number_of g.kind)) c.ends.result (length (points_in (geometry_shown g))) (sym c.has_rings.ensures ∙ c.if-not-has_rings.false) c.in-None.ensures (omega (arith, c.points.ensures))
    ∙ sym (ap length c.ends.ensures.rings)
