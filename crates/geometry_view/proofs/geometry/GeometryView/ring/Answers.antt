use Rattle.std.proofs.Common.{◌<◌, arith, length, Some, subst, sym, ap, ◌∙◌}
use Rattle.std.specs.Prelude.{slice_get}
use Rattle.flat_layout.specs.Layout.{words}
use Rattle.flat_views.specs.Vectors.{vector_bytes, vector_place}
use Rattle.fgb_schema.specs.Shapes.{points_in}
use Rattle.fgb_schema.specs.Tables.{has_rings}
use Rattle.geometry_view.specs.Kinds.{number_of}
use Rattle.geometry_view.specs.Views.{geometry_shown}
use Rattle.geometry_view.proofs.OwnNumbers.{IsGiven, Begins, at_zero, at_end, ring_of_all, ring_early, ring_of_given}
use Rattle.geometry_view.proofs.geometry.GeometryView.ring.Goals as goal
use Rattle.geometry_view.proofs.geometry.GeometryView.ring.Goals.{then-i-eq0, else-i-eq0}

pub returns-in_default : goal.returns-in_default
returns-in_default c =
    let g = c.args.self.now in
    let early = subst (λ rs. c.args.i < length rs) c.ends.ensures.rings c.requires in
    ap (λ rs. slice_get rs c.args.i) c.ends.ensures.rings
    ∙ ring_of_all (has_rings (number_of g.kind)) c.ends.result (length (points_in (geometry_shown g))) c.args.i c.in_default.ensures early ∙ ap (λ n. Some (0, n)) (sym c.points.ensures)

pub at_u32-requires-clause-index : goal.at_u32-requires-clause-index
at_u32-requires-clause-index c =
    let g = c.args.self.now in
    let given : IsGiven c.ends.result c.in-Some.ends = record { is = c.in-Some.ensures.0; some = c.in-Some.ensures.1 } in
    let early = subst (λ rs. c.args.i < length rs) c.ends.ensures.rings c.requires in
    omega (arith, ring_early (has_rings (number_of g.kind)) c.ends.result c.in-Some.ends (length (points_in (geometry_shown g))) c.args.i given early)

pub at_u32-requires-2-clause-index : goal.at_u32-requires-2-clause-index
at_u32-requires-2-clause-index c =
    let g = c.args.self.now in
    let given : IsGiven c.ends.result c.in-Some.ends = record { is = c.in-Some.ensures.0; some = c.in-Some.ensures.1 } in
    let early = subst (λ rs. c.args.i < length rs) c.ends.ensures.rings c.requires in
    ring_early (has_rings (number_of g.kind)) c.ends.result c.in-Some.ends (length (points_in (geometry_shown g))) c.args.i given early

pub returns : goal.returns
returns c =
    let g = c.args.self.now in
    let given : IsGiven c.ends.result c.in-Some.ends = record { is = c.in-Some.ensures.0; some = c.in-Some.ensures.1 } in
    let early = subst (λ rs. c.args.i < length rs) c.ends.ensures.rings c.requires in
    let numbers = words (vector_bytes c.in-Some.ends) (vector_place c.in-Some.ends) in
    let begins : Begins numbers c.args.i c.if-i-eq0.first = elim c.if-i-eq0.branch [
      | then-i-eq0 w ↦ at_zero w.if-i-eq0.true w.first-is
      | else-i-eq0 w ↦ at_end (omega (arith, w.if-i-eq0.false)) (w.first-is ∙ w.at_u32.ensures)
    ] in
    ap (λ rs. slice_get rs c.args.i) c.ends.ensures.rings
    ∙ ring_of_given (has_rings (number_of g.kind)) c.ends.result c.in-Some.ends (length (points_in (geometry_shown g))) c.args.i c.if-i-eq0.first c.at_u32-2.result given early begins c.at_u32-2.ensures
