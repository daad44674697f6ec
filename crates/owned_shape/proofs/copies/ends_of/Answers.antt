use Rattle.std.proofs.Common.{◌≤◌, ◌++◌, ◌∷◌, [], ◌∙◌, length, map, take, sym, ap, arith}
use Rattle.std.proofs.lemmas.List.{map-append, take_all}
use Rattle.fgb_schema.specs.Shapes.{rings_from, rings_in}
use Rattle.geometry_view.specs.Views.{geometry_shown}
use Rattle.owned_shape.proofs.Copied.{view_end, view_rings_by_ends}
use Rattle.owned_shape.proofs.Fields.{take_more}
use Rattle.owned_shape.proofs.copies.ends_of.Goals as goal

pub overflow_cast-end : goal.overflow_cast-end
overflow_cast-end c = omega (arith, view_end c.args.view.now c.loop-i.i c.ring-end.result c.ring-end.ensures)

pub loop-i-preserved : goal.loop-i-preserved
loop-i-preserved c =
    let rings = rings_in (geometry_shown c.args.view.now) in let ring = c.ring-end.result in
    c.in_ok-push.ensures.items ∙ ap (λ ends. ends ++ ring.1 ∷ []) c.loop-i.invariant
    ∙ sym (ap (map (λ ring. ring.1)) (take_more rings c.loop-i.i ring c.ring-end.ensures) ∙ map-append (λ ring. ring.1) (take c.loop-i.i rings) (ring ∷ []))

pub returns : goal.returns
returns c =
    let rings = rings_in (geometry_shown c.args.view.now) in
    let late : length rings ≤ c.loop-i.i = omega (arith, c.rings-count.ensures, c.loop-i-test.false) in
    ap (rings_from 0) (c.loop-i.invariant ∙ ap (map (λ ring. ring.1)) (take_all c.loop-i.i rings late)) ∙ view_rings_by_ends c.args.view.now
