use Rattle.std.proofs.Common.{◌<◌, ◌^◌, ◌++◌, ◌∷◌, [], ◌∙◌, sym, subst, ap, arith, rules}
use Rattle.std.specs.List.{All}
use Rattle.std.proofs.lemmas.List.Elements.{All-push}
use Rattle.fgb_schema.specs.Shapes.{points_in}
use Rattle.geometry_view.specs.Views.{geometry_shown}
use Rattle.owned_shape.specs.Records.{IsNumber}
use Rattle.owned_shape.proofs.Fields.{take_more}
use Rattle.owned_shape.proofs.Points.{one_more}
use Rattle.owned_shape.proofs.ReadShapes.{view_read}
use Rattle.owned_shape.proofs.copies.points_of.Goals as goal

pub overflow_mul-count : goal.overflow_mul-count
overflow_mul-count c = let few = (view_read c.args.view.now).few_points in omega (arith, few, c.points-count.ensures)

pub loop-i-preserved : goal.loop-i-preserved
loop-i-preserved c =
    let points = points_in (geometry_shown c.args.view.now) in let i = c.loop-i.i in
    let x = c.xy.result.0.0 in let y = c.xy.result.1.0 in
    let before = c.loop-i.xy.items in let between = c.push.new.self.items in
    let first = c.in_ok-push.ensures.items in let second = c.in_ok-push-2.ensures.items in
    let small_x : x < 2 ^ 64 = search rules in
    let small_y : y < 2 ^ 64 = search rules in
    record {
      copied = one_more before between c.push-in-loop-i.new.self.items x y c.loop-i.invariant.even first second
          ∙ ap (λ ps. ps ++ (x, y) ∷ []) c.loop-i.invariant.copied ∙ sym (take_more points i (x, y) c.xy.ensures.point);
      even = omega (arith, c.loop-i.invariant.even, c.in_ok-push.ensures.len, c.in_ok-push-2.ensures.len);
      numbers = subst (All IsNumber) (sym second)
          (All-push IsNumber between y (subst (All IsNumber) (sym first) (All-push IsNumber before x c.loop-i.invariant.numbers (c.xy.ensures.finite_x, small_x))) (c.xy.ensures.finite_y, small_y));
    }
