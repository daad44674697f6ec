use Rattle.std.proofs.Common.{ap, arith, rules, ◌∙◌}
use Rattle.std.proofs.lemmas.List.{take_all}
use Rattle.order_keys.specs.Boxes.{join}
use Rattle.fgb_schema.specs.Shapes.{box_of_points}
use Rattle.geometry_view.proofs.OwnBoxes.{one_more}
use Rattle.geometry_view.proofs.OwnNumbers.{pairs_count, pairs_in}
use Rattle.geometry_view.proofs.geometry.box_of_pairs.Goals as goal

pub pair_at-requires-clause-early : goal.pair_at-requires-clause-early
pair_at-requires-clause-early c = omega (arith, pairs_count c.args.xy)

pub loop-i-preserved : goal.loop-i-preserved
loop-i-preserved c =
    one_more (pairs_in c.args.xy) c.loop-i.i c.loop-i.bounds c.join-bounds.result c.pair_at.result.0 c.pair_at.result.1 c.pair_at.ensures.point (search rules) (search rules)
    c.pair_at.ensures.finite_x c.pair_at.ensures.finite_y (c.join-bounds.ensures.value ∙ ap (join c.loop-i.bounds) c.of_point.ensures) c.loop-i.invariant

pub returns-clause-value : goal.returns-clause-value
returns-clause-value c = c.loop-i.invariant.same ∙ ap box_of_points (take_all c.loop-i.i (pairs_in c.args.xy) (omega (arith, pairs_count c.args.xy)))
