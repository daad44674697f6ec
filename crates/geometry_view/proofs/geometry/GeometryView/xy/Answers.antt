use Rattle.std.proofs.Common.{◌<◌, length, ap, refl, subst, sym, ◌∙◌, arith}
use Rattle.std.specs.Prelude.{slice_get}
use Rattle.geometry_view.proofs.geometry.GeometryView.xy.Goals as goal

pub pair_at-requires-clause-wide : goal.pair_at-requires-clause-wide
pair_at-requires-clause-wide c = c.in-Some.ensures.wide c.in-Some.xy refl

pub pair_at-requires-clause-finite : goal.pair_at-requires-clause-finite
pair_at-requires-clause-finite c = c.in-Some.ensures.finite c.in-Some.xy refl

pub pair_at-requires-clause-early : goal.pair_at-requires-clause-early
pair_at-requires-clause-early c = subst (λ ps. c.args.i < length ps) (sym c.in-Some.ensures.points) c.requires

pub unreachable-requires : goal.unreachable-requires
unreachable-requires c = omega (arith, ap length c.in-None.ensures.points, c.requires)

pub returns-clause-point : goal.returns-clause-point
returns-clause-point c = ap (λ ps. slice_get ps c.args.i) (sym c.in-Some.ensures.points) ∙ c.pair_at.ensures.point
