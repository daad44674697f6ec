use Rattle.std.proofs.Common.{ap, refl, ◌∙◌}
use Rattle.fgb_schema.specs.Shapes.{box_of_points}
use Rattle.geometry_view.proofs.geometry.GeometryView.own_bounds.Goals as goal

pub box_of_pairs-requires-clause-wide : goal.box_of_pairs-requires-clause-wide
box_of_pairs-requires-clause-wide c = c.in-Some.ensures.wide c.in-Some.xy refl

pub box_of_pairs-requires-clause-finite : goal.box_of_pairs-requires-clause-finite
box_of_pairs-requires-clause-finite c = c.in-Some.ensures.finite c.in-Some.xy refl

pub returns-in-Some-clause-value : goal.returns-in-Some-clause-value
returns-in-Some-clause-value c = c.box_of_pairs.ensures.value ∙ ap box_of_points c.in-Some.ensures.points

pub returns-in-None-clause-value : goal.returns-in-None-clause-value
returns-in-None-clause-value c = c.empty.ensures.value ∙ ap box_of_points c.in-None.ensures.points
