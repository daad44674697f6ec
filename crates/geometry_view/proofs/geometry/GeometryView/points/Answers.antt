use Rattle.std.proofs.Common.{◌/◌, length, sym, ap, ◌∙◌}
use Rattle.geometry_view.proofs.OwnNumbers.{pairs_count}
use Rattle.geometry_view.proofs.geometry.GeometryView.points.Goals as goal

pub returns-in-Some : goal.returns-in-Some
returns-in-Some c = ap (λ n. n / 2) c.len.ensures ∙ sym (pairs_count c.in-Some.xy) ∙ ap length c.in-Some.ensures.points
