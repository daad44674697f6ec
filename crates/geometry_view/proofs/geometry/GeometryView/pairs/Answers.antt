use Rattle.geometry_view.proofs.ViewLists.{view_finite, view_points}
use Rattle.geometry_view.proofs.geometry.GeometryView.pairs.Goals as goal

pub returns-clause-points : goal.returns-clause-points
returns-clause-points c = view_points c.args.self.now c.numbers.result c.numbers.ensures.shows

pub returns-clause-finite : goal.returns-clause-finite
returns-clause-finite c = view_finite c.args.self.now c.numbers.result c.numbers.ensures.shows
