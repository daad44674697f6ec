use Rattle.geometry_view.proofs.ViewLists.{view_never_points}
use Rattle.geometry_view.proofs.geometry.GeometryView.numbers.Goals as goal

pub unreachable-requires : goal.unreachable-requires
unreachable-requires c = view_never_points c.args.self.now c.has_points.result c.in-Err.field-0 c.has_points.ensures c.args.field c.requires.first c.requires.last c.in-Err.ensures
