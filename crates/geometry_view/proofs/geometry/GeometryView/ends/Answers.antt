use Rattle.geometry_view.proofs.ViewLists.{view_never_ends, view_rings}
use Rattle.geometry_view.proofs.geometry.GeometryView.ends.Goals as goal

pub unreachable-requires : goal.unreachable-requires
unreachable-requires c = view_never_ends c.args.self.now c.has_rings.result c.in-Err.field-0 c.has_rings.ensures c.in-Err.ensures

pub returns-clause-rings : goal.returns-clause-rings
returns-clause-rings c = view_rings c.args.self.now c.in-Ok.vector c.has_rings.result c.has_rings.ensures c.in-Ok.ensures.0
