use Rattle.geometry_view.proofs.ViewLists.{view_clean, view_never_parts, view_parts}
use Rattle.geometry_view.proofs.geometry.GeometryView.tables.Goals as goal

pub unreachable-requires : goal.unreachable-requires
unreachable-requires c = view_never_parts c.args.self.now c.has_parts.result c.in-Err.field-0 c.has_parts.ensures c.in-Err.ensures

pub returns-clause-parts : goal.returns-clause-parts
returns-clause-parts c = view_parts c.args.self.now c.in-Ok.tables c.has_parts.result c.has_parts.ensures c.in-Ok.ensures.0

pub returns-clause-clean : goal.returns-clause-clean
returns-clause-clean c = view_clean c.args.self.now c.in-Ok.tables c.has_parts.result c.has_parts.ensures c.in-Ok.ensures.0
