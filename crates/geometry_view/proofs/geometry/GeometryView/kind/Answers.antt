use Rattle.std.proofs.Common.{sym}
use Rattle.geometry_view.proofs.ViewLists.{view_type}
use Rattle.geometry_view.proofs.geometry.GeometryView.kind.Goals as goal

pub returns : goal.returns
returns c = sym (view_type c.args.self.now)
