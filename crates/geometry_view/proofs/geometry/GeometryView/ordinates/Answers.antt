use Rattle.fgb_schema.specs.Shapes.{ordinates_in}
use Rattle.geometry_view.specs.Views.{geometry_shown}
use Rattle.geometry_view.proofs.OwnNumbers.{filled_ordinate}
use Rattle.geometry_view.proofs.ViewLists.{view_ordinates}
use Rattle.geometry_view.proofs.geometry.GeometryView.ordinates.Goals as goal

pub returns : goal.returns
returns c =
    let g = c.args.self.now in
    filled_ordinate c.args.which (ordinates_in (geometry_shown g)) c.numbers.result c.filled.result (view_ordinates g c.numbers.result c.args.which c.field.result c.field.ensures c.numbers.ensures.shows) c.filled.ensures c.numbers.ensures.wide
