use Rattle.wkb_writer.proofs.Wholes.{of_points}
use Rattle.wkb_writer.proofs.dimension.dimension_in.Goals as goal

pub returns-in-Of : goal.returns-in-Of
returns-in-Of g c = of_points (g.S.Shows.shown c.args.view.now) c.in-Of.dimension c.in-Of.ensures
