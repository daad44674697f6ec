use Rattle.fgb_schema.specs.Shapes.{ordinates_in, points_in}
use Rattle.wkb_writer.proofs.RowsAt.{row_at}
use Rattle.wkb_writer.proofs.rows.Row.at.Goals as goal

pub returns : goal.returns
returns g c =
    let s = g.S.Shows.shown c.args.view.now in let xy = c.xy-x.result in
    row_at xy.0 xy.1 c.number_at.result c.number_at-2.result (points_in s) (ordinates_in s).z (ordinates_in s).m c.args.i c.xy-x.ensures c.number_at.ensures c.number_at-2.ensures
