use Rattle.flat_views.specs.Tables.{base_of, bytes_of, place_of}
use Rattle.geometry_view.proofs.OwnType.{kind_shown, kind_unknown}
use Rattle.geometry_view.proofs.read.kind_under.Goals as goal

pub returns-in-Some : goal.returns-in-Some
returns-in-Some c = kind_shown (bytes_of c.args.table) (place_of c.args.table) c.args.outer c.in-Some.kind c.in_ok-number.number c.args.table.sound c.in_ok-number.ensures.0 c.in_ok-number.ensures.1 c.in-Some.ensures

pub returns-in-None : goal.returns-in-None
returns-in-None c = kind_unknown (base_of c.args.table) (bytes_of c.args.table) (place_of c.args.table) c.args.outer c.in_ok-number.number c.args.table.sound c.in_ok-number.ensures.0 c.in_ok-number.ensures.1 c.in-None.ensures c.place.result c.place.ensures
