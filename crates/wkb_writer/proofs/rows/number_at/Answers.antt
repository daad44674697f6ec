use Rattle.wkb_writer.proofs.RowsAt.{number_there}
use Rattle.wkb_writer.proofs.rows.number_at.Goals as goal

pub returns-then-is_there : goal.returns-then-is_there
returns-then-is_there g c = number_there _ c.args.i c.number.result c.number.ensures
