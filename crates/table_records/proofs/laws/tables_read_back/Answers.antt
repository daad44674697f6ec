use Rattle.table_records.proofs.Marks.{reads-back}
use Rattle.table_records.proofs.laws.tables_read_back.Goals as goal

pub returns : goal.returns
returns c = reads-back
