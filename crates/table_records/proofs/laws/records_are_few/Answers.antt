use Rattle.table_records.proofs.Turns.{few}
use Rattle.table_records.proofs.laws.records_are_few.Goals as goal

pub returns : goal.returns
returns c = few
