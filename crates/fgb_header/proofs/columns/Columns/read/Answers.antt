use Rattle.fgb_header.proofs.Entries.{some_clean}
use Rattle.fgb_header.proofs.columns.Columns.read.Goals as goal

pub invariant_of-result-2 : goal.invariant_of-result-2
invariant_of-result-2 c = record { clean = some_clean c.in-Some.tables c.in_ok-read_all.ensures.goes.1 }
