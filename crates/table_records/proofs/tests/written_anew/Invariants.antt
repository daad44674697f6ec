use Rattle.std.proofs.Common.{◌≡◌, ◌++◌, length}
use Rattle.table_records.specs.Tables.{records_in, table_text}
use Rattle.table_records.proofs.tests.written_anew.Given as goal

abbrev pub invariant-loop-page : goal.invariant-loop-page
invariant-loop-page l = l.page ++ table_text l.records ≡ table_text (records_in l.fn.table)

abbrev pub decreases-loop-page : goal.decreases-loop-page
decreases-loop-page l = length l.records
