use Rattle.csv.specs.Records.{fields_of}
use Rattle.table_records.proofs.Flexible.{laid-row}
use Rattle.table_records.proofs.lay.lay_record.Goals as goal

pub returns-clause-text : goal.returns-clause-text
returns-clause-text c = laid-row c.args.writer.now c.write_byte_record.new.self c.flush.new.self (fields_of c.args.row.now) c.requires c.in-Ok.ensures.bytes c.in-Ok-flush.ensures.bytes c.in-Ok-flush.ensures.pending
