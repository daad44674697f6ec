use Rattle.table_records.specs.Reading.{bytes_left}
use Rattle.table_records.proofs.Turns.{starts}
use Rattle.table_records.proofs.records.Records.new.Goals as goal

pub returns : goal.returns
returns c =
    let reader = c.from_reader-reader.result in
    starts reader.state (bytes_left reader) c.args.table.now c.from_reader-reader.ensures.state c.from_reader-reader.ensures.source
