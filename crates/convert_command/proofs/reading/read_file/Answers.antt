use Rattle.convert_command.proofs.ReadInputs.{reads_file}
use Rattle.convert_command.proofs.reading.read_file.Goals as goal

pub returns : goal.returns
returns g c =
    let left = c.read_features.ensures in
    reads_file (g.S.RangeSource.seen c.args.file.now) (g.S.RangeSource.seen c.read_features.new.source) c.read_features.result left.owns left.valid left.sound left.refused left.failed
