use Rattle.command_words.specs.declared.format.Format.TheVariants.{Wkb}
use Rattle.convert_command.proofs.ReadInputs.{reads_none, reads_over, reads_stop}
use Rattle.convert_command.proofs.reading.read_shapes.Goals as goal

pub returns-in_err-shapes : goal.returns-in_err-shapes
returns-in_err-shapes g c =
    let left = c.in_err-shapes.ensures in
    reads_stop (g.S.RangeSource.seen c.args.file.now) (g.S.RangeSource.seen c.read_values.new.source) c.from_residual.result c.in_err-shapes.field-0.0 c.from_residual.ensures.1 left.refused left.only_faults left.failed

pub returns-in_err-file_over : goal.returns-in_err-file_over
returns-in_err-file_over g c = reads_none Wkb (g.S.RangeSource.seen c.args.file.now) (g.S.RangeSource.seen c.read_values.new.source) c.from_residual-in_err-file_over.result c.from_residual-in_err-file_over.ensures.1

pub returns : goal.returns
returns g c =
    let over = c.in_ok-file_over.ensures in
    reads_over (g.S.RangeSource.seen c.args.file.now) (g.S.RangeSource.seen c.read_values.new.source) c.in_ok-file_over.field-0 c.in_ok-shapes.shapes.items c.files_have_one_list.ensures c.in_ok-shapes.ensures.values c.in_ok-shapes.ensures.spelled over.header over.features over.sound
