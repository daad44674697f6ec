use Rattle.convert_command.proofs.WrittenInputs.{lays, lays_not}
use Rattle.convert_command.proofs.writing.write_file.Goals as goal

pub returns-in-Ok : goal.returns-in-Ok
returns-in-Ok g c =
    let left = c.in-Ok.ensures in
    lays c.args.owned.now c.deref.result.now c.deref.ensures.value (g.W.Sink.shown c.args.out.now) (g.W.Sink.shown c.lay_plain.new.out) tt c.in-Ok.field-0 left.laid left.fits left.part

pub returns-in-Err : goal.returns-in-Err
returns-in-Err g c =
    let left = c.in-Err.ensures in
    lays_not c.args.owned.now c.deref.result.now c.deref.ensures.value (g.W.Sink.shown c.args.out.now) (g.W.Sink.shown c.lay_plain.new.out) c.lay_stop.result c.in-Err.error c.lay_stop.ensures left.own
    left.too_large left.large_none left.part left.sink_failed
