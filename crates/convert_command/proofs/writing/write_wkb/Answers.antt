use Rattle.convert_command.proofs.WrittenInputs.{spells, spells_not}
use Rattle.convert_command.proofs.writing.write_wkb.Goals as goal

pub returns-in-Ok : goal.returns-in-Ok
returns-in-Ok g c =
    let left = c.in-Ok.ensures in
    spells c.args.owned.now c.deref.result.now c.deref-2.result.now c.deref.ensures.value c.deref-2.ensures.value (g.W.Sink.shown c.args.out.now) (g.W.Sink.shown c.write_values.new.out) tt left.written left.part

pub returns-in-Err : goal.returns-in-Err
returns-in-Err g c =
    let left = c.in-Err.ensures in
    spells_not c.args.owned.now c.deref.result.now c.deref-2.result.now c.deref.ensures.value c.deref-2.ensures.value (g.W.Sink.shown c.args.out.now) (g.W.Sink.shown c.write_values.new.out) c.values_stop.result
    c.in-Err.error c.values_stop.ensures left.refused left.unwritten left.part left.sink_failed
