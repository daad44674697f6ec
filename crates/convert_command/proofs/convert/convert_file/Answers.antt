use Rattle.std.proofs.Common.{refl}
use Rattle.convert_command.specs.Conversions.{nothing}
use Rattle.convert_command.proofs.Composing as composing
use Rattle.convert_command.proofs.Stopping as stopping
use Rattle.convert_command.proofs.convert.convert_file.Goals as goal

pub returns-in-Ok-clause-done : goal.returns-in-Ok-clause-done
returns-in-Ok-clause-done g c =
    composing.done c.args.from c.args.to (g.S.RangeSource.seen c.args.file.now) (g.S.RangeSource.seen c.read_input.new.file) c.in-Ok.owned (g.W.Sink.shown c.args.out.now) (g.W.Sink.shown c.write_input.new.out) c.write_input.result c.in-Ok.ensures c.write_input.ensures

pub returns-in-Ok-clause-laid : goal.returns-in-Ok-clause-laid
returns-in-Ok-clause-laid g c =
    composing.laid c.args.from c.args.to (g.S.RangeSource.seen c.args.file.now) (g.S.RangeSource.seen c.read_input.new.file) c.in-Ok.owned (g.W.Sink.shown c.args.out.now) (g.W.Sink.shown c.write_input.new.out) c.write_input.result c.in-Ok.ensures c.write_input.ensures

pub returns-in-Ok-clause-refused : goal.returns-in-Ok-clause-refused
returns-in-Ok-clause-refused g c =
    composing.refused c.args.from c.args.to (g.S.RangeSource.seen c.args.file.now) (g.S.RangeSource.seen c.read_input.new.file) c.in-Ok.owned (g.W.Sink.shown c.args.out.now) (g.W.Sink.shown c.write_input.new.out) c.write_input.result c.in-Ok.ensures c.write_input.ensures

pub returns-in-Ok-clause-too_large : goal.returns-in-Ok-clause-too_large
returns-in-Ok-clause-too_large g c =
    composing.too_large c.args.from c.args.to (g.S.RangeSource.seen c.args.file.now) (g.S.RangeSource.seen c.read_input.new.file) c.in-Ok.owned (g.W.Sink.shown c.args.out.now) (g.W.Sink.shown c.write_input.new.out) c.write_input.result c.in-Ok.ensures c.write_input.ensures

pub returns-in-Ok-clause-large_none : goal.returns-in-Ok-clause-large_none
returns-in-Ok-clause-large_none g c =
    composing.large_none c.args.from c.args.to (g.S.RangeSource.seen c.args.file.now) (g.S.RangeSource.seen c.read_input.new.file) c.in-Ok.owned (g.W.Sink.shown c.args.out.now) (g.W.Sink.shown c.write_input.new.out) c.write_input.result c.in-Ok.ensures c.write_input.ensures

pub returns-in-Ok-clause-valueless_none : goal.returns-in-Ok-clause-valueless_none
returns-in-Ok-clause-valueless_none g c =
    composing.valueless_none c.args.from c.args.to (g.S.RangeSource.seen c.args.file.now) (g.S.RangeSource.seen c.read_input.new.file) c.in-Ok.owned (g.W.Sink.shown c.args.out.now) (g.W.Sink.shown c.write_input.new.out) c.write_input.result c.in-Ok.ensures c.write_input.ensures

pub returns-in-Ok-clause-broken : goal.returns-in-Ok-clause-broken
returns-in-Ok-clause-broken g c =
    composing.broken c.args.from c.args.to (g.S.RangeSource.seen c.args.file.now) (g.S.RangeSource.seen c.read_input.new.file) c.in-Ok.owned (g.W.Sink.shown c.args.out.now) (g.W.Sink.shown c.write_input.new.out) c.write_input.result c.in-Ok.ensures c.write_input.ensures

pub returns-in-Ok-clause-part : goal.returns-in-Ok-clause-part
returns-in-Ok-clause-part g c =
    composing.part c.args.from c.args.to (g.S.RangeSource.seen c.args.file.now) (g.S.RangeSource.seen c.read_input.new.file) c.in-Ok.owned (g.W.Sink.shown c.args.out.now) (g.W.Sink.shown c.write_input.new.out) c.write_input.result c.in-Ok.ensures c.write_input.ensures

pub returns-in-Ok-clause-accepted : goal.returns-in-Ok-clause-accepted
returns-in-Ok-clause-accepted g c =
    composing.accepted c.args.from c.args.to (g.S.RangeSource.seen c.args.file.now) (g.S.RangeSource.seen c.read_input.new.file) c.in-Ok.owned (g.W.Sink.shown c.args.out.now) (g.W.Sink.shown c.write_input.new.out) c.write_input.result c.in-Ok.ensures c.write_input.ensures

pub returns-in-Ok-clause-unrefused : goal.returns-in-Ok-clause-unrefused
returns-in-Ok-clause-unrefused g c =
    composing.unrefused c.args.from c.args.to (g.S.RangeSource.seen c.args.file.now) (g.S.RangeSource.seen c.read_input.new.file) c.in-Ok.owned (g.W.Sink.shown c.args.out.now) (g.W.Sink.shown c.write_input.new.out) c.write_input.result c.in-Ok.ensures c.write_input.ensures

pub returns-in-Ok-clause-unwritten : goal.returns-in-Ok-clause-unwritten
returns-in-Ok-clause-unwritten g c = c.write_input.ensures.unwritten

pub returns-in-Ok-clause-failed : goal.returns-in-Ok-clause-failed
returns-in-Ok-clause-failed g c = λ is. absurd (c.write_input.ensures.unfailed is)

pub returns-in-Ok-clause-sink_failed : goal.returns-in-Ok-clause-sink_failed
returns-in-Ok-clause-sink_failed g c = c.write_input.ensures.sink_failed

pub returns-in-Err-clause-refused : goal.returns-in-Err-clause-refused
returns-in-Err-clause-refused g c = stopping.refused c.args.from c.args.to (g.S.RangeSource.seen c.args.file.now) (g.S.RangeSource.seen c.read_input.new.file) c.read_stop.result c.in-Err.stop c.read_stop.ensures c.in-Err.ensures

pub returns-in-Err-clause-unwritten : goal.returns-in-Err-clause-unwritten
returns-in-Err-clause-unwritten g c = stopping.whatever c.read_stop.result _ (λ _. refl)

pub returns-in-Err-clause-too_large : goal.returns-in-Err-clause-too_large
returns-in-Err-clause-too_large g c = λ is. absurd (stopping.no_large c.args.from c.args.to (g.S.RangeSource.seen c.args.file.now) (g.S.RangeSource.seen c.read_input.new.file) c.read_stop.result c.in-Err.stop c.read_stop.ensures is)

pub returns-in-Err-clause-large_none : goal.returns-in-Err-clause-large_none
returns-in-Err-clause-large_none g c = λ image told input is fgb room. (refl, tt)

pub returns-in-Err-clause-valueless_none : goal.returns-in-Err-clause-valueless_none
returns-in-Err-clause-valueless_none g c = λ image told input is wkb none. (refl, tt)

pub returns-in-Err-clause-broken : goal.returns-in-Err-clause-broken
returns-in-Err-clause-broken g c = λ image told none. (refl, tt)

pub returns-in-Err-clause-part : goal.returns-in-Err-clause-part
returns-in-Err-clause-part g c = λ image told input is. nothing refl

pub returns-in-Err-clause-accepted : goal.returns-in-Err-clause-accepted
returns-in-Err-clause-accepted g c = λ image told input is can. stopping.accepted c.args.from c.args.to (g.S.RangeSource.seen c.args.file.now) (g.S.RangeSource.seen c.read_input.new.file) c.read_stop.result c.in-Err.stop c.read_stop.ensures c.in-Err.ensures image told input is

pub returns-in-Err-clause-unrefused : goal.returns-in-Err-clause-unrefused
returns-in-Err-clause-unrefused g c = λ image told input is fgb. stopping.unrefused c.args.from c.args.to (g.S.RangeSource.seen c.args.file.now) (g.S.RangeSource.seen c.read_input.new.file) c.read_stop.result c.in-Err.stop c.read_stop.ensures c.in-Err.ensures image told input is

pub returns-in-Err-clause-failed : goal.returns-in-Err-clause-failed
returns-in-Err-clause-failed g c = stopping.failed c.args.from c.args.to (g.S.RangeSource.seen c.args.file.now) (g.S.RangeSource.seen c.read_input.new.file) c.read_stop.result c.in-Err.stop c.read_stop.ensures c.in-Err.ensures

pub returns-in-Err-clause-sink_failed : goal.returns-in-Err-clause-sink_failed
returns-in-Err-clause-sink_failed g c = λ is. absurd (stopping.no_sink c.args.from c.args.to (g.S.RangeSource.seen c.args.file.now) (g.S.RangeSource.seen c.read_input.new.file) c.read_stop.result c.in-Err.stop c.read_stop.ensures is)
