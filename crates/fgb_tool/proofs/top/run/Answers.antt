use Rattle.std.proofs.Common.{refl, sym, ap, ◌∙◌}
use Rattle.command_words.specs.Asking.{input_in, request_of}
use Rattle.fgb_tool.proofs.Running.{Checked, does_check, Packed, does_pack}
use Rattle.fgb_tool.proofs.Converting.{Converted, does_convert}
use Rattle.fgb_tool.proofs.Making.{Made, does_make}
use Rattle.fgb_tool.proofs.top.run.Goals as goal

pub returns-in-Some-Query-clause-does : goal.returns-in-Some-Query-clause-does
returns-in-Some-Query-clause-does g c = λ request asks done.
    (c.answer_query.ensures.status, c.answer_query.ensures.does request (ap request_of (sym c.in-Some-Query.field-0-is) ∙ c.in-Some-Query.ensures.only request asks))

pub returns-in-Some-Check-clause-does : goal.returns-in-Some-Check-clause-does
returns-in-Some-Check-clause-does g c = λ request asks done.
    let left = c.check_file.ensures in let file = input_in c.in-Some-Check.field-0-0 in
    let checked : Checked (g.S.RangeSource.seen c.args.file.now) (g.S.RangeSource.seen c.check_file.new.file) (g.W.Sink.shown c.args.out.now) (g.W.Sink.shown c.check_file.new.out) c.check_file.result = record {
      done = left.done;
      refused = left.refused;
      declared = left.declared;
      asked = left.asked;
      front = left.front;
      failed = left.failed;
      sink_failed = left.sink_failed;
      wrote = left.wrote;
      part = left.part;
      broken = left.broken;
      unwritten = left.unwritten;
      unread = left.unread;
      never_large = left.never_large;
    } in
    does_check _ _ _ _ _ _ _ c.check_file.result c.status_of.ensures file request checked (ap request_of (sym c.in-Some-Check.field-0-is) ∙ c.in-Some-Check.ensures.only request asks)

pub returns-in-Some-Pack-clause-does : goal.returns-in-Some-Pack-clause-does
returns-in-Some-Pack-clause-does g c = λ request asks done.
    let left = c.pack_file.ensures in let packing = c.in-Some-Pack.packing in
    let packed : Packed packing.node_size (g.S.RangeSource.seen c.args.file.now) (g.S.RangeSource.seen c.pack_file.new.file) (g.W.Sink.shown c.args.out.now) (g.W.Sink.shown c.pack_file.new.out) c.pack_file.result = record {
      done = left.done;
      refused = left.refused;
      unwritten = left.unwritten;
      too_large = left.too_large;
      part = left.part;
      large_none = left.large_none;
      broken = left.broken;
      failed = left.failed;
      sink_failed = left.sink_failed;
    } in
    does_pack _ _ _ _ _ _ _ c.pack_file.result c.status_of-in-Some-Pack.ensures (input_in packing.file) packing.node_size request packed (ap request_of (sym c.in-Some-Pack.field-0-is) ∙ c.in-Some-Pack.ensures.only request asks)

pub returns-in-Some-Convert-clause-does : goal.returns-in-Some-Convert-clause-does
returns-in-Some-Convert-clause-does g c = λ request asks done.
    let left = c.convert_file-done.ensures in let converting = c.in-Some-Convert.converting in
    let converted : Converted converting.from converting.to (g.S.RangeSource.seen c.args.file.now) (g.S.RangeSource.seen c.convert_file-done.new.file) (g.W.Sink.shown c.args.out.now) (g.W.Sink.shown c.convert_file-done.new.out) c.convert_file-done.result = record {
      done = left.done;
      laid = left.laid;
      refused = left.refused;
      unwritten = left.unwritten;
      too_large = left.too_large;
      large_none = left.large_none;
      valueless_none = left.valueless_none;
      broken = left.broken;
      part = left.part;
      accepted = left.accepted;
      unrefused = left.unrefused;
      failed = left.failed;
      sink_failed = left.sink_failed;
    } in
    does_convert _ _ _ _ _ _ _ c.convert_file-done.result c.status_of-in-Some-Convert.ensures (input_in converting.file) converting.from converting.to request converted
    (ap request_of (sym c.in-Some-Convert.field-0-is) ∙ c.in-Some-Convert.ensures.only request asks)

pub returns-in-Some-Make-clause-does : goal.returns-in-Some-Make-clause-does
returns-in-Some-Make-clause-does g c = λ request asks done.
    let left = c.make_text.ensures in let making = c.in-Some-Make.making in
    let made : Made making.count making.start (g.W.Sink.shown c.args.out.now) (g.W.Sink.shown c.make_text.new.out) c.make_text.result = record {
      done = left.done;
      part = left.part;
      own = left.own;
      sink_failed = left.sink_failed;
    } in
    does_make _ _ _ _ _ _ _ c.make_text.result c.status_of-in-Some-Make.ensures making.count making.start request made refl
    (ap request_of (sym c.in-Some-Make.field-0-is) ∙ c.in-Some-Make.ensures.only request asks)

pub returns-in-None-clause-usage : goal.returns-in-None-clause-usage
returns-in-None-clause-usage g c = λ two request asks run. absurd (c.in-None.ensures.only request asks)

pub returns-in-None-clause-does : goal.returns-in-None-clause-does
returns-in-None-clause-does g c = λ request asks run. absurd (c.in-None.ensures.only request asks)
