use Rattle.std.proofs.Common.{sym, ap, ◌∙◌}
use Rattle.std.specs.Option.{option_map}
use Rattle.command_words.specs.Asking.{comparison_in, input_in}
use Rattle.command_words.specs.Requests.{query}
use Rattle.fgb_tool.proofs.Running.{Queried, does_query}
use Rattle.fgb_tool.proofs.Filtering.{Filtered, does_where}
use Rattle.fgb_tool.proofs.query.answer_query.Goals as goal

pub returns-in-None-clause-does : goal.returns-in-None-clause-does
returns-in-None-clause-does g c = λ request same.
    let left = c.write_found-written.ensures in let sought = c.args.sought.now in
    let queried : Queried sought.boxes sought.gap sought.output (g.S.RangeSource.seen c.args.file.now) (g.S.RangeSource.seen c.write_found-written.new.file) (g.W.Sink.shown c.args.out.now) (g.W.Sink.shown c.write_found-written.new.out) c.write_found-written.result = record {
      headline = left.headline;
      headline_part = left.headline_part;
      done = left.done;
      sound = left.sound;
      refused = left.refused;
      unrefused = left.unrefused;
      part = left.part;
      large = left.large;
      large_done = left.large_done;
      large_file = left.large_file;
      declared = left.declared;
      search = left.search;
      front = left.front;
      failed = left.failed;
      sink_failed = left.sink_failed;
    } in
    does_query _ _ _ _ _ _ _ c.map_err.result c.status_of.ensures (input_in sought.file) sought.boxes sought.gap sought.output request c.write_found-written.result c.map_err.ensures.cases queried
    (ap (λ condition. query (input_in sought.file) sought.boxes sought.gap (option_map comparison_in condition) sought.output) (sym c.in-None.is) ∙ same)

pub returns-in-Some-clause-does : goal.returns-in-Some-clause-does
returns-in-Some-clause-does g c = λ request same.
    let left = c.write_where-written.ensures in let sought = c.args.sought.now in
    let filtered : Filtered sought.boxes sought.gap c.in-Some.condition sought.output (g.S.RangeSource.seen c.args.file.now) (g.S.RangeSource.seen c.write_where-written.new.file) (g.W.Sink.shown c.args.out.now) (g.W.Sink.shown c.write_where-written.new.out) c.write_where-written.result = record {
      headline = left.headline;
      headline_part = left.headline_part;
      done = left.done;
      sound = left.sound;
      refused = left.refused;
      unrefused = left.unrefused;
      part = left.part;
      broken_condition = left.broken_condition;
      large = left.large;
      large_done = left.large_done;
      large_file = left.large_file;
      declared = left.declared;
      search = left.search;
      front = left.front;
      failed = left.failed;
      sink_failed = left.sink_failed;
    } in
    does_where _ _ _ _ _ _ _ c.map_err-in-Some.result c.status_of-in-Some.ensures (input_in sought.file) sought.boxes sought.gap c.in-Some.condition sought.output request c.write_where-written.result c.map_err-in-Some.ensures.cases filtered
    (ap (λ condition. query (input_in sought.file) sought.boxes sought.gap (option_map comparison_in condition) sought.output) (sym c.in-Some.is) ∙ same)
