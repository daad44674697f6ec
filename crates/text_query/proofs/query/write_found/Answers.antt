-- The query is of a visitor that writes through the caller's sink; what it left goes with what `finish` wrote.
use Rattle.std.proofs.Common.{◌≡◌, refl, ap, sym, rules}
use Rattle.text_query.specs.declared.writer.Writer.{Writer}
use Rattle.box_query.specs.declared.source.QueryDone.{QueryDone}
use Rattle.text_query.specs.Steps.{state_of}
use Rattle.text_query.proofs.Writing.{visits_same}
use Rattle.text_query.proofs.Answering.{Queried, Visiting, Finishing, queried, queried_at}
use Rattle.text_query.proofs.query.write_found.Given.{Over}
use Rattle.text_query.proofs.query.write_found.Goals as goal

promised : (g : Over) (c : goal.After-drop-page g) (out : g.row.W.Denot) → out ≡ c.finish.new.out
    → Queried c.args.boxes.now c.args.gap c.args.output (g.S.RangeSource.seen c.args.file.now) (g.S.RangeSource.seen c.query-asked.new.source) (g.W.Sink.shown c.args.out.now) (g.W.Sink.shown out) c.finish.result
promised g c out closes =
    let asked = c.query-asked.ensures in let ended = c.finish.ensures in let law = c.searches_are_scans.ensures in
    let v = c.new-writer.result in let w = c.query-asked.new.visitor in
    let name = λ (x : Writer g.row.W.Denot). x.out.ghost_name in
    let state = λ (x : Writer g.row.W.Denot). state_of (g.W.Sink.shown x.out.now) x in
    let count = λ (d : QueryDone). d.found in
    let visiting : Visiting name state count c.args.boxes.now c.args.gap v w (g.S.RangeSource.seen c.args.file.now) (g.S.RangeSource.seen c.query-asked.new.source) c.query-asked.result = record {
      done = asked.done;
      needed = asked.needed;
      all = asked.all;
      part = asked.part;
      needed_part = asked.needed_part;
      refused = asked.refused;
      visits = asked.visits;
      stopped = asked.stopped;
    } in
    let finishing : Finishing c.query-asked.result (state w).wide (state w).sink (g.W.Sink.shown c.finish.new.out) (state w).page c.finish.result = record {
      done = ended.done;
      refused = ended.refused;
      part = ended.part;
      sink_failed = ended.sink_failed;
      idle = ended.idle;
      large = ended.large;
      too_wide = ended.wide;
      later = ended.later;
    } in
    queried_at c.args.boxes.now c.args.gap _ _ _ _ _ _ _ _ c.finish.result c.new-writer.ensures.output c.new-writer.ensures.out (sym (ap g.W.Sink.shown closes))
    (queried name state count c.args.boxes.now c.args.gap v w _ _ c.query-asked.result _ c.finish.result visiting finishing c.new-writer.ensures.empty c.new-writer.ensures.fits c.new-writer.ensures.starts law.whole law.part law.never law.first)

-- the writer still holds the caller's reference
kept : (g : Over) (c : goal.After-drop-page g) → c.query-asked.new.visitor.out.ghost_name ≡ c.new-writer.result.out.ghost_name
kept g c =
    let name = λ (x : Writer g.row.W.Denot). x.out.ghost_name in
    let state = λ (x : Writer g.row.W.Denot). state_of (g.W.Sink.shown x.out.now) x in
    visits_same name state c.new-writer.result c.query-asked.new.visitor c.query-asked.ensures.visits

pub returns-clause-headline : goal.returns-clause-headline
returns-clause-headline g c = (promised g c _ (search (rules, kept g c))).headline

pub returns-clause-headline_part : goal.returns-clause-headline_part
returns-clause-headline_part g c = (promised g c _ (search (rules, kept g c))).headline_part

pub returns-clause-done : goal.returns-clause-done
returns-clause-done g c = (promised g c _ (search (rules, kept g c))).done

pub returns-clause-refused : goal.returns-clause-refused
returns-clause-refused g c = (promised g c _ (search (rules, kept g c))).refused

pub returns-clause-part : goal.returns-clause-part
returns-clause-part g c = (promised g c _ (search (rules, kept g c))).part

pub returns-clause-large_done : goal.returns-clause-large_done
returns-clause-large_done g c = (promised g c _ (search (rules, kept g c))).large_done

pub returns-clause-sink_failed : goal.returns-clause-sink_failed
returns-clause-sink_failed g c = (promised g c _ (search (rules, kept g c))).sink_failed

pub returns-clause-large : goal.returns-clause-large
returns-clause-large g c = (promised g c _ (search (rules, kept g c))).large

pub returns-clause-unrefused : goal.returns-clause-unrefused
returns-clause-unrefused g c = (promised g c c.finish.new.out refl).unrefused

pub returns-clause-sound : goal.returns-clause-sound
returns-clause-sound g c = (promised g c c.finish.new.out refl).sound

pub returns-clause-large_file : goal.returns-clause-large_file
returns-clause-large_file g c = (promised g c c.finish.new.out refl).large_file
