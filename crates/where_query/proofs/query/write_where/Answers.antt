-- The query is of a visitor with the condition around a writer; what the writer left goes with what `end` wrote.
use Rattle.std.proofs.Common.{◌≡◌, refl, ap, sym, subst, ◌∙◌, rules}
use Rattle.text_query.specs.declared.writer.Writer.{Writer}
use Rattle.box_query.specs.declared.source.QueryDone.{QueryDone}
use Rattle.text_query.specs.Steps.{state_of}
use Rattle.text_query.proofs.Writing.{Start, FailStart, Step, FailStep, visits_same}
use Rattle.where_query.proofs.Inside.{visits_inside, is_new}
use Rattle.where_query.proofs.Answering.{Queried, Visiting, Ending, queried, queried_at}
use Rattle.where_query.proofs.query.write_where.Given.{Over}
use Rattle.where_query.proofs.query.write_where.Goals as goal

promised : (g : Over) (c : goal.After-drop-page g) (out : g.row.W.Denot) → out ≡ c.end.new.out
    → Queried c.args.boxes.now c.args.gap c.args.condition c.args.output (g.S.RangeSource.seen c.args.file.now) (g.S.RangeSource.seen c.query-asked.new.source) (g.W.Sink.shown c.args.out.now) (g.W.Sink.shown out) c.end.result
promised g c out closes =
    let asked = c.query-asked.ensures in let ended = c.end.ensures in let law = c.searches_are_scans.ensures in
    let v = c.new-visitor.result in let w = c.query-asked.new.visitor in let inner = c.into_inner-out.result in
    let name = λ (x : Writer g.row.W.Denot). x.out.ghost_name in
    let state = λ (x : Writer g.row.W.Denot). state_of (g.W.Sink.shown x.out.now) x in
    let count = λ (d : QueryDone). d.found in
    let last = g.W.Sink.shown c.end.new.out in
    let new = is_new v c.args.condition c.new.result c.new-visitor.ensures in
    let visiting : Visiting name state count c.args.boxes.now c.args.gap v w (g.S.RangeSource.seen c.args.file.now) (g.S.RangeSource.seen c.query-asked.new.source) c.query-asked.result = record {
      done = asked.done;
      needed = asked.needed;
      all = asked.all;
      part = asked.part;
      needed_part = asked.needed_part;
      refused = asked.refused;
      visits = asked.visits;
      stopped = asked.stopped;
    } in
    let ended_so : Ending c.refused-refused.result c.query-asked.result (state inner).wide (state inner).sink last (state inner).page c.end.result = record {
      condition = ended.condition;
      done = ended.done;
      refusal = ended.refused;
      part = ended.part;
      sink_failed = ended.sink_failed;
      idle = ended.idle;
      large = ended.large;
      too_wide = ended.wide;
      later = ended.later;
    } in
    let ending : Ending w.refused c.query-asked.result (state w.inner).wide (state w.inner).sink last (state w.inner).page c.end.result =
    subst (λ x. Ending w.refused c.query-asked.result (state x).wide (state x).sink last (state x).page c.end.result) c.into_inner-out.ensures
    (subst (λ r. Ending r c.query-asked.result (state inner).wide (state inner).sink last (state inner).page c.end.result) c.refused-refused.ensures ended_so) in
    queried_at c.args.boxes.now c.args.gap _ _ _ _ _ _ _ _ _ _ c.end.result new.condition
    (ap (λ x. (state x).output) new.inner ∙ c.new.ensures.output)
    (ap (λ x. (state x).sink) new.inner ∙ c.new.ensures.out)
    (sym (ap g.W.Sink.shown closes))
    (queried name state count c.args.boxes.now c.args.gap v w _ _ c.query-asked.result last c.end.result visiting ending
    (ap (λ x. (state x).page) new.inner ∙ c.new.ensures.empty)
    (ap (λ x. (state x).wide) new.inner ∙ c.new.ensures.fits)
    (ap (λ x. (state x).stops) new.inner ∙ c.new.ensures.starts)
    new.refused new.refusals law.whole law.part law.never law.first)

-- the writer still holds the caller's reference
kept : (g : Over) (c : goal.After-drop-page g) → c.into_inner-out.result.out.ghost_name ≡ c.new.result.out.ghost_name
kept g c =
    let name = λ (x : Writer g.row.W.Denot). x.out.ghost_name in
    let state = λ (x : Writer g.row.W.Denot). state_of (g.W.Sink.shown x.out.now) x in
    let v = c.new-visitor.result in let w = c.query-asked.new.visitor in
    ap name c.into_inner-out.ensures
    ∙ visits_same name state v.inner w.inner (visits_inside (Start name state) (FailStart name state) (Step name state) (FailStep name state) v w c.query-asked.ensures.visits)
    ∙ ap name (is_new v c.args.condition c.new.result c.new-visitor.ensures).inner

pub returns-clause-headline : goal.returns-clause-headline
returns-clause-headline g c = (promised g c _ (search (rules, kept g c))).headline

pub returns-clause-headline_part : goal.returns-clause-headline_part
returns-clause-headline_part g c = (promised g c _ (search (rules, kept g c))).headline_part

pub returns-clause-done : goal.returns-clause-done
returns-clause-done g c = (promised g c _ (search (rules, kept g c))).done

pub returns-clause-refused : goal.returns-clause-refused
returns-clause-refused g c = (promised g c _ (search (rules, kept g c))).refused

pub returns-clause-part : goal.returns-clause-part
returns-clause-part g c = (promised g c _ (search (rules, kept g c))).part

pub returns-clause-broken_condition : goal.returns-clause-broken_condition
returns-clause-broken_condition g c = (promised g c _ (search (rules, kept g c))).broken_condition

pub returns-clause-large_done : goal.returns-clause-large_done
returns-clause-large_done g c = (promised g c _ (search (rules, kept g c))).large_done

pub returns-clause-sink_failed : goal.returns-clause-sink_failed
returns-clause-sink_failed g c = (promised g c _ (search (rules, kept g c))).sink_failed

pub returns-clause-large : goal.returns-clause-large
returns-clause-large g c = (promised g c _ (search (rules, kept g c))).large

pub returns-clause-unrefused : goal.returns-clause-unrefused
returns-clause-unrefused g c = (promised g c c.end.new.out refl).unrefused

pub returns-clause-sound : goal.returns-clause-sound
returns-clause-sound g c = (promised g c c.end.new.out refl).sound

pub returns-clause-large_file : goal.returns-clause-large_file
returns-clause-large_file g c = (promised g c c.end.new.out refl).large_file
