use Rattle.std.proofs.Common.{arith, rules}
use Rattle.read_stop.proofs.Stopping.{on_err}
use Rattle.found_features.proofs.Taking.{some_nothing, some_then, handed_some, handed_then}
use Rattle.hit_reader.proofs.Refusing.{refused_both, on_err_told}
use Rattle.hit_reader.proofs.Rising.{rises_then_part}
use Rattle.hit_reader.proofs.Running.{hit_at, runs_none, runs_more, run_part, run_refused, run_front, run_none, run_hands, run_reads}
use Rattle.hit_reader.proofs.run.take_run.Goals as goal

pub loop-hit-init : goal.loop-hit-init
loop-hit-init g c = record {
  runs = runs_none g.V.Visitor.step g.V.Visitor.failed_step c.args.section.now c.args.run.now c.known_until-until.result c.args.window.now (g.S.RangeSource.seen c.args.source.now) c.args.visitor.now c.requires.none c.requires.over;
  later = search rules;
  takes = some_nothing g.V.Visitor.step _;
  tells = search rules;
}

pub returns-in_err-take_hit-clause-part : goal.returns-in_err-take_hit-clause-part
returns-in_err-take_hit-clause-part g c = let i = c.loop-hit.hit-index in
    on_err_told c.from_residual.result (g.S.RangeSource.seen c.args.source.now) _
    (run_part g.V.Visitor.step g.V.Visitor.failed_step c.args.section.now c.args.run.now _ c.args.window.now (g.S.RangeSource.seen c.args.source.now) _ c.requires.none i _ _ _ c.loop-hit.invariant.runs _ (hit_at c.args.run.now i c.loop-hit-test.true) (g.S.RangeSource.seen c.take_hit.new.source) _ c.in_err-take_hit.ensures.part)

pub returns-in_err-take_hit-clause-refused : goal.returns-in_err-take_hit-clause-refused
returns-in_err-take_hit-clause-refused g c = let i = c.loop-hit.hit-index in
    refused_both c.from_residual.result c.in_err-take_hit.field-0.0 _ _ _ c.from_residual.ensures.1
    (λ broken same breaks. run_refused g.V.Visitor.step g.V.Visitor.failed_step c.args.section.now c.args.run.now _ c.args.window.now (g.S.RangeSource.seen c.args.source.now) _ c.requires.none i _ _ _ c.loop-hit.invariant.runs _ (hit_at c.args.run.now i c.loop-hit-test.true) (g.S.RangeSource.seen c.take_hit.new.source) _ broken same breaks)
    c.in_err-take_hit.ensures.unchanged c.in_err-take_hit.ensures.refused

pub returns-in_err-take_hit-clause-rises_part : goal.returns-in_err-take_hit-clause-rises_part
returns-in_err-take_hit-clause-rises_part g c = let r = c.loop-hit.invariant.runs in
    on_err _ _ (rises_then_part c.args.section.now c.args.window.now c.loop-hit.window _ _ _ r.rises c.in_err-take_hit.ensures.rises_part)

pub returns-in_err-take_hit-clause-front : goal.returns-in_err-take_hit-clause-front
returns-in_err-take_hit-clause-front g c = let i = c.loop-hit.hit-index in
    on_err_told c.from_residual.result (g.S.RangeSource.seen c.args.source.now) _
    (run_front g.V.Visitor.step g.V.Visitor.failed_step c.args.section.now c.args.run.now _ c.args.window.now (g.S.RangeSource.seen c.args.source.now) _ c.requires.none i _ _ _ c.loop-hit.invariant.runs _ (hit_at c.args.run.now i c.loop-hit-test.true) (g.S.RangeSource.seen c.take_hit.new.source) c.take_hit.new.visitor c.known_until-until.ensures.last c.in_err-take_hit.ensures.front)

pub loop-hit-preserved : goal.loop-hit-preserved
loop-hit-preserved g c = let i = c.loop-hit.hit-index in let e = c.in_ok-take_hit.ensures in record {
  runs = runs_more g.V.Visitor.step g.V.Visitor.failed_step c.args.section.now c.args.run.now _ c.args.window.now (g.S.RangeSource.seen c.args.source.now) _ c.requires.none i _ _ _ c.loop-hit.invariant.runs _ (hit_at c.args.run.now i c.loop-hit-test.true)
      c.take_hit.new.window (g.S.RangeSource.seen c.take_hit.new.source) c.take_hit.new.visitor e.rises e.over e.near e.passes e.hands e.covers e.lands;
  later = search rules;
  takes = some_then g.V.Visitor.step _ _ _ c.loop-hit.invariant.takes e.takes;
  tells = search rules;
}

pub returns-clause-none : goal.returns-clause-none
returns-clause-none g c = run_none g.V.Visitor.step g.V.Visitor.failed_step c.args.section.now c.args.run.now _ c.args.window.now (g.S.RangeSource.seen c.args.source.now) _ c.requires.none c.loop-hit.hit-index _ _ _ c.loop-hit.invariant.runs (omega arith) c.known_until-until.ensures.last c.requires.some

pub returns-clause-hands : goal.returns-clause-hands
returns-clause-hands g c = run_hands g.V.Visitor.step g.V.Visitor.failed_step c.args.section.now c.args.run.now _ c.args.window.now (g.S.RangeSource.seen c.args.source.now) _ c.requires.none c.loop-hit.hit-index _ _ _ c.loop-hit.invariant.runs (omega arith) c.known_until-until.ensures.last c.requires.some

pub returns-clause-reads : goal.returns-clause-reads
returns-clause-reads g c = run_reads g.V.Visitor.step g.V.Visitor.failed_step c.args.section.now c.args.run.now _ c.args.window.now (g.S.RangeSource.seen c.args.source.now) _ c.requires.none c.loop-hit.hit-index _ _ _ c.loop-hit.invariant.runs (omega arith) c.known_until-until.ensures.last c.requires.some

pub returns-in_err-take_hit-clause-handed : goal.returns-in_err-take_hit-clause-handed
returns-in_err-take_hit-clause-handed g c = on_err c.from_residual.result _ (handed_then g.V.Visitor.step g.V.Visitor.failed_step _ _ _ c.loop-hit.invariant.takes c.in_err-take_hit.ensures.handed)

pub returns-clause-takes : goal.returns-clause-takes
returns-clause-takes g c = c.loop-hit.invariant.takes
