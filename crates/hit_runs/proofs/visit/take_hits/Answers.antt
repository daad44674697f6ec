use Rattle.std.proofs.Common.{rules, length, sym, ap, subst, ◌∙◌, arith}
use Rattle.section_window.specs.Window.{ahead}
use Rattle.gap_window.specs.Bridging.{Bridging}
use Rattle.read_stop.proofs.Stopping.{on_err}
use Rattle.found_features.proofs.Taking.{some_nothing, some_one, some_then, handed_some, handed_then, handed_fails}
use Rattle.found_features.specs.Entries.{Entry}
use Rattle.hit_runs.proofs.Refusing.{refused_map}
use Rattle.hit_runs.proofs.Visiting.{went_none, went_part, went_refused, went_rising, went_front, went_failed, went_more, went_ended, went_done, went_reads, front_more, rising_more, laid_first, owed_first}
use Rattle.hit_runs.proofs.visit.take_hits.Goals as goal

pub loop-runs-init : goal.loop-runs-init
loop-runs-init g c = let new = c.new-runs.ensures in record {
  went = went_none g.V.Visitor.step g.V.Visitor.failed_step c.args.section.now c.args.hits.items c.new-runs.result (g.S.RangeSource.seen c.args.source.now) c.args.visitor.now c.args.gap new.window new.hits new.given new.place c.requires.order c.requires.inside c.requires.leaves;
  later = omega arith;
  takes = some_nothing g.V.Visitor.step c.args.visitor.now;
  tells = search rules;
}

pub returns-in_err-advance-clause-part : goal.returns-in_err-advance-clause-part
returns-in_err-advance-clause-part g c = on_err c.from_residual.result _
    (λ image told t leaves opened within are rises. went_part g.V.Visitor.step g.V.Visitor.failed_step _ _ _ _ _ _ _ _ c.loop-runs.invariant.went image told t leaves within are rises)

pub returns-in_err-advance-clause-refused : goal.returns-in_err-advance-clause-refused
returns-in_err-advance-clause-refused g c =
    refused_map c.from_residual.result c.in_err-advance.field-0.0 _ _ c.from_residual.ensures.1
    (λ broken refuses image told t leaves opened within are rises. went_refused g.V.Visitor.step g.V.Visitor.failed_step _ _ _ _ _ _ _ _ c.loop-runs.invariant.went broken c.in_err-advance.ensures.again.left refuses image told t leaves within are rises)
    c.in_err-advance.ensures.refused

pub returns-in_err-advance-clause-rising : goal.returns-in_err-advance-clause-rising
returns-in_err-advance-clause-rising g c =
    went_rising g.V.Visitor.step g.V.Visitor.failed_step _ _ _ _ _ _ _ _ c.loop-runs.invariant.went _ (omega (arith, ap (λ (w : Bridging). ahead w.held) c.new-runs.ensures.window)) c.in_err-advance.ensures.rises_part

pub returns-in_err-advance-clause-front : goal.returns-in_err-advance-clause-front
returns-in_err-advance-clause-front g c = let new = c.new-runs.ensures in
    on_err c.from_residual.result _
    (λ image told t leaves pieces opened within are rises file. went_front g.V.Visitor.step g.V.Visitor.failed_step _ _ _ _ _ _ _ _ c.loop-runs.invariant.went _ c.in_err-advance.ensures.front image told _ within.end
    (laid_first c.args.section.now c.args.hits.items c.new-runs.result c.args.gap new.window new.hits new.given new.place image t leaves pieces within are rises file)
    (owed_first c.args.section.now c.args.hits.items c.new-runs.result c.args.gap new.window new.hits new.given new.place image t leaves pieces within are rises file))

pub returns-in_err-advance-clause-handed : goal.returns-in_err-advance-clause-handed
returns-in_err-advance-clause-handed g c = handed_some g.V.Visitor.step g.V.Visitor.failed_step _ _ c.loop-runs.invariant.takes

pub loop-runs-preserved : goal.loop-runs-preserved
loop-runs-preserved g c = let e = c.in_ok-advance.ensures in let l = c.loop-runs.invariant in record {
  went = went_more g.V.Visitor.step g.V.Visitor.failed_step _ _ _ _ _ _ _ _ l.went c.advance.new.self (g.S.RangeSource.seen c.advance.new.source) e.rises e.pays e.goes e.list (rw c.if-branch.true at e.comes) c.take.new.self (subst (λ (x : Entry). g.V.Visitor.step c.loop-runs.visitor x c.take.new.self) c.feature.ensures c.in_ok-take.ensures.stepped);
  later = omega (arith, l.later, c.in_ok-take.ensures.later);
  takes = some_then g.V.Visitor.step _ _ _ l.takes (some_one g.V.Visitor.step _ _ _ c.in_ok-take.ensures.stepped);
  tells = c.in_ok-take.ensures.told ∙ l.tells;
}

pub returns-in_err-take-clause-part : goal.returns-in_err-take-clause-part
returns-in_err-take-clause-part g c = let e = c.in_ok-advance.ensures in
    on_err c.from_residual-in_err-take.result _
    (λ image told t leaves opened within are rises. went_failed g.V.Visitor.step g.V.Visitor.failed_step _ _ _ _ _ _ _ _ c.loop-runs.invariant.went c.advance.new.self (rw c.if-branch.true at e.comes) c.take.new.self (subst (λ (x : Entry). g.V.Visitor.failed_step c.loop-runs.visitor x c.take.new.self) c.feature.ensures c.in_err-take.ensures.failed) image told t leaves within are rises)

pub returns-in_err-take-clause-rising : goal.returns-in_err-take-clause-rising
returns-in_err-take-clause-rising g c = let e = c.in_ok-advance.ensures in
    rising_more g.V.Visitor.step g.V.Visitor.failed_step _ _ _ _ _ _ _ _ c.loop-runs.invariant.went c.advance.new.self (g.S.RangeSource.seen c.advance.new.source) e.rises e.pays e.goes (omega (arith, ap (λ (w : Bridging). ahead w.held) c.new-runs.ensures.window))

pub returns-in_err-take-clause-front : goal.returns-in_err-take-clause-front
returns-in_err-take-clause-front g c = let e = c.in_ok-advance.ensures in let new = c.new-runs.ensures in
    on_err c.from_residual-in_err-take.result _
    (λ image told t leaves pieces opened within are rises file. front_more g.V.Visitor.step g.V.Visitor.failed_step _ _ _ _ _ _ _ _ c.loop-runs.invariant.went c.advance.new.self (g.S.RangeSource.seen c.advance.new.source) e.rises e.pays image told _ within.end
    (laid_first c.args.section.now c.args.hits.items c.new-runs.result c.args.gap new.window new.hits new.given new.place image t leaves pieces within are rises file)
    (owed_first c.args.section.now c.args.hits.items c.new-runs.result c.args.gap new.window new.hits new.given new.place image t leaves pieces within are rises file))

pub returns-in_err-take-clause-handed : goal.returns-in_err-take-clause-handed
returns-in_err-take-clause-handed g c = handed_then g.V.Visitor.step g.V.Visitor.failed_step _ _ _ c.loop-runs.invariant.takes (handed_fails g.V.Visitor.step g.V.Visitor.failed_step _ _ _ c.in_err-take.ensures.failed)

pub returns-clause-done : goal.returns-clause-done
returns-clause-done g c = let e = c.in_ok-advance.ensures in let ended = rw c.if-branch.false at e.comes in
    λ image told t leaves opened within are rises. went_done g.V.Visitor.step g.V.Visitor.failed_step _ _ _ _ _ c.advance.new.self (g.S.RangeSource.seen c.advance.new.source) _
    (went_ended g.V.Visitor.step g.V.Visitor.failed_step _ _ _ _ _ _ _ _ c.loop-runs.invariant.went c.advance.new.self (g.S.RangeSource.seen c.advance.new.source) e.rises e.pays e.goes e.list ended)
    (ended.same ∙ ended.given ∙ sym (ap length e.list)) image told t leaves within are rises

pub returns-clause-rising : goal.returns-clause-rising
returns-clause-rising g c = let e = c.in_ok-advance.ensures in
    rising_more g.V.Visitor.step g.V.Visitor.failed_step _ _ _ _ _ _ _ _ c.loop-runs.invariant.went c.advance.new.self (g.S.RangeSource.seen c.advance.new.source) e.rises e.pays e.goes (omega (arith, ap (λ (w : Bridging). ahead w.held) c.new-runs.ensures.window))

pub returns-clause-reads : goal.returns-clause-reads
returns-clause-reads g c = let e = c.in_ok-advance.ensures in let ended = rw c.if-branch.false at e.comes in let new = c.new-runs.ensures in
    λ image told t leaves pieces opened within are rises file. went_reads g.V.Visitor.step g.V.Visitor.failed_step _ _ _ _ _ c.advance.new.self (g.S.RangeSource.seen c.advance.new.source) _
    (went_ended g.V.Visitor.step g.V.Visitor.failed_step _ _ _ _ _ _ _ _ c.loop-runs.invariant.went c.advance.new.self (g.S.RangeSource.seen c.advance.new.source) e.rises e.pays e.goes e.list ended)
    (ended.same ∙ ended.given ∙ sym (ap length e.list)) image told _ within.end
    (laid_first c.args.section.now c.args.hits.items c.new-runs.result c.args.gap new.window new.hits new.given new.place image t leaves pieces within are rises file)
    (owed_first c.args.section.now c.args.hits.items c.new-runs.result c.args.gap new.window new.hits new.given new.place image t leaves pieces within are rises file)

pub returns-clause-handed : goal.returns-clause-handed
returns-clause-handed g c = handed_some g.V.Visitor.step g.V.Visitor.failed_step _ _ c.loop-runs.invariant.takes
