use Rattle.std.proofs.Common.{rules, ◌≡◌, ◌+◌, sym, subst, ◌∙◌, arith}
use Rattle.std.specs.Bool.{MatchBool}
use Rattle.flat_layout.proofs.Judging.{exit}
use Rattle.fgb_header.specs.Views.{header_shown}
use Rattle.fgb_reader.proofs.Going.{fetches_on, fetches_part, fetches_whole}
use Rattle.read_stop.proofs.Stopping.{on_err}
use Rattle.found_features.specs.Stops.{IsReadCause}
use Rattle.found_features.specs.declared.stop.QueryError.TheVariants.{Refused}
use Rattle.found_features.proofs.Stopping.{exit_cause, refusal_map, refusal_passed}
use Rattle.feature_scan.proofs.Going.{goes_start, goes_part, goes_prefix, goes_turn, goes_failed, goes_broken, goes_miscounted, goes_done, read_all, read_part}
use Rattle.found_features.proofs.Taking.{some_nothing, some_then, handed_some, handed_then}
use Rattle.feature_scan.proofs.Handing.{some_passed, handed_failed}
use Rattle.feature_scan.proofs.walk.scan.Goals as goal
use Rattle.feature_scan.proofs.walk.scan.Goals.{then-branch-2, else-branch-2}

pub loop-pieces-init : goal.loop-pieces-init
loop-pieces-init g c = record {
  walk = let new = c.new-pieces.ensures in
      goes_start g.V.Visitor.step g.V.Visitor.failed_step (header_shown c.args.header.now) c.args.boxes.now c.args.first c.args.end c.new-pieces.result c.new-tally.result (g.S.RangeSource.seen c.args.source.now) c.args.visitor.now
      (new.shows _ c.requires.inside) new.next c.new-tally.ensures.none (λ image begun told. c.new-tally.ensures.counts image begun (c.features_count.ensures ∙ told));
  later = omega arith;
  handed = some_nothing g.V.Visitor.step c.args.visitor.now;
  tells = search rules;
}

pub returns-in_err-advance-clause-part : goal.returns-in_err-advance-clause-part
returns-in_err-advance-clause-part g c = let new = c.new-pieces.ensures in let l = c.loop-pieces in
    on_err c.from_residual.result _ (goes_part g.V.Visitor.step g.V.Visitor.failed_step _ _ _ _ _ _ _ _ _ _ _ _ l.invariant.walk new.first new.end)

pub returns-in_err-advance-clause-refused : goal.returns-in_err-advance-clause-refused
returns-in_err-advance-clause-refused g c = let new = c.new-pieces.ensures in let l = c.loop-pieces in
    exit_cause IsReadCause c.from_residual.result c.in_err-advance.field-0.0 _ c.from_residual.ensures.1 (λ stop cause.
    refusal_passed c.in_err-advance.field-0.0 stop _ _ (λ broken refuses. goes_prefix g.V.Visitor.step g.V.Visitor.failed_step _ _ _ _ _ _ _ _ _ _ _ _ l.invariant.walk new.first new.end broken refuses) cause c.in_err-advance.ensures.refused)

pub returns-in_err-advance-clause-front : goal.returns-in_err-advance-clause-front
returns-in_err-advance-clause-front g c = let new = c.new-pieces.ensures in
    on_err c.from_residual.result _ (read_part _ _ _ _ c.args.first c.args.end new.first new.end new.ahead (fetches_part c.loop-pieces.invariant.walk.fetches c.in_err-advance.ensures.part))

pub returns-in_err-pass_feature-clause-part : goal.returns-in_err-pass_feature-clause-part
returns-in_err-pass_feature-clause-part g c = let new = c.new-pieces.ensures in let l = c.loop-pieces in
    on_err c.from_residual-in_err-pass_feature.result _ (goes_failed g.V.Visitor.step g.V.Visitor.failed_step _ _ _ _ _ _ _ _ _ _ _ _ l.invariant.walk new.first new.end c.advance.new.self (g.S.RangeSource.seen c.advance.new.source) c.in_ok-advance.ensures.fetches (rw c.if-branch.true at c.in_ok-advance.ensures.goes)
    c.pass_feature.new.visitor (rw c.seen.ensures at c.in_err-pass_feature.ensures.fails))

pub returns-in_err-pass_feature-clause-refused : goal.returns-in_err-pass_feature-clause-refused
returns-in_err-pass_feature-clause-refused g c = let new = c.new-pieces.ensures in let l = c.loop-pieces in
    exit _ _ c.from_residual-in_err-pass_feature.result c.in_err-pass_feature.field-0.0 c.from_residual-in_err-pass_feature.ensures.1
    (refusal_map c.in_err-pass_feature.field-0.0 _ _ (λ broken refused. goes_broken g.V.Visitor.step g.V.Visitor.failed_step _ _ _ _ _ _ _ _ _ _ _ _ l.invariant.walk new.first new.end c.advance.new.self (g.S.RangeSource.seen c.advance.new.source) c.in_ok-advance.ensures.fetches (rw c.if-branch.true at c.in_ok-advance.ensures.goes)
    c.pass_feature.new.visitor broken refused.0 refused.1) c.in_err-pass_feature.ensures.refused)

pub returns-in_err-pass_feature-clause-front : goal.returns-in_err-pass_feature-clause-front
returns-in_err-pass_feature-clause-front g c = let new = c.new-pieces.ensures in
    on_err c.from_residual-in_err-pass_feature.result _ (read_part _ _ _ _ c.args.first c.args.end new.first new.end new.ahead (fetches_whole (fetches_on c.loop-pieces.invariant.walk.fetches c.in_ok-advance.ensures.fetches)))

pub loop-pieces-preserved : goal.loop-pieces-preserved
loop-pieces-preserved g c = let new = c.new-pieces.ensures in let l = c.loop-pieces in let one = c.in_ok-pass_feature.ensures in record {
  walk = goes_turn g.V.Visitor.step g.V.Visitor.failed_step _ _ _ _ _ _ _ _ _ _ _ _ l.invariant.walk new.first new.end c.advance.new.self (g.S.RangeSource.seen c.advance.new.source) c.in_ok-advance.ensures.fetches (rw c.if-branch.true at c.in_ok-advance.ensures.goes)
      c.pass_feature.new.visitor c.add.new.self c.if-branch-2.count c.in_ok-pass_feature.field-0 (rw c.seen.ensures at one.passes) c.add.ensures.more (rw c.place.ensures.place at c.add.ensures.counts)
      (elim c.if-branch-2.branch [
        | then-branch-2 w ↦ subst (λ b. MatchBool b (c.if-branch-2.count ≡ l.count + 1) (c.if-branch-2.count ≡ l.count)) (sym w.if-branch-2.true) w.count-is
        | else-branch-2 w ↦ subst (λ b. MatchBool b (c.if-branch-2.count ≡ l.count + 1) (c.if-branch-2.count ≡ l.count)) (sym w.if-branch-2.false) w.count-is
      ]);
  later = omega (arith, l.invariant.later, one.later);
  handed = some_then g.V.Visitor.step _ _ _ l.invariant.handed (some_passed g.V.Visitor.step g.V.Visitor.failed_step _ _ _ _ _ _ _ one.passes);
  tells = one.tells ∙ l.invariant.tells;
}

pub returns-in_err-judge-clause-part : goal.returns-in_err-judge-clause-part
returns-in_err-judge-clause-part g c = let new = c.new-pieces.ensures in let l = c.loop-pieces in
    on_err c.from_residual-in_err-judge.result _ (goes_part g.V.Visitor.step g.V.Visitor.failed_step _ _ _ _ _ _ _ _ _ _ _ _ l.invariant.walk new.first new.end)

pub returns-in_err-judge-clause-refused : goal.returns-in_err-judge-clause-refused
returns-in_err-judge-clause-refused g c = let new = c.new-pieces.ensures in let l = c.loop-pieces in
    exit _ _ c.from_residual-in_err-judge.result (Refused c.in_err-judge.field-0.0) c.from_residual-in_err-judge.ensures.1
    (goes_miscounted g.V.Visitor.step g.V.Visitor.failed_step _ _ _ _ _ _ _ _ _ _ _ _ l.invariant.walk new.first new.end c.advance.new.self (g.S.RangeSource.seen c.advance.new.source) c.in_ok-advance.ensures.fetches (rw c.if-branch.false at c.in_ok-advance.ensures.goes)
    c.in_err-judge.field-0.0 c.in_err-judge.ensures)

pub returns-in_err-judge-clause-front : goal.returns-in_err-judge-clause-front
returns-in_err-judge-clause-front g c = let new = c.new-pieces.ensures in
    on_err c.from_residual-in_err-judge.result _ (read_part _ _ _ _ c.args.first c.args.end new.first new.end new.ahead (fetches_whole (fetches_on c.loop-pieces.invariant.walk.fetches c.in_ok-advance.ensures.fetches)))

pub returns-clause-done : goal.returns-clause-done
returns-clause-done g c = let new = c.new-pieces.ensures in let l = c.loop-pieces in
    goes_done g.V.Visitor.step g.V.Visitor.failed_step _ _ _ _ _ _ _ _ _ _ _ _ l.invariant.walk new.first new.end c.advance.new.self (g.S.RangeSource.seen c.advance.new.source) c.in_ok-advance.ensures.fetches (rw c.if-branch.false at c.in_ok-advance.ensures.goes)
    (λ image begun pieces whole counts. (c.in_ok-judge.ensures image begun pieces whole counts).0)

pub returns-clause-reads : goal.returns-clause-reads
returns-clause-reads g c = let new = c.new-pieces.ensures in let all = c.loop-pieces.invariant.walk.fetches in
    (read_all _ _ _ _ c.args.first c.args.end new.first new.end new.ahead ((rw c.if-branch.false at c.in_ok-advance.ensures.goes).ahead ∙ all.end ∙ new.end) (fetches_on all c.in_ok-advance.ensures.fetches)).0

pub returns-clause-few : goal.returns-clause-few
returns-clause-few g c = let new = c.new-pieces.ensures in let all = c.loop-pieces.invariant.walk.fetches in
    (read_all _ _ _ _ c.args.first c.args.end new.first new.end new.ahead ((rw c.if-branch.false at c.in_ok-advance.ensures.goes).ahead ∙ all.end ∙ new.end) (fetches_on all c.in_ok-advance.ensures.fetches)).1

pub returns-in_err-advance-clause-handed : goal.returns-in_err-advance-clause-handed
returns-in_err-advance-clause-handed g c = handed_some g.V.Visitor.step g.V.Visitor.failed_step _ _ c.loop-pieces.invariant.handed

pub returns-in_err-pass_feature-clause-handed : goal.returns-in_err-pass_feature-clause-handed
returns-in_err-pass_feature-clause-handed g c = handed_then g.V.Visitor.step g.V.Visitor.failed_step _ _ _ c.loop-pieces.invariant.handed (handed_failed g.V.Visitor.step g.V.Visitor.failed_step _ _ _ _ _ _ c.in_err-pass_feature.ensures.fails)

pub returns-in_err-judge-clause-handed : goal.returns-in_err-judge-clause-handed
returns-in_err-judge-clause-handed g c = handed_some g.V.Visitor.step g.V.Visitor.failed_step _ _ c.loop-pieces.invariant.handed

pub returns-clause-handed : goal.returns-clause-handed
returns-clause-handed g c = handed_some g.V.Visitor.step g.V.Visitor.failed_step _ _ c.loop-pieces.invariant.handed
