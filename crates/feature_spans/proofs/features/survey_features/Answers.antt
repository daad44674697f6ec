use Rattle.read_stop.proofs.Stopping.{refused_exit, stop_exit, refusal_map}
use Rattle.feature_spans.proofs.Surveying.{goes_prefix, goes_broken, goes_next, goes_done}
use Rattle.feature_spans.proofs.features.survey_features.Goals as goal

pub returns-in_err-advance-clause-unrefused : goal.returns-in_err-advance-clause-unrefused
returns-in_err-advance-clause-unrefused g c = let new = c.new-pieces.ensures in
    stop_exit c.from_residual.result c.in_err-advance.field-0.0 _ c.from_residual.ensures.1
    (refusal_map c.in_err-advance.field-0.0 _ _ (goes_prefix _ _ _ _ _ _ _ _ c.loop-pieces.invariant new.first new.end) c.in_err-advance.ensures.refused)

pub returns-in_err-bounds-clause-unrefused : goal.returns-in_err-bounds-clause-unrefused
returns-in_err-bounds-clause-unrefused g c = let new = c.new-pieces.ensures in
    refused_exit c.from_residual-in_err-bounds.result c.in_err-bounds.field-0.0 _ c.from_residual-in_err-bounds.ensures.1
    (goes_broken _ _ _ _ _ _ _ _ c.loop-pieces.invariant new.first new.end c.advance.new.self (g.S.RangeSource.seen c.advance.new.source) c.in_ok-advance.ensures.fetches (rw c.if-branch.true at c.in_ok-advance.ensures.goes)
    c.in_err-bounds.field-0.0 c.in_err-bounds.ensures.judged)

pub loop-pieces-preserved : goal.loop-pieces-preserved
loop-pieces-preserved g c = let new = c.new-pieces.ensures in let own = c.in_ok-bounds.ensures in let span = c.span_of.ensures in
    goes_next _ _ _ _ _ _ _ _ c.loop-pieces.invariant new.first new.end c.advance.new.self (g.S.RangeSource.seen c.advance.new.source) c.in_ok-advance.ensures.fetches (rw c.if-branch.true at c.in_ok-advance.ensures.goes)
    c.in_ok-bounds.bounds c.span_of.result own.judged.0 span.at span.len c.add.new.survey own.sound span.lies c.in_ok-add.ensures.boxes c.in_ok-add.ensures.spans

pub returns-clause-features : goal.returns-clause-features
returns-clause-features g c = let new = c.new-pieces.ensures in
    goes_done _ _ _ _ _ _ _ _ c.loop-pieces.invariant new.first new.end c.advance.new.self (rw c.if-branch.false at c.in_ok-advance.ensures.goes)
