use Rattle.std.proofs.Common.{Err, Ok, ◌∙◌}
use Rattle.fgb_header.specs.Views.{header_shown}
use Rattle.read_stop.proofs.Stopping.{refused_exit, stop_exit, refusal_map, on_err}
use Rattle.fgb_reader.proofs.Going.{fetches_on, fetches_part, fetches_whole}
use Rattle.fgb_check.proofs.Turns.{goes_none, goes_refused, goes_judged, goes_broken, goes_next, read_all, read_part}
use Rattle.fgb_check.proofs.source.count_features.Goals as goal

pub loop-pieces-init : goal.loop-pieces-init
loop-pieces-init g c = let new = c.new-pieces.ensures in
    goes_none c.new-pieces.result c.new-tally.result (g.S.RangeSource.seen c.args.source.now) (header_shown c.args.header.now) c.args.first c.features_count.result
    new.next (new.shows _ c.requires.inside) c.new-tally.ensures.none c.features_count.ensures c.new-tally.ensures.counts c.requires.opened

pub returns-in_err-advance-clause-refused : goal.returns-in_err-advance-clause-refused
returns-in_err-advance-clause-refused g c = stop_exit c.from_residual.result c.in_err-advance.field-0.0 _ c.from_residual.ensures.1
    (refusal_map c.in_err-advance.field-0.0 _ _ (goes_refused _ _ _ _ _ _ _ c.args.end c.loop-pieces.invariant c.new-pieces.ensures.end c.requires.opened c.requires.whole) c.in_err-advance.ensures.refused)

pub returns-in_err-advance-clause-front : goal.returns-in_err-advance-clause-front
returns-in_err-advance-clause-front g c = let new = c.new-pieces.ensures in
    on_err c.from_residual.result _ (read_part _ _ _ _ c.args.first c.args.end new.first new.end new.ahead (fetches_part c.loop-pieces.invariant.fetches c.in_err-advance.ensures.part))

pub returns-in_err-judge_feature-clause-refused : goal.returns-in_err-judge_feature-clause-refused
returns-in_err-judge_feature-clause-refused g c = refused_exit c.from_residual-in_err-judge_feature.result c.in_err-judge_feature.field-0.0 _ c.from_residual-in_err-judge_feature.ensures.1
    (goes_broken _ _ _ _ _ _ _ c.args.end c.loop-pieces.invariant c.new-pieces.ensures.end c.requires.opened c.requires.whole c.advance.new.self (rw c.if-branch.true at c.in_ok-advance.ensures.goes) c.in_err-judge_feature.field-0.0 c.in_err-judge_feature.ensures)

pub returns-in_err-judge_feature-clause-front : goal.returns-in_err-judge_feature-clause-front
returns-in_err-judge_feature-clause-front g c = let new = c.new-pieces.ensures in
    on_err c.from_residual-in_err-judge_feature.result _ (read_part _ _ _ _ c.args.first c.args.end new.first new.end new.ahead (fetches_whole (fetches_on c.loop-pieces.invariant.fetches c.in_ok-advance.ensures.fetches)))

pub loop-pieces-preserved : goal.loop-pieces-preserved
loop-pieces-preserved g c = let counts = c.add.ensures.counts in
    goes_next _ _ _ _ _ _ _ c.args.end c.loop-pieces.invariant c.new-pieces.ensures.end c.requires.opened c.requires.whole c.advance.new.self (rw c.if-branch.true at c.in_ok-advance.ensures.goes)
    c.add.new.self (g.S.RangeSource.seen c.advance.new.source) c.in_ok-advance.ensures.fetches c.in_ok-judge_feature.ensures.1 c.add.ensures.more (rw c.place.ensures.place at counts)

pub returns-in_err-features-clause-refused : goal.returns-in_err-features-clause-refused
returns-in_err-features-clause-refused g c = refused_exit c.from_residual-in_err-features.result c.in_err-features.field-0.0 _ c.from_residual-in_err-features.ensures.1
    (goes_judged _ _ _ _ _ _ _ c.args.end c.loop-pieces.invariant c.new-pieces.ensures.end c.requires.opened c.requires.whole c.advance.new.self (Err c.in_err-features.field-0.0) (rw c.if-branch.false at c.in_ok-advance.ensures.goes) c.in_err-features.ensures)

pub returns-in_err-features-clause-front : goal.returns-in_err-features-clause-front
returns-in_err-features-clause-front g c = let new = c.new-pieces.ensures in
    on_err c.from_residual-in_err-features.result _ (read_part _ _ _ _ c.args.first c.args.end new.first new.end new.ahead (fetches_whole (fetches_on c.loop-pieces.invariant.fetches c.in_ok-advance.ensures.fetches)))

pub returns-clause-file : goal.returns-clause-file
returns-clause-file g c =
    goes_judged _ _ _ _ _ _ _ c.args.end c.loop-pieces.invariant c.new-pieces.ensures.end c.requires.opened c.requires.whole c.advance.new.self (Ok c.in_ok-features.features) (rw c.if-branch.false at c.in_ok-advance.ensures.goes) c.in_ok-features.ensures

pub returns-clause-reads : goal.returns-clause-reads
returns-clause-reads g c = let new = c.new-pieces.ensures in let all = c.loop-pieces.invariant.fetches in
    (read_all _ _ _ _ c.args.first c.args.end new.first new.end new.ahead ((rw c.if-branch.false at c.in_ok-advance.ensures.goes).ahead ∙ all.end ∙ new.end) (fetches_on all c.in_ok-advance.ensures.fetches)).0

pub returns-clause-few : goal.returns-clause-few
returns-clause-few g c = let new = c.new-pieces.ensures in let all = c.loop-pieces.invariant.fetches in
    (read_all _ _ _ _ c.args.first c.args.end new.first new.end new.ahead ((rw c.if-branch.false at c.in_ok-advance.ensures.goes).ahead ∙ all.end ∙ new.end) (fetches_on all c.in_ok-advance.ensures.fetches)).1
