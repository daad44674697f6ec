use Rattle.fgb_outside.specs.Asked.{IsInside}
use Rattle.read_stop.proofs.Asking.{asks_nothing}
use Rattle.read_stop.proofs.Stopping.{stop_exit, refusal_map}
use Rattle.owned_features.proofs.Copying.{goes_part, goes_fetched, goes_prefix, goes_broken, goes_next, goes_done}
use Rattle.owned_features.proofs.file.copy_file.Goals as goal

pub returns-in_err-copy-clause-asked : goal.returns-in_err-copy-clause-asked
returns-in_err-copy-clause-asked g c = asks_nothing (IsInside c.args.first c.args.end) (g.S.RangeSource.seen c.args.source.now)

pub returns-in_err-advance-clause-unrefused : goal.returns-in_err-advance-clause-unrefused
returns-in_err-advance-clause-unrefused g c = let new = c.new-pieces.ensures in
    stop_exit c.from_residual-in_err-advance.result c.in_err-advance.field-0.0 _ c.from_residual-in_err-advance.ensures.1
    (refusal_map c.in_err-advance.field-0.0 _ _ (goes_prefix _ _ _ _ _ _ _ _ c.loop-pieces.invariant new.first new.end) c.in_err-advance.ensures.refused)

pub returns-in_err-advance-clause-asked : goal.returns-in_err-advance-clause-asked
returns-in_err-advance-clause-asked g c = let new = c.new-pieces.ensures in goes_part _ _ _ _ _ _ _ _ c.loop-pieces.invariant new.first new.end c.in_err-advance.ensures.part

pub returns-in_err-feature-clause-unrefused : goal.returns-in_err-feature-clause-unrefused
returns-in_err-feature-clause-unrefused g c = let new = c.new-pieces.ensures in
    stop_exit c.from_residual-in_err-feature.result c.in_err-feature.field-0.0 _ c.from_residual-in_err-feature.ensures.1
    (refusal_map c.in_err-feature.field-0.0 _ _
    (goes_broken _ _ _ _ _ _ _ _ c.loop-pieces.invariant new.first new.end c.advance.new.self (g.S.RangeSource.seen c.advance.new.source) c.in_ok-advance.ensures.fetches (rw c.if-branch.true at c.in_ok-advance.ensures.goes))
    c.in_err-feature.ensures.refused)

pub returns-in_err-feature-clause-asked : goal.returns-in_err-feature-clause-asked
returns-in_err-feature-clause-asked g c = let new = c.new-pieces.ensures in goes_fetched _ _ _ _ _ _ _ _ c.loop-pieces.invariant new.first new.end c.in_ok-advance.ensures.fetches

pub returns-in_err-add-clause-asked : goal.returns-in_err-add-clause-asked
returns-in_err-add-clause-asked g c = let new = c.new-pieces.ensures in goes_fetched _ _ _ _ _ _ _ _ c.loop-pieces.invariant new.first new.end c.in_ok-advance.ensures.fetches

pub loop-pieces-preserved : goal.loop-pieces-preserved
loop-pieces-preserved g c = let new = c.new-pieces.ensures in let feature = c.in_ok-feature.ensures in let added = c.in_ok-add.ensures in
    goes_next _ _ _ _ _ _ _ _ c.loop-pieces.invariant new.first new.end c.advance.new.self (g.S.RangeSource.seen c.advance.new.source) c.in_ok-advance.ensures.fetches (rw c.if-branch.true at c.in_ok-advance.ensures.goes)
    c.in_ok-feature.feature feature.shown feature.fits c.place.result c.place.ensures.place c.add.new.file added.header added.features added.places

pub returns-clause-owns : goal.returns-clause-owns
returns-clause-owns g c = let new = c.new-pieces.ensures in
    goes_done _ _ _ _ _ _ _ _ c.loop-pieces.invariant new.first new.end c.advance.new.self (rw c.if-branch.false at c.in_ok-advance.ensures.goes)

pub returns-clause-sound : goal.returns-clause-sound
returns-clause-sound g c = c.loop-pieces.invariant.sound

pub returns-clause-asked : goal.returns-clause-asked
returns-clause-asked g c = let new = c.new-pieces.ensures in goes_fetched _ _ _ _ _ _ _ _ c.loop-pieces.invariant new.first new.end c.in_ok-advance.ensures.fetches
