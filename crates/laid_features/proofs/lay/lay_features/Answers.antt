use Rattle.std.proofs.Common.{subst}
use Rattle.std.specs.List.{AllByRecursion}
use Rattle.std.proofs.lemmas.List.{take_all}
use Rattle.laid_features.proofs.Laying.{ReadsBack, all_boxed, all_features, all_shown}
use Rattle.laid_features.proofs.lay.lay_features.Goals as goal

pub returns-clause-each : goal.returns-clause-each
returns-clause-each c = λ h fit.
    let features = c.args.features.now in
    all_features h features (subst (AllByRecursion ReadsBack) (take_all c.loop-feature.feature-index features c.loop-feature-test.false) c.loop-feature.invariant.sound) fit

pub returns-clause-shown : goal.returns-clause-shown
returns-clause-shown c = λ h fit.
    let features = c.args.features.now in
    all_shown h features (subst (AllByRecursion ReadsBack) (take_all c.loop-feature.feature-index features c.loop-feature-test.false) c.loop-feature.invariant.sound) fit

pub returns-clause-boxed : goal.returns-clause-boxed
returns-clause-boxed c = λ h fit.
    let features = c.args.features.now in
    all_boxed h features (subst (AllByRecursion ReadsBack) (take_all c.loop-feature.feature-index features c.loop-feature-test.false) c.loop-feature.invariant.sound) fit
