use Rattle.std.proofs.Common.{◌∙◌, [], ◌∷◌, ◌++◌, take, ap, sym, subst}
use Rattle.std.specs.List.{AllByRecursion}
use Rattle.std.proofs.lemmas.List.{take_more}
use Rattle.feature_tables.specs.Records.{Fits}
use Rattle.fgb_file.proofs.Walk.{all-append}
use Rattle.feature_pack.proofs.tests.all_fit.Goals as goal

pub loop-feature-preserved : goal.loop-feature-preserved
loop-feature-preserved c =
    let header = c.args.header.now in let features = c.args.features.now in let i = c.loop-feature.feature-index in let feature = c.feature-item.result in
    subst (AllByRecursion (Fits header)) (sym (take_more features i feature c.loop-feature-test.true ∙ ap (λ f. take i features ++ f ∷ []) (sym c.feature-item.is)))
    (all-append (Fits header) (take i features) (feature ∷ []) c.loop-feature.invariant (c.fits.ensures.0 c.if-not-fits.false, tt))
