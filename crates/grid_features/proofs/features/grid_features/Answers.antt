use Rattle.std.proofs.Common.{◌∙◌, ◌+◌, ◌∷◌, [], length, ap, sym, subst, length-append, arith}
use Rattle.std.specs.List.{AllByRecursion}
use Rattle.fgb_schema.specs.Features.{Feature}
use Rattle.feature_tables.specs.Records.{Fits}
use Rattle.grid_features.specs.Grid.{AreGridFrom, IsGridFeature, grid_header}
use Rattle.grid_features.proofs.Growing.{all_more, grid_more}
use Rattle.grid_features.proofs.features.grid_features.Goals as goal

pub loop-i-preserved : goal.loop-i-preserved
loop-i-preserved c =
    let kept = c.loop-i.invariant in let before = c.loop-i.features.items in let f : Feature = c.in_ok-grid_feature.field-0 in
    let pushed = sym c.in_ok-push.ensures.items in record {
      grid = subst (AreGridFrom c.args.start 0) pushed (grid_more c.args.start 0 before f kept.grid (subst (λ n. IsGridFeature c.args.start n f) (omega (arith, kept.counted)) c.in_ok-grid_feature.ensures.grid));
      counted = ap length c.in_ok-push.ensures.items ∙ (length-append before (f ∷ []) ∙ ap (λ n. n + 1) kept.counted);
      fits = subst (AllByRecursion (Fits grid_header)) pushed (all_more (Fits grid_header) before f kept.fits c.in_ok-grid_feature.ensures.fits);
    }
