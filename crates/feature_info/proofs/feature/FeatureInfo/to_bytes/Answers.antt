use Rattle.std.proofs.Common.{◌≡◌}
use Rattle.flat_layout.specs.Promises.{IsClean}
use Rattle.fgb_schema.specs.Features.{feature_of}
use Rattle.fgb_schema.specs.Paths.{feature_root}
use Rattle.fgb_schema.specs.Weights.{BreaksBuffer}
use Rattle.feature_info.proofs.Back.{of_buffer}
use Rattle.feature_info.proofs.feature.FeatureInfo.to_bytes.Goals as goal

pub returns-clause-clean : goal.returns-clause-clean
returns-clause-clean c = λ h fits.
    let f = c.args.self.now in let made = c.in_ok-table.ensures in
    of_buffer (λ b. IsClean (BreaksBuffer b (feature_root h))) c.finish-2.result c.in_ok-table.field-0 f made.ok c.finish-2.ensures.ok c.finish-2.ensures.within
    (c.laid_features_read_back.ensures.clean h f made.writable fits)

pub returns-clause-shown : goal.returns-clause-shown
returns-clause-shown c = λ h fits.
    let f = c.args.self.now in let made = c.in_ok-table.ensures in
    of_buffer (λ b. feature_of h b ≡ f) c.finish-2.result c.in_ok-table.field-0 f made.ok c.finish-2.ensures.ok c.finish-2.ensures.within
    (c.laid_features_read_back.ensures.shown h f made.writable fits)
