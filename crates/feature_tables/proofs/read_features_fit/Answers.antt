use Rattle.flat_layout.specs.Layout.{target}
use Rattle.feature_tables.proofs.ReadFits.{read_fits}
use Rattle.feature_tables.proofs.read_features_fit.Goals as goal

pub returns : goal.returns
returns c = record { fits = λ h b. read_fits h b (target b 0) }
