use Rattle.feature_tables.proofs.Pairs.{properties_clean, properties_read}
use Rattle.feature_tables.proofs.laid_properties_read_back.Goals as goal

pub returns-clause-clean : goal.returns-clause-clean
returns-clause-clean c = λ kinds ps room are named. properties_clean kinds ps room are named

pub returns-clause-shown : goal.returns-clause-shown
returns-clause-shown c = λ kinds ps room are named. properties_read kinds ps room are named
