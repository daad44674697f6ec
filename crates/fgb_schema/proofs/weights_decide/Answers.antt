use Rattle.fgb_schema.proofs.Deciding.{weights_one, heavier_above, above_heavier}
use Rattle.fgb_schema.proofs.weights_decide.Goals as goal

pub returns-clause-one : goal.returns-clause-one
returns-clause-one c = λ b x v w. weights_one b x v w

pub returns-clause-heavier : goal.returns-clause-heavier
returns-clause-heavier c = λ b x w limit weighs. (above_heavier b x w limit weighs, heavier_above b x w limit weighs)
