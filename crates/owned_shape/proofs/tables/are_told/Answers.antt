use Rattle.owned_shape.proofs.LaidFields.{told_back}
use Rattle.owned_shape.proofs.tables.are_told.Goals as goal

pub returns-in_default-clause-untold : goal.returns-in_default-clause-untold
returns-in_default-clause-untold c = λ _. told_back c.args.ends.now c.in_default.len_at_least
