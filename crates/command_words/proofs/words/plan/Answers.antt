use Rattle.command_words.proofs.words.plan.Goals as goal

pub returns-in_err-query-clause-usage : goal.returns-in_err-query-clause-usage
returns-in_err-query-clause-usage c = rw c.from_residual.ensures (λ request asks. c.in_err-query.ensures.only request asks)
