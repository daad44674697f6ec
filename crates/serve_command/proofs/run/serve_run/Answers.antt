use Rattle.serve_command.proofs.Running.{not_asked, runs}
use Rattle.serve_command.proofs.run.serve_run.Goals as goal

pub returns-in-None-clause-usage : goal.returns-in-None-clause-usage
returns-in-None-clause-usage g c = λ is. not_asked c.in-None.ensures.only

pub returns-in-None-clause-does : goal.returns-in-None-clause-does
returns-in-None-clause-does g c = λ name port connections asks. absurd (c.in-None.ensures.only name port connections asks)

pub returns-in-Some-clause-does : goal.returns-in-Some-clause-does
returns-in-Some-clause-does g c = λ name port connections asks.
    runs _ _ _ c.serve_and_tell-done.result (c.in-Some.ensures.only name port connections asks) c.serve_and_tell-done.ensures c.status_of.ensures
