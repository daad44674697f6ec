use Rattle.command_words.specs.Requests.{report}
use Rattle.report_command.proofs.Reporting.{does_report}
use Rattle.report_command.proofs.top.report_run.Goals as goal

pub returns-in_default-clause-does : goal.returns-in_default-clause-does
returns-in_default-clause-does g c = λ input boxes gap asks. absurd (c.in_default.ensures.usage (report input boxes gap) asks tt)

pub returns-clause-does : goal.returns-clause-does
returns-clause-does g c = λ input boxes gap asks.
    let only = c.in-Some.ensures.only input boxes gap asks in
    does_report _ _ _ _ _ _ _ _ _ _ _ c.report_found-done.result c.status_of.ensures boxes gap only.0 only.1 c.report_found-done.ensures
