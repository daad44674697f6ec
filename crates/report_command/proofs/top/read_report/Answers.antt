use Rattle.std.proofs.Common.{sym, ap, ◌∙◌}
use Rattle.command_words.specs.Asking.{request_of}
use Rattle.command_words.specs.Requests.{report}
use Rattle.report_command.proofs.Reporting.{boxes_asked, gap_asked}
use Rattle.report_command.proofs.top.read_report.Goals as goal

pub returns-in_err-reporting-clause-only : goal.returns-in_err-reporting-clause-only
returns-in_err-reporting-clause-only c = λ input boxes gap asks. absurd (c.in_err-reporting.ensures.only (report input boxes gap) asks)

pub returns-in_err-reporting-clause-usage : goal.returns-in_err-reporting-clause-usage
returns-in_err-reporting-clause-usage c = rw c.from_residual.ensures (λ request asks is. c.in_err-reporting.ensures.only request asks)

pub returns-in-Report-clause-only : goal.returns-in-Report-clause-only
returns-in-Report-clause-only c = λ input boxes gap asks.
    let same = ap request_of (sym c.in-Report.is) ∙ c.in_ok-reporting.ensures.only (report input boxes gap) asks in
    (ap (boxes_asked c.in-Report.reporting.boxes) same, ap (gap_asked c.in-Report.reporting.gap) same)
