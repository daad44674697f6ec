use Rattle.std.proofs.Common.{sym, ap, ◌∙◌}
use Rattle.command_words.specs.Asking.{request_of}
use Rattle.command_words.specs.Requests.{serve}
use Rattle.serve_command.proofs.Running.{same_connections}
use Rattle.serve_command.proofs.run.serving_of.Goals as goal

pub returns-in_err-serving-clause-only : goal.returns-in_err-serving-clause-only
returns-in_err-serving-clause-only c = λ name port connections asks. absurd (c.in_err-serving.ensures.only (serve name port connections) asks)

pub returns-in-Serve-clause-only : goal.returns-in-Serve-clause-only
returns-in-Serve-clause-only c = λ name port connections asks.
    same_connections (sym (ap request_of c.in-Serve.is) ∙ c.in_ok-serving.ensures.only (serve name port connections) asks)

pub returns-in-Query-clause-only : goal.returns-in-Query-clause-only
returns-in-Query-clause-only c = λ name port connections asks.
    let e = sym (ap request_of c.in-Query.is) ∙ c.in_ok-serving.ensures.only (serve name port connections) asks in cc

pub returns-in-Check-clause-only : goal.returns-in-Check-clause-only
returns-in-Check-clause-only c = λ name port connections asks.
    let e = sym (ap request_of c.in-Check.is) ∙ c.in_ok-serving.ensures.only (serve name port connections) asks in cc

pub returns-in-Pack-clause-only : goal.returns-in-Pack-clause-only
returns-in-Pack-clause-only c = λ name port connections asks.
    let e = sym (ap request_of c.in-Pack.is) ∙ c.in_ok-serving.ensures.only (serve name port connections) asks in cc

pub returns-in-Convert-clause-only : goal.returns-in-Convert-clause-only
returns-in-Convert-clause-only c = λ name port connections asks.
    let e = sym (ap request_of c.in-Convert.is) ∙ c.in_ok-serving.ensures.only (serve name port connections) asks in cc

pub returns-in-Make-clause-only : goal.returns-in-Make-clause-only
returns-in-Make-clause-only c = λ name port connections asks.
    let e = sym (ap request_of c.in-Make.is) ∙ c.in_ok-serving.ensures.only (serve name port connections) asks in cc

pub returns-in-Report-clause-only : goal.returns-in-Report-clause-only
returns-in-Report-clause-only c = λ name port connections asks.
    let e = sym (ap request_of c.in-Report.is) ∙ c.in_ok-serving.ensures.only (serve name port connections) asks in cc
