use Rattle.command_words.specs.Words.{file_named}
use Rattle.command_words.proofs.words.read_serve.Goals as goal

pub returns-in_err-name-clause-only : goal.returns-in_err-name-clause-only
returns-in_err-name-clause-only c = λ name port connections asks. absurd (c.in_err-name.ensures.only (file_named name) asks.file)

pub returns-in_err-port-clause-only : goal.returns-in_err-port-clause-only
returns-in_err-port-clause-only c = λ name port connections asks. absurd (c.in_err-port.ensures.only port asks.at_port)

pub returns-in_err-connections-clause-only : goal.returns-in_err-connections-clause-only
returns-in_err-connections-clause-only c = λ name port connections asks. absurd (c.in_err-connections.ensures.only connections asks.as_often)
