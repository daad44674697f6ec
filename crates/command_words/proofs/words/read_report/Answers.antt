use Rattle.std.proofs.Common.{rules}
use Rattle.command_words.proofs.words.read_report.Goals as goal

pub returns-in_err-file-clause-only : goal.returns-in_err-file-clause-only
returns-in_err-file-clause-only c = λ input boxes gap asks. absurd (c.in_err-file.ensures.only input asks.file)

pub returns-in_err-boxes-clause-only : goal.returns-in_err-boxes-clause-only
returns-in_err-boxes-clause-only c = λ input boxes gap asks. absurd (c.in_err-boxes.ensures.only boxes asks.sought)

pub returns-in_err-gap-clause-only : goal.returns-in_err-gap-clause-only
returns-in_err-gap-clause-only c = λ input boxes gap asks. absurd (c.in_err-gap.ensures.only _ gap c.values_of.ensures asks.bridged)

pub returns-clause-only : goal.returns-clause-only
returns-clause-only c = λ input boxes gap asks. (
  c.in_ok-file.ensures.only input asks.file,
  c.in_ok-boxes.ensures.only boxes asks.sought,
  c.in_ok-gap.ensures.only _ gap c.values_of.ensures asks.bridged,
)

pub returns-clause-some : goal.returns-clause-some
returns-clause-some c = record {
  known = search rules;
  file = c.in_ok-file.ensures.some;
  sought = c.in_ok-boxes.ensures.some;
  bridged = c.in_ok-gap.ensures.some _ c.values_of.ensures;
}
