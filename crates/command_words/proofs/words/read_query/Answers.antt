use Rattle.std.proofs.Common.{rules}
use Rattle.command_words.proofs.words.read_query.Goals as goal

pub returns-in_err-file-clause-only : goal.returns-in_err-file-clause-only
returns-in_err-file-clause-only c = λ input boxes gap condition output asks. absurd (c.in_err-file.ensures.only input asks.file)

pub returns-in_err-boxes-clause-only : goal.returns-in_err-boxes-clause-only
returns-in_err-boxes-clause-only c = λ input boxes gap condition output asks. absurd (c.in_err-boxes.ensures.only boxes asks.sought)

pub returns-in_err-gap-clause-only : goal.returns-in_err-gap-clause-only
returns-in_err-gap-clause-only c = λ input boxes gap condition output asks. absurd (c.in_err-gap.ensures.only _ gap c.values_of.ensures asks.bridged)

pub returns-in_err-condition-clause-only : goal.returns-in_err-condition-clause-only
returns-in_err-condition-clause-only c = λ input boxes gap condition output asks. absurd (c.in_err-condition.ensures.only _ condition c.values_of-2.ensures asks.filtered)

pub returns-in_err-output-clause-only : goal.returns-in_err-output-clause-only
returns-in_err-output-clause-only c = λ input boxes gap condition output asks. absurd (c.in_err-output.ensures.only _ output c.values_of-3.ensures asks.chosen)

pub returns-clause-only : goal.returns-clause-only
returns-clause-only c = λ input boxes gap condition output asks. (
  c.in_ok-file.ensures.only input asks.file,
  c.in_ok-boxes.ensures.only boxes asks.sought,
  c.in_ok-gap.ensures.only _ gap c.values_of.ensures asks.bridged,
  c.in_ok-condition.ensures.only _ condition c.values_of-2.ensures asks.filtered,
  c.in_ok-output.ensures.only _ output c.values_of-3.ensures asks.chosen,
)

pub returns-clause-some : goal.returns-clause-some
returns-clause-some c = record {
  known = search rules;
  file = c.in_ok-file.ensures.some;
  sought = c.in_ok-boxes.ensures.some;
  bridged = c.in_ok-gap.ensures.some _ c.values_of.ensures;
  filtered = c.in_ok-condition.ensures.some _ c.values_of-2.ensures;
  chosen = c.in_ok-output.ensures.some _ c.values_of-3.ensures;
}
