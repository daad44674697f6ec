use Rattle.command_words.proofs.words.read_convert.Goals as goal

pub returns-in_err-file-clause-only : goal.returns-in_err-file-clause-only
returns-in_err-file-clause-only c = λ input from to asks. absurd (c.in_err-file.ensures.only input asks.file)

pub returns-in_err-from-clause-only : goal.returns-in_err-from-clause-only
returns-in_err-from-clause-only c = λ input from to asks. absurd (c.in_err-from.ensures.only from asks.read_as)

pub returns-in_err-to-clause-only : goal.returns-in_err-to-clause-only
returns-in_err-to-clause-only c = λ input from to asks. absurd (c.in_err-to.ensures.only to asks.written_as)

pub returns-clause-only : goal.returns-clause-only
returns-clause-only c = λ input from to asks. (
  c.in_ok-file.ensures.only input asks.file,
  c.in_ok-from.ensures.only from asks.read_as,
  c.in_ok-to.ensures.only to asks.written_as,
)
