use Rattle.command_words.proofs.words.read_make.Goals as goal

pub returns-in_err-count-clause-only : goal.returns-in_err-count-clause-only
returns-in_err-count-clause-only c = λ count start asks. absurd (c.in_err-count.ensures.only count asks.so_many)

pub returns-in_err-start-clause-only : goal.returns-in_err-start-clause-only
returns-in_err-start-clause-only c = λ count start asks. absurd (c.in_err-start.ensures.only start asks.from_on)

pub returns-clause-only : goal.returns-clause-only
returns-clause-only c = λ count start asks. (c.in_ok-count.ensures.only count asks.so_many, c.in_ok-start.ensures.only start asks.from_on)
