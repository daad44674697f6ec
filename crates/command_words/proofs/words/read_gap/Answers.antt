use Rattle.std.proofs.Common.{subst, arith}
use Rattle.command_words.specs.Words.{told}
use Rattle.command_words.specs.Asking.{IsGiven}
use Rattle.command_words.proofs.words.read_gap.Goals as goal

pub returns-in_ok-read_within-in-Once-clause-some : goal.returns-in_ok-read_within-in-Once-clause-some
returns-in_ok-read_within-in-Once-clause-some c = λ found given. told _ (subst (λ g. IsGiven g found) c.in-Once.is given) c.in_ok-read_within-in-Once.ensures.some

pub returns-in_ok-read_within-in-Once-clause-short : goal.returns-in_ok-read_within-in-Once-clause-short
returns-in_ok-read_within-in-Once-clause-short c = let within = c.in_ok-read_within-in-Once.ensures.some in omega (arith, within.narrow)
