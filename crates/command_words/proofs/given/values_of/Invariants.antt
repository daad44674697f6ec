use Rattle.std.proofs.Common.{take}
use Rattle.command_words.specs.Asking.{IsGiven}
use Rattle.command_words.specs.Words.{texts, values}
use Rattle.command_words.proofs.given.values_of.Given as goal

abbrev pub invariant-loop-word : goal.invariant-loop-word
invariant-loop-word l = IsGiven l.given (values l.name (texts (take l.word-index l.words)))
