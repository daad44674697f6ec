use Rattle.std.proofs.Common.{take}
use Rattle.std.specs.List.{filter}
use Rattle.command_words.specs.Asking.{IsGiven}
use Rattle.command_words.specs.Words.{is_file_word, texts}
use Rattle.command_words.proofs.given.file_words.Given as goal

abbrev pub invariant-loop-word : goal.invariant-loop-word
invariant-loop-word l = IsGiven l.given (filter is_file_word (texts (take l.word-index l.words)))
