use Rattle.std.proofs.Common.{◌≡◌, true, take}
use Rattle.std.specs.List.{list_all}
use Rattle.command_words.specs.Words.{is_known, texts}
use Rattle.command_words.proofs.given.are_known.Given as goal

abbrev pub invariant-loop-word : goal.invariant-loop-word
invariant-loop-word l = list_all (is_known (texts l.names)) (texts (take l.word-index l.words)) ≡ true
