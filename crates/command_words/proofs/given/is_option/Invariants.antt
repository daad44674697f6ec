use Rattle.std.proofs.Common.{◌≡◌, false, take, nat_eq}
use Rattle.std.specs.List.{list_any, starts_with}
use Rattle.command_words.specs.Words.{texts}
use Rattle.command_words.proofs.given.is_option.Given as goal

abbrev pub invariant-loop-name : goal.invariant-loop-name
invariant-loop-name l = list_any (starts_with nat_eq l.word) (texts (take l.name-index l.names)) ≡ false
