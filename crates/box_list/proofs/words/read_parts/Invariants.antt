use Rattle.std.proofs.Common.{◌≡◌, ◌++◌, ℕ, List, length}
use Rattle.std.specs.List.{AllZip}
use Rattle.order_keys.specs.Words.{SpellsBox}
use Rattle.box_list.specs.Lists.{box_parts, parts_behind}
use Rattle.box_list.proofs.words.read_parts.Given as goal

abbrev pub invariant-loop-rest : goal.invariant-loop-rest
invariant-loop-rest l = (front : List (List ℕ)) × (AllZip SpellsBox front l.boxes × (box_parts l.text ≡ front ++ parts_behind l.rest))

abbrev pub decreases-loop-rest : goal.decreases-loop-rest
decreases-loop-rest l = length (parts_behind l.rest)
