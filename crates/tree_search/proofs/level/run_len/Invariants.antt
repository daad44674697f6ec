use Rattle.std.proofs.Common.{◌≡◌, take}
use Rattle.std.specs.List.{range_with_len}
use Rattle.tree_search.specs.Descent.{numbers}
use Rattle.tree_search.proofs.level.run_len.Given as goal

abbrev pub invariant-loop-i : goal.invariant-loop-i
invariant-loop-i l = numbers (take l.i l.nodes) ≡ range_with_len l.first l.i
