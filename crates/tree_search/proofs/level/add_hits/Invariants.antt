use Rattle.std.proofs.Common.{◌≡◌, ◌++◌}
use Rattle.tree_search.specs.Wanted.{meets_box}
use Rattle.tree_search.specs.Descent.{group_hits}
use Rattle.tree_search.proofs.level.add_hits.Given as goal

abbrev pub invariant-loop-i : goal.invariant-loop-i
invariant-loop-i l = l.found.items ≡ l.fn.found.items ++ group_hits l.group l.first (meets_box l.bounds) l.i
