use Rattle.std.proofs.Common.{◌≡◌, ℕ, ◌+◌, ◌*◌, ◌<◌, ◌++◌, length, Option}
use Rattle.box_list.specs.Lists.{meets_any}
use Rattle.tree_search.specs.Descent.{group_hits}
use Rattle.node_items.specs.Groups.{bytes_in}
use Rattle.box_search.specs.Following.{KeepNext}
use Rattle.box_search.specs.Hits.{behind_in, plains}
use Rattle.box_search.proofs.nodes.add_hits.Given as goal

abbrev pub invariant-loop-i : goal.invariant-loop-i
invariant-loop-i l = (plains l.found.items ≡ plains l.fn.found.items ++ group_hits l.group l.first (meets_any l.boxes) l.i)
    × ((next : ℕ → Option ℕ) → ((i : ℕ) → 40 * i < length (bytes_in l.group) → next (l.first + i) ≡ behind_in l.group l.behind i) → KeepNext next l.fn.found.items l.found.items)
