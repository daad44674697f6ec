-- Going through the leaves of an index.
use Rattle.std.proofs.Common.{◌≡◌, ℕ, ◌+◌, ◌*◌, ◌<◌, ◌≤◌, arith}
use Rattle.level_bounds.specs.Levels.{Shape, width, nodes_above}
use Rattle.level_bounds.proofs.Widths.{ceil_one}
use Rattle.index_reader.specs.declared.leaves.Leaves.{Leaves}
use Rattle.index_reader.specs.Going.{IsOver}

-- in front of the end there is a leaf
pub more_leaves : (l : Leaves) (at : ℕ) (t : Shape) → IsOver l at t → (here end : ℕ) → here ≡ l.window.at → end ≡ l.window.end → (here ≡ end → ⊥) → l.given < t.leaves
more_leaves l at t over here end stands ends before =
    more (nodes_above t 0) (width t 0) l.given t.leaves at l.window.at l.window.end over.stands over.ends (ceil_one t.leaves t.node_size) over.few (λ same. before (omega (arith, same, stands, ends)))
  where
    more : (a w given leaves at here end : ℕ) → here ≡ at + 40 * (a + given) → end ≡ at + 40 * (a + w) → w ≡ leaves → given ≤ leaves → (here ≡ end → ⊥) → given < leaves
    more a w given leaves at here end stands ends all few before = omega arith
