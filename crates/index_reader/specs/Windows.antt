-- The two windows that go through an index, whose first bytes are a node and its children.
use Rattle.std.specs.Prelude.{◌≡◌, ℕ, ◌+◌}
use Rattle.level_bounds.specs.Levels.{Shape, IsNode, place, first_child, node_count}
use Rattle.section_window.specs.Window.{Held}
use Rattle.node_items.specs.Nodes.{node_place}

-- the inner node with this number stands next in one window, and its first child in the other
pub record StandAt (t : Shape) (at number : ℕ) (parents nodes : Held) : Type 0 where
  pub parent : parents.at ≡ node_place at number
  pub inner : parents.end ≡ node_place at (place t 0 0)
  pub child : (k i : ℕ) → IsNode t (k + 1) i → number ≡ place t (k + 1) i → nodes.at ≡ node_place at (place t k (first_child t i))
  pub end : nodes.end ≡ node_place at (node_count t)
