-- The nodes of a group.
use Rattle.std.specs.Prelude.{◌≡◌, ℕ, ◌+◌, ◌*◌, ◌-◌, ◌<◌, List, length, slice_range}
use Rattle.node_items.specs.declared.item.NodeItem.{NodeItem}
use Rattle.node_items.specs.declared.group.Group.{Group}
use Rattle.node_items.specs.Nodes.{node_of}

-- the number of its first node, and where the index begins in the file
abbrev pub first_of : Group → ℕ
first_of g = g.first

abbrev pub place_of : Group → ℕ
place_of g = g.place

-- its bytes, 40 for each node, and its i-th node
abbrev pub bytes_in : Group → List ℕ
bytes_in g = g.bytes.now

abbrev pub item_in : Group → ℕ → NodeItem
item_in g i = node_of (slice_range g.bytes.now (40 * i) (40 * i + 40))

-- it has the nodes that are stored under these numbers
pub record Holds (g : Group) (nodes : ℕ → NodeItem) (from till : ℕ) : Type 0 where
  pub first : first_of g ≡ from
  pub count : length (bytes_in g) ≡ 40 * (till - from)
  pub items : (i : ℕ) → from + i < till → item_in g i ≡ nodes (from + i)
