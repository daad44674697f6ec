-- The nodes of a packed R-tree over leaves in their order (FlatGeobuf, "Index"): the box of an inner node is the join of
-- the boxes of all leaves under it, from the first to the last, and its offset the number of its first child.
use Rattle.std.specs.Prelude.{ℕ, zero, suc, ◌+◌, ◌-◌, ◌*◌, ◌^◌, ◌<◌, List, fold, map, slice_range, slice_index_or}
use Rattle.std.specs.List.{flat_map, range_with_len}
use Rattle.order_keys.specs.declared.bounds.Bounds.{Bounds}
use Rattle.order_keys.specs.Boxes.{empty, join}
use Rattle.level_bounds.specs.Levels.{Shape, width, place, first_child}
use Rattle.node_items.specs.declared.item.NodeItem.{NodeItem}
use Rattle.node_items.specs.Nodes.{bytes_of}

-- the join of the boxes of some nodes, of equal keys the first's pattern
abbrev pub joined : List NodeItem → Bounds
joined nodes = fold (λ box node. join box node.bounds) empty nodes

-- no node
abbrev pub blank : NodeItem
blank = record { bounds = empty; offset = 0 }

-- eight bytes hold each of its numbers
pub record IsStorable (v : NodeItem) : Type 0 where
  pub min_x : v.bounds.min_x.0 < 2 ^ 64
  pub min_y : v.bounds.min_y.0 < 2 ^ 64
  pub max_x : v.bounds.max_x.0 < 2 ^ 64
  pub max_y : v.bounds.max_y.0 < 2 ^ 64
  pub offset : v.offset < 2 ^ 64

module _ (t : Shape) (leaves : List NodeItem) where
  -- the leaves under node i of level k
  abbrev pub leaves_under : ℕ → ℕ → List NodeItem
  leaves_under k i = slice_range leaves (i * t.node_size ^ k) ((i + 1) * t.node_size ^ k)

  -- node i of level k
  unfoldable pub packed : ℕ → ℕ → NodeItem
  packed zero i = slice_index_or leaves i blank
  packed (suc k) i = record { bounds = joined (leaves_under (suc k) i); offset = place t k (first_child t i) }

  -- all nodes, from the root down, level by level
  unfoldable pub packed_nodes : List NodeItem
  packed_nodes = flat_map (λ d. map (packed (t.top - d)) (range_with_len 0 (width t (t.top - d)))) (range_with_len 0 (t.top + 1))

  -- their bytes
  unfoldable pub packed_bytes : List ℕ
  packed_bytes = flat_map bytes_of packed_nodes
