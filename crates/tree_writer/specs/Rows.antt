-- The nodes of a packed tree, level by level.
use Rattle.std.specs.Prelude.{ℕ, ◌+◌, ◌-◌, List, map, slice_range}
use Rattle.std.specs.List.{flat_map, range_with_len}
use Rattle.level_bounds.specs.Levels.{Shape, width, place, first_child, children_end}
use Rattle.node_items.specs.declared.item.NodeItem.{NodeItem}
use Rattle.tree_writer.specs.Packed.{joined, packed}

-- the nodes of level k
abbrev pub level_nodes : Shape → List NodeItem → ℕ → List NodeItem
level_nodes t leaves k = map (packed t leaves k) (range_with_len 0 (width t k))

-- the nodes of the levels from the root down to level k
unfoldable pub nodes_to : Shape → List NodeItem → ℕ → List NodeItem
nodes_to t leaves k = flat_map (λ d. level_nodes t leaves (t.top - d)) (range_with_len 0 (t.top + 1 - k))

-- node i of level k + 1 over the nodes of level k
abbrev pub parent_over : Shape → List NodeItem → ℕ → ℕ → NodeItem
parent_over t nodes k i = record {
  bounds = joined (slice_range nodes (first_child t i) (children_end t k i));
  offset = place t k (first_child t i);
}
