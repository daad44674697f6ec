-- The leaves that a search finds.
use Rattle.std.specs.Prelude.{ℕ}
use Rattle.level_bounds.specs.Levels.{Shape, place}
use Rattle.node_items.specs.declared.item.NodeItem.{NodeItem}
use Rattle.tree_search.specs.declared.search.Hit.{Hit}

-- node i of level k, and what is stored there
abbrev pub hit_of : Shape → (ℕ → NodeItem) → ℕ → ℕ → Hit
hit_of t nodes k i = record { number = i; item = nodes (place t k i) }
