-- The order in which a walk from the root of a packed R-tree down comes to its nodes (FlatGeobuf, "Index"): to each in
-- front of its children, and to those, and to all below them, in front of the next node of its group.
use Rattle.std.specs.Prelude.{◌≡◌, ◌⊎◌, ℕ, ◌+◌, ◌-◌, ◌*◌, ◌/◌, ◌^◌, ◌<◌, min, ltb, true, length, Bool, Option, Some, None}
use Rattle.std.specs.List.{filter, range_with_len}
use Rattle.order_keys.specs.declared.bounds.Bounds.{Bounds}
use Rattle.level_bounds.specs.Levels.{Shape, IsNode, place}
use Rattle.node_items.specs.declared.item.NodeItem.{NodeItem}
use Rattle.tree_search.specs.Wanted.{is_wanted}

-- the level of the node with this number, behind which so many levels begin, and its place in that level
unfoldable pub level_of : Shape → ℕ → ℕ
level_of t number = length (filter (λ k. ltb number (place t k 0)) (range_with_len 0 t.top))

abbrev pub index_of : Shape → ℕ → ℕ
index_of t number = number - place t (level_of t number) 0

-- the first of the leaves below node i of level k, and the first leaf behind them
abbrev pub first_leaf : Shape → ℕ → ℕ → ℕ
first_leaf t k i = i * t.node_size ^ k

abbrev pub leaf_behind : Shape → ℕ → ℕ → ℕ
leaf_behind t k i = min t.leaves ((i + 1) * t.node_size ^ k)

-- a walk stands in front of the node with this number, or behind all nodes: on this level, and the leaves in front of
-- this one have been passed
abbrev pub level_at : Shape → Option ℕ → ℕ
level_at t None = 0
level_at t (Some number) = level_of t number

unfoldable pub leaf_at : Shape → Option ℕ → ℕ
leaf_at t None = t.leaves
leaf_at t (Some number) = first_leaf t (level_of t number) (index_of t number)

-- it has passed node i of level k: the first leaf below that was passed, or is the next and stands below
abbrev pub IsPassed : Shape → ℕ → ℕ → Option ℕ → Type 0
IsPassed t k i stand = (first_leaf t k i < leaf_at t stand) ⊎ ((first_leaf t k i ≡ leaf_at t stand) × (level_at t stand < k))

-- whatever the boxes are, node j of level l is wanted where node i of level k is
abbrev pub IsWantedToo : Shape → ℕ → ℕ → ℕ → ℕ → Type 0
IsWantedToo t k i l j = (nodes : ℕ → NodeItem) (test : Bounds → Bool) → is_wanted t nodes test k i ≡ true → is_wanted t nodes test l j ≡ true

-- what the walk comes to behind node i of level k and all below it: nothing, or node j + 1 of level l, in whose group node
-- j stands in front of it, that node itself or one above it
pub data ComesBehind (t : Shape) (k i : ℕ) : Option ℕ → Type 0 where
  nothing : leaf_behind t k i ≡ t.leaves → ComesBehind t k i None
  sibling : (l j : ℕ) → IsNode t l (j + 1) → (j + 1) / t.node_size ≡ j / t.node_size → first_leaf t l (j + 1) ≡ leaf_behind t k i
      → IsWantedToo t k i l (j + 1) → ComesBehind t k i (Some (place t l (j + 1)))
