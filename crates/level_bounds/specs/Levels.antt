-- The levels of a packed R-tree (FlatGeobuf, "Index"): level 0 holds the leaves, one for each feature, and each level
-- above it has a node for each few nodes of the one below, up to the root.
use Rattle.std.specs.Prelude.{◌≡◌, ℕ, ◌+◌, ◌-◌, ◌*◌, ◌^◌, ◌<◌, ◌≤◌, min}
use Rattle.std.specs.Int.{div_ceil}
use Rattle.std.specs.List.{range_with_len, sum_by}

-- so many leaves, so many children of a node at most, and the level of the root
pub record Shape : Type 0 where
  pub leaves : ℕ
  pub node_size : ℕ
  pub top : ℕ

-- the number of nodes of level k, each of which stands above at most node_size ^ k leaves
abbrev pub width : Shape → ℕ → ℕ
width t k = div_ceil t.leaves (t.node_size ^ k)

-- the root's level is the first above the leaves that has one node
pub record IsShape (t : Shape) : Type 0 where
  pub some : 1 ≤ t.leaves
  pub wide : 2 ≤ t.node_size
  pub above : 1 ≤ t.top
  pub root : width t t.top ≡ 1
  pub least : (k : ℕ) → 1 ≤ k → width t k ≡ 1 → t.top ≤ k

-- the number of nodes of all levels above level k
unfoldable pub nodes_above : Shape → ℕ → ℕ
nodes_above t k = sum_by (width t) (range_with_len (k + 1) (t.top - k))

-- nodes are numbered from the root down, level by level: the number of node i of level k
abbrev pub place : Shape → ℕ → ℕ → ℕ
place t k i = nodes_above t k + i

-- the number of all nodes
abbrev pub node_count : Shape → ℕ
node_count t = place t 0 (width t 0)

-- the tree has a node i of level k
pub record IsNode (t : Shape) (k i : ℕ) : Type 0 where
  pub level : k ≤ t.top
  pub there : i < width t k

-- the children of node i of level k + 1 are these nodes of level k: from here on, and in front of there
abbrev pub first_child : Shape → ℕ → ℕ
first_child t i = t.node_size * i

abbrev pub children_end : Shape → ℕ → ℕ → ℕ
children_end t k i = min (t.node_size * (i + 1)) (width t k)

-- a tree over so many features, with nodes of so many children at most, in an index of at most 2^48 bytes
pub record HasLevels (features node_size : ℕ) (t : Shape) : Type 0 where
  pub shaped : IsShape t
  pub leaves : t.leaves ≡ features
  pub sized : t.node_size ≡ node_size
  pub fits : 40 * node_count t ≤ 2 ^ 48

-- why there is none
pub data LacksLevels (features node_size : ℕ) : Type 0 where
  no_feature : features ≡ 0 → LacksLevels features node_size
  too_narrow : node_size < 2 → LacksLevels features node_size
  too_many : {t : Shape} → IsShape t → t.leaves ≡ features → t.node_size ≡ node_size → 2 ^ 48 < 40 * node_count t → LacksLevels features node_size
