-- What is broken in a packed R-tree, whose nodes are stored under their numbers in an index that begins at a place of
-- the file: as a relation over the whole tree, and as lists, in the order in which a group of nodes is judged.
use Rattle.std.specs.Prelude.{◌≡◌, ◌≢◌, ◌==◌, ℕ, zero, suc, ◌+◌, ◌-◌, ◌<◌, ◌≤◌, Bool, true, false, List, [], ◌∷◌, ◌++◌, Result, MatchResult}
use Rattle.std.specs.List.{flat_map, list_all, range_with_len}
use Rattle.flat_layout.specs.declared.Rule.{Rule}
use Rattle.flat_layout.specs.declared.Rule.TheVariants.{NodeBox, ChildOffset, ParentBox}
use Rattle.flat_layout.specs.declared.Broken.{Broken}
use Rattle.order_keys.specs.Boxes.{is_box, contains}
use Rattle.level_bounds.specs.Levels.{Shape, IsNode, place, first_child, children_end}
use Rattle.node_items.specs.declared.item.NodeItem.{NodeItem}
use Rattle.node_items.specs.Nodes.{node_place}

-- node c of level k is a child of node i of the level above
pub record IsChild (t : Shape) (k i c : ℕ) : Type 0 where
  pub first : first_child t i ≤ c
  pub end : c < children_end t k i

-- rule r is broken at place q: a node has no box, an inner node does not name its first child, or does not lie around
-- a child
pub data BreaksTree (t : Shape) (nodes : ℕ → NodeItem) (at : ℕ) : ℕ → Rule → Type 0 where
  no_box : {k i : ℕ} → IsNode t k i → is_box (nodes (place t k i)).bounds ≡ false
      → BreaksTree t nodes at (node_place at (place t k i)) NodeBox
  not_first_child : {k i : ℕ} → IsNode t (suc k) i → (nodes (place t (suc k) i)).offset ≢ place t k (first_child t i)
      → BreaksTree t nodes at (node_place at (place t (suc k) i)) ChildOffset
  not_around : {k i c : ℕ} → IsNode t (suc k) i → IsChild t k i c → contains (nodes (place t (suc k) i)).bounds (nodes (place t k c)).bounds ≡ false
      → BreaksTree t nodes at (node_place at (place t (suc k) i)) ParentBox

-- one refusal, where a test fails
abbrev pub refusal : Bool → ℕ → Rule → List Broken
refusal true at rule = []
refusal false at rule = record { place = at; rule = rule } ∷ []

-- an inner node names its first child; the offset of a leaf is judged with its feature
abbrev pub names_child : Shape → ℕ → ℕ → ℕ → Bool
names_child t zero i offset = true
names_child t (suc k) i offset = offset == place t k (first_child t i)

module _ (t : Shape) (nodes : ℕ → NodeItem) (at : ℕ) where
  -- of node i of level k by itself: its box, then its offset
  unfoldable pub node_faults : ℕ → ℕ → List Broken
  node_faults k i =
      refusal (is_box (nodes (place t k i)).bounds) (node_place at (place t k i)) NodeBox
      ++ refusal (names_child t k i (nodes (place t k i)).offset) (node_place at (place t k i)) ChildOffset

  -- the children of node i of level k + 1
  abbrev pub children : ℕ → ℕ → List ℕ
  children k i = range_with_len (first_child t i) (children_end t k i - first_child t i)

  -- of a node on account of its children, which its box contains
  unfoldable pub parent_faults : ℕ → ℕ → List Broken
  parent_faults k i =
      refusal (list_all (λ c. contains (nodes (place t (k + 1) i)).bounds (nodes (place t k c)).bounds) (children k i))
      (node_place at (place t (suc k) i)) ParentBox

  -- of the children of node i of level k + 1, one after another, and then of that node on their account
  unfoldable pub group_faults : ℕ → ℕ → List Broken
  group_faults k i = flat_map (node_faults k) (children k i) ++ parent_faults k i

  -- of the root by itself, which is a group of one
  abbrev pub root_faults : List Broken
  root_faults = node_faults t.top 0

-- Ok exactly where there is no fault, and each refusal is the first of them
abbrev pub IsFirstOf : {T : Type 0} → List Broken → Result T Broken → Type 0
IsFirstOf faults result = MatchResult result (λ _. faults ≡ []) (λ broken. (rest : List Broken) × (faults ≡ broken ∷ rest))
