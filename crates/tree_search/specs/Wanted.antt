-- The search through a packed R-tree (FlatGeobuf, "Index"), from the root down through the nodes whose boxes pass a
-- test, as that they meet a box.
use Rattle.std.specs.Prelude.{◌≡◌, ◌≢◌, ◌&&◌, ℕ, suc, ◌+◌, ◌-◌, ◌/◌, ◌^◌, Bool, true, false, List, map}
use Rattle.std.specs.List.{filter, flat_map, list_all, range_with_len}
use Rattle.order_keys.specs.declared.bounds.Bounds.{Bounds}
use Rattle.order_keys.specs.Boxes.{meets, is_box, contains}
use Rattle.flat_layout.specs.declared.Rule.{Rule}
use Rattle.flat_layout.specs.declared.Rule.TheVariants.{NodeBox, ChildOffset, ParentBox}
use Rattle.level_bounds.specs.Levels.{Shape, IsNode, width, place, first_child}
use Rattle.node_items.specs.declared.item.NodeItem.{NodeItem}
use Rattle.node_items.specs.Faults.{IsChild}
use Rattle.node_items.specs.Nodes.{node_place}

-- the test that a box meets this one
abbrev pub meets_box : Bounds → Bounds → Bool
meets_box box b = meets b box

module _ (t : Shape) (nodes : ℕ → NodeItem) (test : Bounds → Bool) where
  -- the box of node i of level k passes
  abbrev pub passes : ℕ → ℕ → Bool
  passes k i = test (nodes (place t k i)).bounds

  -- a node is wanted where the boxes of all nodes above it pass: of its parent, and so on up to the root
  unfoldable pub is_wanted : ℕ → ℕ → Bool
  is_wanted k i = list_all (λ d. passes (k + d) (i / t.node_size ^ d)) (range_with_len 1 (t.top - k))

  -- the wanted nodes of level k, and those of them whose own boxes pass, too
  unfoldable pub wanted : ℕ → List ℕ
  wanted k = filter (is_wanted k) (range_with_len 0 (width t k))

  unfoldable pub hits : ℕ → List ℕ
  hits k = filter (λ i. is_wanted k i && passes k i) (range_with_len 0 (width t k))

  -- the numbers of all wanted nodes, from the root down
  unfoldable pub wanted_nodes : List ℕ
  wanted_nodes = flat_map (λ d. map (place t (t.top - d)) (wanted (t.top - d))) (range_with_len 0 (t.top + 1))

  -- rule r is broken at place q of an index that begins at this place, at a wanted node, or at an inner node on account
  -- of its wanted children
  pub data BreaksWanted (at : ℕ) : ℕ → Rule → Type 0 where
    no_box : {k i : ℕ} → IsNode t k i → is_wanted k i ≡ true → is_box (nodes (place t k i)).bounds ≡ false
        → BreaksWanted at (node_place at (place t k i)) NodeBox
    not_first_child : {k i : ℕ} → IsNode t (suc k) i → is_wanted (suc k) i ≡ true
        → (nodes (place t (suc k) i)).offset ≢ place t k (first_child t i)
        → BreaksWanted at (node_place at (place t (suc k) i)) ChildOffset
    not_around : {k i c : ℕ} → IsNode t (suc k) i → IsChild t k i c → is_wanted k c ≡ true
        → contains (nodes (place t (suc k) i)).bounds (nodes (place t k c)).bounds ≡ false
        → BreaksWanted at (node_place at (place t (suc k) i)) ParentBox

-- the positions of the bytes of these nodes, in an index that begins at this place
unfoldable pub node_positions : ℕ → List ℕ → List ℕ
node_positions at numbers = flat_map (λ n. range_with_len (node_place at n) 40) numbers
