-- A node from those of the level below it.
use Rattle.std.proofs.Common.{◌≡◌, ℕ, ◌+◌, ◌-◌, ◌*◌, ◌<◌, ◌≤◌, min, List, [], ◌∷◌, ◌++◌, map, ap, subst, sym, ◌∙◌, arith}
use Rattle.std.specs.List.{range_with_len}
use Rattle.std.proofs.lemmas.List.FromFn.{map-range_with_len_more}
use Rattle.std.specs.Prelude.{slice_range}
use Rattle.order_keys.specs.declared.bounds.Bounds.{Bounds}
use Rattle.level_bounds.specs.Levels.{Shape, IsNode, width, place, nodes_above, first_child, children_end}
use Rattle.level_bounds.proofs.Places.{inner_in_front}
use Rattle.node_items.specs.declared.item.NodeItem.{NodeItem}
use Rattle.tree_writer.specs.Packed.{joined}
use Rattle.tree_writer.specs.Rows.{parent_over}

module _ (t : Shape) (k i base first : ℕ) (below : k < t.top) (there : i < width t (k + 1)) (begins : base ≡ place t k 0) (starts : first ≡ place t (k + 1) 0) where
  pub is_node : IsNode t (k + 1) i
  is_node = record { level = omega arith; there = there }

  pub numbered : first + i ≡ place t (k + 1) i
  numbered = along (nodes_above t (k + 1)) starts
    where
      along : (a : ℕ) → first ≡ a + 0 → first + i ≡ a + i
      along a e = omega arith

  pub is_inner : first + i < place t 0 0
  is_inner = subst (λ n. n < place t 0 0) (sym numbered) (inner_in_front t k i is_node)

  -- its children, counted from the first node of their level on
  module _ (from till : ℕ) (are : (from ≡ place t k (first_child t i)) × (till ≡ place t k (children_end t k i))) where
    back : (a c n : ℕ) → base ≡ a + 0 → n ≡ a + c → n - base ≡ c
    back a c n e f = omega arith

    from_child : from - base ≡ first_child t i
    from_child = back (nodes_above t k) (first_child t i) from begins are.0

    till_child : till - base ≡ children_end t k i
    till_child = back (nodes_above t k) (children_end t k i) till begins are.1

    pub children_behind : base ≤ from
    children_behind = front (nodes_above t k) (first_child t i) begins are.0
      where
        front : (a c : ℕ) → base ≡ a + 0 → from ≡ a + c → base ≤ from
        front a c e f = omega arith

    pub children_within : till - base ≤ width t k
    children_within = inside (nodes_above t k) (t.node_size * (i + 1)) (width t k) begins are.1
      where
        inside : (a c w : ℕ) → base ≡ a + 0 → till ≡ a + min c w → till - base ≤ w
        inside a c w e f = omega arith

    -- the node over them
    pub parent_is : (nodes : List NodeItem) (bounds : Bounds) → bounds ≡ joined (slice_range nodes (from - base) (till - base))
        → (let v : NodeItem = record { bounds = bounds; offset = from } in v) ≡ parent_over t nodes k i
    parent_is nodes bounds is =
        same_node bounds (joined (slice_range nodes (first_child t i) (children_end t k i))) from (place t k (first_child t i))
        (is ∙ ap joined (ap (λ a. slice_range nodes a (till - base)) from_child ∙ ap (slice_range nodes (first_child t i)) till_child)) are.0
      where
        same_node : (a b : Bounds) (p q : ℕ) → a ≡ b → p ≡ q → (let v : NodeItem = record { bounds = a; offset = p } in v) ≡ record { bounds = b; offset = q }
        same_node a b p q e f = cc

-- one more of them
pub parent_more : (f : ℕ → NodeItem) (i : ℕ) (old new : List NodeItem) (v : NodeItem) → old ≡ map f (range_with_len 0 i) → v ≡ f i → new ≡ old ++ v ∷ [] → new ≡ map f (range_with_len 0 (i + 1))
parent_more f i old new v so_far is pushed =
    let here : 0 + i ≡ i = omega arith in
    pushed ∙ ap (λ l. l ++ v ∷ []) so_far ∙ ap (λ (u : NodeItem). map f (range_with_len 0 i) ++ u ∷ []) is ∙ sym (map-range_with_len_more f 0 i i here)
