-- The nodes that are stored in the bytes of a packed tree break no rule.
use Rattle.std.proofs.Common.{◌≡◌, ℕ, zero, suc, ◌+◌, ◌-◌, ◌*◌, ◌^◌, ◌<◌, ◌≤◌, Bool, true, IsTrue, ◌&&◌, List, ◌∷◌, ◌++◌, length, sym, ap, subst, ◌∙◌, arith, add-one}
use Rattle.std.specs.List.{AllByRecursion, flat_map}
use Rattle.flat_layout.specs.declared.Rule.{Rule}
use Rattle.order_keys.specs.declared.bounds.Bounds.{Bounds}
use Rattle.order_keys.specs.Boxes.{Contains, contains, is_box}
use Rattle.order_keys.proofs.Order.{at_most_is}
use Rattle.level_bounds.specs.Levels.{Shape, IsShape, IsNode, width, place, node_count, first_child, children_end}
use Rattle.level_bounds.proofs.Places.{first_child_there, node_within}
use Rattle.node_items.specs.declared.item.NodeItem.{NodeItem}
use Rattle.node_items.specs.Faults.{BreaksTree, IsChild, no_box, not_first_child, not_around}
use Rattle.node_items.specs.Nodes.{bytes_of, stored}
use Rattle.tree_writer.specs.Packed.{IsStorable, blank, leaves_under, packed, packed_bytes, packed_nodes}
use Rattle.tree_writer.proofs.Boxes.{joined_is_box, joined_patterns}
use Rattle.tree_writer.proofs.Bytes.{length_nodes, stored_between}
use Rattle.tree_writer.proofs.Order.{packed_count, standing}
use Rattle.tree_writer.proofs.Slices.{all_slice, all_within}
use Rattle.tree_writer.proofs.Unders.{children_box, level_zero, run_around}

all_true : (p q r s : Bool) → IsTrue p → IsTrue q → IsTrue r → IsTrue s → IsTrue (p && q && r && s)
all_true p q r s a b c d = grind arith

contains_tested : (a b : Bounds) → Contains a b → contains a b ≡ true
contains_tested a b h =
    all_true _ _ _ _ ((at_most_is a.min_x.0 b.min_x.0).1 h.left) ((at_most_is a.min_y.0 b.min_y.0).1 h.below)
    ((at_most_is b.max_x.0 a.max_x.0).1 h.right) ((at_most_is b.max_y.0 a.max_y.0).1 h.above)

pub packed_long : (t : Shape) (leaves : List NodeItem) → length (packed_bytes t leaves) ≡ 40 * node_count t
unfolding packed_bytes
packed_long t leaves = length_nodes (packed_nodes t leaves) ∙ ap (λ n. 40 * n) (packed_count t leaves)

module _ (t : Shape) (leaves : List NodeItem) (shape : IsShape t) (all : length leaves ≡ t.leaves) where
  -- each node has a box
  packed_is_box : AllByRecursion IsStorable leaves → AllByRecursion (λ leaf. is_box leaf.bounds ≡ true) leaves
      → (k i : ℕ) → IsNode t k i → is_box (packed t leaves k i).bounds ≡ true
  unfolding packed
  packed_is_box fit each zero i is =
      all_within (λ (leaf : NodeItem). is_box leaf.bounds ≡ true) leaves i blank each (omega (arith, is.there, level_zero t leaves shape all))
  packed_is_box fit each (suc k) i is =
      let from = i * t.node_size ^ suc k in
      let till = (i + 1) * t.node_size ^ suc k in
      joined_is_box (leaves_under t leaves (suc k) i) (all_slice IsStorable leaves from till fit) (all_slice (λ (leaf : NodeItem). is_box leaf.bounds ≡ true) leaves from till each)

  -- an inner node lies around its children
  packed_around : (k i c : ℕ) → IsNode t (suc k) i → IsChild t k i c → contains (packed t leaves (suc k) i).bounds (packed t leaves k c).bounds ≡ true
  packed_around k i c is child =
      contains_tested (packed t leaves (suc k) i).bounds (packed t leaves k c).bounds
      (subst (λ (b : Bounds). Contains b (packed t leaves k c).bounds) (children_box t leaves shape all k i is.there)
      (run_around (packed t leaves k) (first_child t i) (children_end t k i - first_child t i) c child.first (omega (arith, child.first, child.end))))

  -- eight bytes hold each number of each node
  module _ (few : node_count t ≤ 2 ^ 64) (fit : AllByRecursion IsStorable leaves) where
    packed_fits : (k i : ℕ) → IsNode t k i → IsStorable (packed t leaves k i)
    unfolding packed
    packed_fits zero i is = all_within IsStorable leaves i blank fit (omega (arith, is.there, level_zero t leaves shape all))
    packed_fits (suc k) i is =
        let patterns = joined_patterns (leaves_under t leaves (suc k) i) (all_slice IsStorable leaves (i * t.node_size ^ suc k) ((i + 1) * t.node_size ^ suc k) fit) in
        let first : first_child t i < width t k = first_child_there t shape k i (subst (λ l. i < width t l) (sym (add-one k)) is.there) in
        let child : IsNode t k (first_child t i) = record { level = omega (arith, is.level); there = first } in
        record {
          min_x = patterns.min_x;
          min_y = patterns.min_y;
          max_x = patterns.max_x;
          max_y = patterns.max_y;
          offset = below (place t k (first_child t i)) (node_count t) (node_within t k (first_child t i) child) few;
        }
      where
        below : (p n : ℕ) → p < n → n ≤ 2 ^ 64 → p < 2 ^ 64
        below p n lt le = omega arith

    -- each is stored under its number
    pub packed_stored : (front back : List ℕ) (k i : ℕ) → IsNode t k i → stored ((front ++ packed_bytes t leaves) ++ back) (length front) (place t k i) ≡ packed t leaves k i
    unfolding packed_bytes
    packed_stored front back k i is =
        let s = standing t leaves k i is in
        ap (λ nodes. stored ((front ++ flat_map bytes_of nodes) ++ back) (length front) (place t k i)) s.whole
        ∙ ap (stored ((front ++ flat_map bytes_of (s.front ++ (packed t leaves k i ∷ s.back))) ++ back) (length front)) (sym s.count)
        ∙ stored_between front back s.front s.back (packed t leaves k i) (packed_fits k i is)

    module _ (each : AllByRecursion (λ leaf. is_box leaf.bounds ≡ true) leaves) (front back : List ℕ) where
      abbrev stored_node : ℕ → NodeItem
      stored_node = stored ((front ++ packed_bytes t leaves) ++ back) (length front)

      -- and breaks no rule
      pub packed_sound : (q : ℕ) (r : Rule) → BreaksTree t stored_node (length front) q r → ⊥
      unfolding packed
      packed_sound q r (no_box {k} {i} is wrong) =
          let right = ap (λ (v : NodeItem). is_box v.bounds) (packed_stored front back k i is) ∙ packed_is_box fit each k i is in
          cc
      packed_sound q r (not_first_child {k} {i} is wrong) = wrong (ap (λ (v : NodeItem). v.offset) (packed_stored front back (suc k) i is))
      packed_sound q r (not_around {k} {i} {c} is child wrong) =
          let below : IsNode t k c = record { level = omega (arith, is.level); there = omega (arith, child.end) } in
          let right = ap (λ (v : NodeItem). contains v.bounds (stored_node (place t k c)).bounds) (packed_stored front back (suc k) i is)
          ∙ ap (λ (v : NodeItem). contains (packed t leaves (suc k) i).bounds v.bounds) (packed_stored front back k c below)
          ∙ packed_around k i c is child in
          cc
