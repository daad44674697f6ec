-- Nodes that stand side by side.
use Rattle.std.proofs.Common.{◌≡◌, ℕ, zero, suc, ◌+◌, ◌-◌, ◌*◌, ◌<◌, ◌≤◌, min, List, [], ◌∷◌, ◌++◌, length, take, get_or, refl, sym, ap, subst, ◌∙◌, arith}
use Rattle.std.specs.Prelude.{slice_get, Some}
use Rattle.std.specs.List.{range_with_len}
use Rattle.std.proofs.Math.Nat.{mul-le-mul_left}
use Rattle.std.proofs.lemmas.Option.{slice_get_past}
use Rattle.std.proofs.lemmas.List.{map-append, take_more}
use Rattle.std.proofs.lemmas.List.FromFn.{get_or-range_with_len}
use Rattle.fgb_outside.proofs.Asking.{range_with_len-append}
use Rattle.level_bounds.specs.Levels.{Shape, IsShape, IsNode, width, place, nodes_above, first_child, children_end}
use Rattle.level_bounds.proofs.Places.{first_child_there, inner_in_front}
use Rattle.node_items.specs.Nodes.{node_place}
use Rattle.tree_search.specs.declared.search.Hit.{Hit}
use Rattle.tree_search.specs.Descent.{AreNeighbours, children_before, numbers, first_number}
use Rattle.tree_search.proofs.Offsets.{number_is}

-- what a read past the end would give
abbrev pub blank : Hit
blank = record {
  number = 0;
  item = record { bounds = record { min_x = record { 0 = 0 }; min_y = record { 0 = 0 }; max_x = record { 0 = 0 }; max_y = record { 0 = 0 } }; offset = 0 };
}

pub first_is : (hits : List Hit) (d : Hit) → 0 < length hits → (get_or hits 0 d).number ≡ first_number hits
first_is [] d some = absurd (omega arith)
first_is (h ∷ hits) d some = refl

-- one more neighbour
pub neighbour_more : (hits : List Hit) (first i : ℕ) (d : Hit) → i < length hits → (get_or hits i d).number ≡ first + i
    → numbers (take i hits) ≡ range_with_len first i → numbers (take (i + 1) hits) ≡ range_with_len first (i + 1)
neighbour_more hits first i d there next so_far =
    ap numbers (take_more hits i d there) ∙ map-append (λ (n : Hit). n.number) (take i hits) (get_or hits i d ∷ [])
    ∙ ap (λ n. numbers (take i hits) ++ n ∷ []) next
    ∙ ap (λ l. l ++ (first + i) ∷ []) so_far
    ∙ sym (range_with_len-append first i 1)

-- the i-th of them
pub neighbour_is : (hits : List Hit) (i : ℕ) (d : Hit) → AreNeighbours hits → i < length hits → (get_or hits i d).number ≡ first_number hits + i
neighbour_is hits i d are under =
    number_of hits i d under
    ∙ ap (λ l. get_or l i 0) are
    ∙ get_or-range_with_len (first_number hits) (length hits) i 0 under
  where
    number_of : (hits : List Hit) (i : ℕ) (d : Hit) → i < length hits → (get_or hits i d).number ≡ get_or (numbers hits) i 0
    number_of [] i d under = absurd (omega arith)
    number_of (h ∷ hits) zero d under = refl
    number_of (h ∷ hits) (suc i) d under = number_of hits i d (omega arith)

-- nothing stands behind all of them
pub none_behind : (hits : List Hit) (h : Hit) → slice_get hits (length hits) ≡ Some h → ⊥
none_behind hits h is = let none = slice_get_past hits (length hits) (omega arith) in cc

-- neighbours in a level of inner nodes
module _ (t : Shape) (shape : IsShape t) (k : ℕ) (run : List Hit) (are : AreNeighbours run) (below : k < t.top) (there : first_number run + length run ≤ width t (k + 1)) where
  pub run_node : (i : ℕ) (d : Hit) → i < length run → IsNode t (k + 1) (get_or run i d).number
  run_node i d under = record { level = omega arith; there = omega (arith, neighbour_is run i d are under) }

  pub run_in_front : (begins i : ℕ) (d : Hit) → begins ≡ place t (k + 1) 0 → i < length run → begins + (get_or run i d).number < place t 0 0
  run_in_front begins i d e under =
      subst (λ n. n < place t 0 0) (sym (number_is t (k + 1) (get_or run i d).number begins e)) (inner_in_front t k (get_or run i d).number (run_node i d under))

  -- the children of the last of them end where those of all of them do
  pub run_end : (d : Hit) → 0 < length run → children_end t k (get_or run (length run - 1) d).number ≡ children_before t k (first_number run + length run)
  run_end d some =
      let last : (get_or run (length run - 1) d).number + 1 ≡ first_number run + length run = omega (arith, neighbour_is run (length run - 1) d are (omega arith)) in
      ap (λ n. min (t.node_size * n) (width t k)) last

-- the first child of a node stands in front of where the children of this node and of nodes behind it end
pub first_before : (t : Shape) → IsShape t → (k i j : ℕ) → i < width t (k + 1) → i ≤ j → first_child t i ≤ children_before t k j
first_before t shape k i j there order =
    let inside = first_child_there t shape k i there in
    let further : t.node_size * i ≤ t.node_size * j = mul-le-mul_left t.node_size order in
    least (t.node_size * i) (t.node_size * j) (width t k) further inside
  where
    least : (a b w : ℕ) → a ≤ b → a < w → a ≤ min b w
    least a b w le lt = omega arith

-- children stand inside their level
pub before_within : (t : Shape) (k j : ℕ) → children_before t k j ≤ width t k
before_within t k j = least (t.node_size * j) (width t k)
  where
    least : (b w : ℕ) → min b w ≤ w
    least b w = omega arith

pub before_order : (t : Shape) (k i j : ℕ) → i ≤ j → children_before t k i ≤ children_before t k j
before_order t k i j order = least (t.node_size * i) (t.node_size * j) (width t k) (mul-le-mul_left t.node_size order)
  where
    least : (a b w : ℕ) → a ≤ b → min a w ≤ min b w
    least a b w le = omega arith

-- where a node is there, its first child stands behind those of the nodes in front of it
pub before_first : (t : Shape) → IsShape t → (k i : ℕ) → i < width t (k + 1) → children_before t k i ≡ first_child t i
before_first t shape k i there = least (t.node_size * i) (width t k) (first_child_there t shape k i there)
  where
    least : (a w : ℕ) → a < w → min a w ≡ a
    least a w lt = omega arith

-- a level's places in order
pub place_order : (t : Shape) (k i j at : ℕ) → i ≤ j → node_place at (place t k i) ≤ node_place at (place t k j)
place_order t k i j at order = along (nodes_above t k)
  where
    along : (a : ℕ) → at + 40 * (a + i) ≤ at + 40 * (a + j)
    along a = omega arith

-- children of the nodes in front of one
pub before_none : (t : Shape) (k : ℕ) → children_before t k 0 ≡ 0
before_none t k = none t.node_size (width t k)
  where
    none : (s w : ℕ) → min (s * 0) w ≡ 0
    none s w = omega arith

pub before_under : (t : Shape) (k i j : ℕ) → i ≤ j → children_before t k i ≤ first_child t j
before_under t k i j order = least (t.node_size * i) (t.node_size * j) (width t k) (mul-le-mul_left t.node_size order)
  where
    least : (a b w : ℕ) → a ≤ b → min a w ≤ b
    least a b w le = omega arith
