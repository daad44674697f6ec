-- The nodes of a level from those of the one below it, and all nodes from the root down.
use Rattle.std.proofs.Common.{◌≡◌, ℕ, zero, suc, ◌+◌, ◌*◌, ◌<◌, ◌≤◌, min, List, [], ◌∷◌, ◌++◌, length, take, get_or, map, Result, Ok, Err, OnOk, refl, sym, ap, subst, ◌∙◌, arith, add-one}
use Rattle.std.specs.List.{flat_map, range_with_len}
use Rattle.std.proofs.lemmas.Grind.{flat_map-append}
use Rattle.std.proofs.lemmas.List.{take_all, take_more}
use Rattle.std.proofs.lemmas.List.FromFn.{length-map-range_with_len, map-range_with_len_more}
use Rattle.order_keys.specs.declared.bounds.Bounds.{Bounds}
use Rattle.level_bounds.specs.Levels.{Shape, IsShape, width, place, first_child, children_end}
use Rattle.level_bounds.proofs.Places.{first_child_there}
use Rattle.node_items.specs.declared.item.NodeItem.{NodeItem}
use Rattle.node_items.specs.Nodes.{bytes_of}
use Rattle.tree_writer.specs.Packed.{blank, joined, packed, packed_bytes}
use Rattle.tree_writer.specs.Rows.{level_nodes, nodes_to, parent_over}
use Rattle.tree_writer.proofs.Order.{nodes_to_leaves, nodes_to_more, nodes_to_root}
use Rattle.tree_writer.proofs.Slices.{slice_map}
use Rattle.tree_writer.proofs.Unders.{children_box, level_zero}

-- what follows from success
pub on_ok : {T E : Type 0} (r : Result T E) (P Q : Type 0) → (P → Q) → OnOk r P → OnOk r Q
on_ok (Ok x) P Q f h = f h
on_ok (Err e) P Q f h = tt

map_same : (f g : ℕ → NodeItem) (a n : ℕ) → ((i : ℕ) → a ≤ i → i < a + n → f i ≡ g i) → map f (range_with_len a n) ≡ map g (range_with_len a n)
map_same f g a zero same = refl
map_same f g a (suc n) same =
    ap (λ (v : NodeItem). v ∷ map f (range_with_len (a + 1) n)) (same a (omega arith) (omega arith))
    ∙ ap (λ l. g a ∷ l) (map_same f g (a + 1) n (λ i from till. same i (omega arith) (omega arith)))

numbered_front : (xs : List NodeItem) (n : ℕ) → n ≤ length xs → map (λ i. get_or xs i blank) (range_with_len 0 n) ≡ take n xs
numbered_front xs zero within = refl
numbered_front xs (suc n) within =
    let here : 0 + n ≡ n = omega arith in
    let next : suc n ≡ n + 1 = omega arith in
    ap (λ m. map (λ i. get_or xs i blank) (range_with_len 0 m)) next
    ∙ map-range_with_len_more (λ i. get_or xs i blank) 0 n n here
    ∙ ap (λ l. l ++ (get_or xs n blank ∷ [])) (numbered_front xs n (omega arith))
    ∙ sym (take_more xs n blank (omega arith))
    ∙ ap (λ m. take m xs) (sym next)

-- how many nodes are lent
pub as_many : (f : ℕ → NodeItem) (w : ℕ) (shown items : List NodeItem) → shown ≡ items → items ≡ map f (range_with_len 0 w) → length shown ≡ w
as_many f w shown items lent is = ap length (lent ∙ is) ∙ length-map-range_with_len f 0 w

module _ (t : Shape) (leaves : List NodeItem) where
  -- the root
  pub root_bytes : (k : ℕ) (nodes : List NodeItem) → k ≡ t.top → nodes ≡ level_nodes t leaves k → flat_map bytes_of nodes ≡ flat_map bytes_of (nodes_to t leaves k)
  root_bytes k nodes top are =
      ap (flat_map bytes_of) (are ∙ ap (level_nodes t leaves) top ∙ sym (nodes_to_root t leaves) ∙ ap (nodes_to t leaves) (sym top))

  -- a level below it
  pub level_bytes : (k : ℕ) (nodes : List NodeItem) → k < t.top → nodes ≡ level_nodes t leaves k
      → flat_map bytes_of (nodes_to t leaves (k + 1)) ++ flat_map bytes_of nodes ≡ flat_map bytes_of (nodes_to t leaves k)
  level_bytes k nodes below are =
      ap (λ l. flat_map bytes_of (nodes_to t leaves (k + 1)) ++ flat_map bytes_of l) are
      ∙ sym (flat_map-append bytes_of (nodes_to t leaves (k + 1)) (level_nodes t leaves k))
      ∙ ap (flat_map bytes_of) (sym (nodes_to_more t leaves k below))

  -- all levels
  pub all_bytes : flat_map bytes_of (nodes_to t leaves 0) ≡ packed_bytes t leaves
  unfolding packed_bytes
  all_bytes = ap (flat_map bytes_of) (nodes_to_leaves t leaves)

  module _ (shape : IsShape t) (all : length leaves ≡ t.leaves) where
    pub level_leaves : leaves ≡ level_nodes t leaves 0
    unfolding packed
    level_leaves =
        sym (ap (λ n. map (packed t leaves 0) (range_with_len 0 n)) (level_zero t leaves shape all) ∙ numbered_front leaves (length leaves) (omega arith) ∙ take_all (length leaves) leaves (omega arith))

    parent_packed : (k i : ℕ) → i < width t (suc k) → parent_over t (level_nodes t leaves k) k i ≡ packed t leaves (suc k) i
    unfolding packed
    parent_packed k i there =
        let inside = first_child_there t shape k i (subst (λ l. i < width t l) (sym (add-one k)) there) in
        ap (λ (b : Bounds). let v : NodeItem = record { bounds = b; offset = place t k (first_child t i) } in v)
        (ap joined (slice_map (packed t leaves k) (width t k) (first_child t i) (children_end t k i) (least (t.node_size * i) (t.node_size * (i + 1)) (width t k) (omega arith) inside) (most (t.node_size * (i + 1)) (width t k)))
        ∙ children_box t leaves shape all k i there)
      where
        least : (a b w : ℕ) → a ≤ b → a < w → a ≤ min b w
        least a b w le lt = omega arith

        most : (b w : ℕ) → min b w ≤ w
        most b w = omega arith

    pub next_level : (k : ℕ) (nodes shown parents : List NodeItem) → nodes ≡ level_nodes t leaves k → shown ≡ parents → parents ≡ map (parent_over t nodes k) (range_with_len 0 (width t (k + 1))) → shown ≡ level_nodes t leaves (k + 1)
    next_level k nodes shown parents are lent over =
        lent
        ∙ over
        ∙ ap (λ l. map (parent_over t l k) (range_with_len 0 (width t (k + 1)))) are
        ∙ map_same (parent_over t (level_nodes t leaves k) k) (packed t leaves (k + 1)) 0 (width t (k + 1)) (λ i from till.
        parent_packed k i (subst (λ l. i < width t l) (add-one k) (omega arith)) ∙ ap (λ l. packed t leaves l i) (sym (add-one k)))
