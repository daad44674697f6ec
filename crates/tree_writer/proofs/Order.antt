-- Where the nodes stand, from the root down, level by level.
use Rattle.std.proofs.Common.{◌≡◌, ℕ, zero, suc, ◌+◌, ◌-◌, ◌<◌, ◌≤◌, List, [], ◌∷◌, ◌++◌, length, map, sym, ap, subst, ◌∙◌, append_assoc, arith, length-append}
use Rattle.std.specs.List.{flat_map, range_with_len}
use Rattle.std.proofs.lemmas.Grind.{flat_map-append}
use Rattle.std.proofs.lemmas.List.{append-nil, map-append}
use Rattle.std.proofs.lemmas.List.FromFn.{length-map-range_with_len}
use Rattle.fgb_outside.proofs.Asking.{range_with_len-append}
use Rattle.level_bounds.specs.Levels.{Shape, IsNode, width, place, nodes_above, node_count}
use Rattle.level_bounds.proofs.Above.{levels_stand}
use Rattle.node_items.specs.declared.item.NodeItem.{NodeItem}
use Rattle.tree_writer.specs.Packed.{packed, packed_nodes}
use Rattle.tree_writer.specs.Rows.{level_nodes, nodes_to}

part_more : {A : Type 0} (f : ℕ → List A) (a n : ℕ) → flat_map f (range_with_len a (n + 1)) ≡ flat_map f (range_with_len a n) ++ f (a + n)
part_more f a n =
    ap (flat_map f) (range_with_len-append a n 1) ∙ flat_map-append f (range_with_len a n) ((a + n) ∷ [])
    ∙ ap (λ l. flat_map f (range_with_len a n) ++ l) (append-nil (f (a + n)))

module _ (t : Shape) (leaves : List NodeItem) where
  at_depth : ℕ → List NodeItem
  at_depth d = level_nodes t leaves (t.top - d)

  pub nodes_to_root : nodes_to t leaves t.top ≡ level_nodes t leaves t.top
  unfolding nodes_to at_depth
  nodes_to_root =
      let one : t.top + 1 - t.top ≡ 1 = omega arith in
      let root : t.top - 0 ≡ t.top = omega arith in
      ap (λ n. flat_map at_depth (range_with_len 0 n)) one ∙ append-nil (at_depth 0) ∙ ap (level_nodes t leaves) root

  -- one more level
  pub nodes_to_more : (k : ℕ) → k < t.top → nodes_to t leaves k ≡ nodes_to t leaves (k + 1) ++ level_nodes t leaves k
  unfolding nodes_to at_depth
  nodes_to_more k below =
      let more : t.top + 1 - k ≡ t.top + 1 - (k + 1) + 1 = omega arith in
      let here : t.top - (0 + (t.top + 1 - (k + 1))) ≡ k = omega arith in
      ap (λ n. flat_map at_depth (range_with_len 0 n)) more ∙ part_more at_depth 0 (t.top + 1 - (k + 1))
      ∙ ap (λ l. flat_map at_depth (range_with_len 0 (t.top + 1 - (k + 1))) ++ level_nodes t leaves l) here

  pub nodes_to_leaves : nodes_to t leaves 0 ≡ packed_nodes t leaves
  unfolding nodes_to at_depth packed_nodes
  nodes_to_leaves = let all : t.top + 1 - 0 ≡ t.top + 1 = omega arith in ap (λ n. flat_map at_depth (range_with_len 0 n)) all

  -- what is behind a level
  behind : (k : ℕ) → k ≤ t.top → (rest : List NodeItem) × (packed_nodes t leaves ≡ nodes_to t leaves k ++ rest)
  unfolding nodes_to at_depth packed_nodes
  behind k under =
      let all : t.top + 1 ≡ t.top + 1 - k + k = omega arith in (
        flat_map at_depth (range_with_len (0 + (t.top + 1 - k)) k),
        ap (λ n. flat_map at_depth (range_with_len 0 n)) all
            ∙ ap (flat_map at_depth) (range_with_len-append 0 (t.top + 1 - k) k)
            ∙ flat_map-append at_depth (range_with_len 0 (t.top + 1 - k)) (range_with_len (0 + (t.top + 1 - k)) k),
      )

  -- how many nodes stand above a level, and in it
  record Above (k : ℕ) : Type 0 where
    pub nodes : List NodeItem
    pub whole : nodes_to t leaves k ≡ nodes ++ level_nodes t leaves k
    pub count : length nodes ≡ nodes_above t k

  counted : (k : ℕ) → Above k → length (nodes_to t leaves k) ≡ place t k (width t k)
  counted k above =
      ap length above.whole ∙ length-append above.nodes (level_nodes t leaves k)
      ∙ ap (λ n. n + length (level_nodes t leaves k)) above.count ∙ ap (λ n. nodes_above t k + n) (length-map-range_with_len (packed t leaves k) 0 (width t k))

  above_by : (d k : ℕ) → k + d ≡ t.top → Above k
  above_by zero k e =
      let root : t.top ≡ k = omega arith in
      subst Above root (record { nodes = []; whole = nodes_to_root; count = sym (levels_stand t).root })
  above_by (suc d) k e = record {
    nodes = nodes_to t leaves (k + 1);
    whole = nodes_to_more k (omega arith);
    count = counted (k + 1) (above_by d (k + 1) (omega arith)) ∙ sym ((levels_stand t).next k (omega arith));
  }

  above_level : (k : ℕ) → k ≤ t.top → Above k
  above_level k under = above_by (t.top - k) k (omega arith)

  pub packed_count : length (packed_nodes t leaves) ≡ node_count t
  packed_count = ap length (sym nodes_to_leaves) ∙ counted 0 (above_level 0 (omega arith))

  -- a node and what stands in front of it and behind it
  pub record Standing (k i : ℕ) : Type 0 where
    pub front : List NodeItem
    pub back : List NodeItem
    pub whole : packed_nodes t leaves ≡ front ++ (packed t leaves k i ∷ back)
    pub count : length front ≡ place t k i

  level_split : (k i : ℕ) → i < width t k → (rest : List NodeItem) × (level_nodes t leaves k ≡ map (packed t leaves k) (range_with_len 0 i) ++ (packed t leaves k i ∷ rest))
  level_split k i there =
      let f = packed t leaves k in
      let all : width t k ≡ i + suc (width t k - (i + 1)) = omega arith in
      let here : 0 + i ≡ i = omega arith in (
        map f (range_with_len (i + 1) (width t k - (i + 1))),
        ap (λ n. map f (range_with_len 0 n)) all ∙ ap (map f) (range_with_len-append 0 i (suc (width t k - (i + 1))))
            ∙ map-append f (range_with_len 0 i) (range_with_len (0 + i) (suc (width t k - (i + 1))))
            ∙ ap (λ n. map f (range_with_len 0 i) ++ map f (range_with_len n (suc (width t k - (i + 1))))) here,
      )

  pub standing : (k i : ℕ) → IsNode t k i → Standing k i
  standing k i is =
      let f = packed t leaves k in
      let above = above_level k is.level in
      let split = level_split k i is.there in
      let rest = behind k is.level in record {
        front = above.nodes ++ map f (range_with_len 0 i);
        back = split.0 ++ rest.0;
        whole = rest.1 ∙ ap (λ l. l ++ rest.0) (above.whole ∙ ap (λ l. above.nodes ++ l) split.1) ∙ regroup above.nodes (map f (range_with_len 0 i)) (f i) split.0 rest.0;
        count = length-append above.nodes (map f (range_with_len 0 i)) ∙ ap (λ n. n + length (map f (range_with_len 0 i))) above.count ∙ ap (λ n. nodes_above t k + n) (length-map-range_with_len f 0 i);
      }
    where
      regroup : (a b : List NodeItem) (v : NodeItem) (c d : List NodeItem) → (a ++ (b ++ (v ∷ c))) ++ d ≡ (a ++ b) ++ (v ∷ (c ++ d))
      regroup a b v c d = simp append_assoc
