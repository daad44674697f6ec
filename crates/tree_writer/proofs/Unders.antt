-- The box of an inner node is the join of those of its children.
use Rattle.std.proofs.Common.{◌≡◌, ℕ, zero, suc, ◌+◌, ◌-◌, ◌*◌, ◌^◌, ◌<◌, ◌≤◌, min, List, [], ◌∷◌, length, map, refl, sym, ap, subst, ◌∙◌, inl, inr, arith, add-one}
use Rattle.std.specs.Prelude.{slice_range}
use Rattle.std.specs.List.{range_with_len}
use Rattle.std.proofs.Math.Nat.{min-eq_left, min-eq_right, mul-le-mul_right, one-le-pow, pow-suc, pow-zero}
use Rattle.std.proofs.lemmas.Bool.{cases_lt}
use Rattle.std.proofs.lemmas.Grind.{div_ceil_times}
use Rattle.order_keys.specs.declared.bounds.Bounds.{Bounds}
use Rattle.order_keys.specs.Boxes.{Contains, empty, join}
use Rattle.level_bounds.specs.Levels.{Shape, IsShape, width, first_child, children_end}
use Rattle.level_bounds.proofs.Places.{first_child_there}
use Rattle.level_bounds.proofs.Widths.{ceil_one}
use Rattle.node_items.specs.declared.item.NodeItem.{NodeItem}
use Rattle.tree_writer.specs.Packed.{blank, joined, leaves_under, packed}
use Rattle.tree_writer.proofs.Joins.{contains_through, join_first, join_other, joined-append, joined_one}
use Rattle.tree_writer.proofs.Slices.{slice_none, slice_one, slice_parts, slice_past}

-- the levels end behind the leaves
leaves_within : (t : Shape) → IsShape t → (k : ℕ) → t.leaves ≤ width t k * t.node_size ^ k
leaves_within t shape k = (div_ceil_times t.leaves (t.node_size ^ k) (one-le-pow k t.node_size (omega (arith, shape.wide)))).0

times_order : (a b p : ℕ) → a ≤ b → a * p ≤ b * p
times_order a b p le = mul-le-mul_right p le

-- a box around all nodes of a run lies around each
pub run_around : (f : ℕ → NodeItem) (a n c : ℕ) → a ≤ c → c < a + n → Contains (joined (map f (range_with_len a n))) (f c).bounds
run_around f a zero c from till = absurd (omega arith)
run_around f a (suc n) c from till =
    let rest = map f (range_with_len (a + 1) n) in
    let parts : joined (f a ∷ rest) ≡ join (joined (f a ∷ [])) (joined rest) = joined-append (f a ∷ []) rest in
    subst (λ (b : Bounds). Contains b (f c).bounds) (sym parts) (elim (cases_lt a c) [
      | inl later ↦ contains_through (join (joined (f a ∷ [])) (joined rest)) (joined rest) (f c).bounds (join_other (joined (f a ∷ [])) (joined rest)) (run_around f (a + 1) n c (omega arith) (omega arith))
      | inr first ↦
          let same : a ≡ c = omega arith in
          contains_through (join (joined (f a ∷ [])) (joined rest)) (joined (f a ∷ [])) (f c).bounds (join_first (joined (f a ∷ [])) (joined rest))
          (subst (λ d. Contains (joined (f a ∷ [])) (f d).bounds) same (join_other empty (f a).bounds))
    ])

module _ (t : Shape) (leaves : List NodeItem) (shape : IsShape t) (all : length leaves ≡ t.leaves) where
  pub level_zero : width t 0 ≡ length leaves
  level_zero = ceil_one t.leaves t.node_size ∙ sym all

  times_one : (n : ℕ) → n ≡ n * t.node_size ^ 0
  times_one n = let one : n ≡ n * 1 = omega arith in one ∙ ap (λ p. n * p) (sym (pow-zero t.node_size))

  -- of one node
  node_box : (k c : ℕ) → c < width t k → joined (packed t leaves k c ∷ []) ≡ joined (slice_range leaves (c * t.node_size ^ k) ((c + 1) * t.node_size ^ k))
  unfolding packed
  node_box zero c there =
      let here : c < length leaves = omega (arith, level_zero) in
      let from : c ≡ c * t.node_size ^ 0 = times_one c in
      let till : c + 1 ≡ (c + 1) * t.node_size ^ 0 = times_one (c + 1) in
      ap joined (sym (slice_one leaves c blank here) ∙ ap (λ n. slice_range leaves n (c + 1)) from ∙ ap (slice_range leaves (c * t.node_size ^ 0)) till)
  node_box (suc k) c there = joined_one (packed t leaves (suc k) c) (leaves_under t leaves (suc k) c) refl

  -- of a run of nodes
  run_box : (k a n : ℕ) → a + n ≤ width t k → joined (map (packed t leaves k) (range_with_len a n)) ≡ joined (slice_range leaves (a * t.node_size ^ k) ((a + n) * t.node_size ^ k))
  run_box k a zero within =
      let e : a + 0 ≡ a = omega arith in
      ap joined (sym (slice_none leaves (a * t.node_size ^ k)) ∙ ap (λ m. slice_range leaves (a * t.node_size ^ k) (m * t.node_size ^ k)) (sym e))
  run_box k a (suc n) within =
      let p = t.node_size ^ k in
      let f = packed t leaves k in
      let e : a + 1 + n ≡ a + suc n = omega arith in
      joined-append (f a ∷ []) (map f (range_with_len (a + 1) n))
      ∙ ap (λ (b : Bounds). join b (joined (map f (range_with_len (a + 1) n)))) (node_box k a (omega arith))
      ∙ ap (join (joined (slice_range leaves (a * p) ((a + 1) * p)))) (run_box k (a + 1) n (omega arith))
      ∙ sym (joined-append (slice_range leaves (a * p) ((a + 1) * p)) (slice_range leaves ((a + 1) * p) ((a + 1 + n) * p)))
      ∙ ap joined (sym (slice_parts leaves (a * p) ((a + 1) * p) ((a + 1 + n) * p) (times_order a (a + 1) p (omega arith)) (times_order (a + 1) (a + 1 + n) p (omega arith))))
      ∙ ap (λ m. joined (slice_range leaves (a * p) (m * p))) e

  -- of the children of a node
  children_within : (k i : ℕ) → i < width t (suc k) → first_child t i + (children_end t k i - first_child t i) ≡ children_end t k i
  children_within k i there =
      let inside = first_child_there t shape k i (subst (λ l. i < width t l) (sym (add-one k)) there) in
      least (t.node_size * i) (t.node_size * (i + 1)) (width t k) (omega arith) inside
    where
      least : (a b w : ℕ) → a ≤ b → a < w → a + (min b w - a) ≡ min b w
      least a b w le lt = omega arith

  under_children : (k i : ℕ) → i < width t (suc k) → slice_range leaves (first_child t i * t.node_size ^ k) (children_end t k i * t.node_size ^ k) ≡ leaves_under t leaves (suc k) i
  under_children k i there = elim (cases_lt (width t k) (t.node_size * (i + 1))) [
    | inr inside ↦
        ap (slice_range leaves (first_child t i * p)) (ap (λ m. m * p) (min-eq_left inside) ∙ till)
        ∙ ap (λ m. slice_range leaves m ((i + 1) * t.node_size ^ suc k)) from
    | inl short ↦
        let last : children_end t k i ≡ width t k = min-eq_right (omega arith) in
        ap (λ m. slice_range leaves (first_child t i * p) (m * p)) last
        ∙ sym (slice_past leaves (first_child t i * p) (width t k * p) (t.node_size * (i + 1) * p)
        (times_order (t.node_size * i) (width t k) p (omega (arith, first_child_there t shape k i (subst (λ l. i < width t l) (sym (add-one k)) there))))
        (times_order (width t k) (t.node_size * (i + 1)) p (omega arith)) (omega (arith, all, leaves_within t shape k)))
        ∙ ap (slice_range leaves (first_child t i * p)) till
        ∙ ap (λ m. slice_range leaves m ((i + 1) * t.node_size ^ suc k)) from
  ]
    where
      p : ℕ
      p = t.node_size ^ k

      from : first_child t i * t.node_size ^ k ≡ i * t.node_size ^ suc k
      from = let e : t.node_size * i * t.node_size ^ k ≡ i * (t.node_size ^ k * t.node_size) = omega arith in e ∙ ap (λ m. i * m) (sym (pow-suc t.node_size k))

      till : t.node_size * (i + 1) * t.node_size ^ k ≡ (i + 1) * t.node_size ^ suc k
      till = let e : t.node_size * (i + 1) * t.node_size ^ k ≡ (i + 1) * (t.node_size ^ k * t.node_size) = omega arith in e ∙ ap (λ m. (i + 1) * m) (sym (pow-suc t.node_size k))

  pub children_box : (k i : ℕ) → i < width t (suc k) → joined (map (packed t leaves k) (range_with_len (first_child t i) (children_end t k i - first_child t i))) ≡ (packed t leaves (suc k) i).bounds
  unfolding packed
  children_box k i there =
      run_box k (first_child t i) (children_end t k i - first_child t i) (subst (λ m. m ≤ width t k) (sym (children_within k i there)) (least (t.node_size * (i + 1)) (width t k)))
      ∙ ap (λ m. joined (slice_range leaves (first_child t i * t.node_size ^ k) (m * t.node_size ^ k))) (children_within k i there)
      ∙ ap joined (under_children k i there)
    where
      least : (b w : ℕ) → min b w ≤ w
      least b w = omega arith
