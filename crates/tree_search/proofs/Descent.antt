-- From a level to the one below: the wanted nodes of a level are the children of those that were found above it.
use Rattle.std.proofs.Common.{◌≡◌, ℕ, zero, suc, ◌+◌, ◌-◌, ◌*◌, ◌/◌, ◌^◌, ◌<◌, ◌≤◌, min, Bool, ◌&&◌, List, [], ◌∷◌, ◌++◌, refl, sym, ap, ◌∙◌, inl, inr, arith}
use Rattle.std.specs.Prelude.{cond}
use Rattle.std.specs.List.{filter, flat_map, list_all, range_with_len}
use Rattle.std.proofs.Math.Nat.{div-div-eq-div-mul, mul_comm, mul-le-mul_left, pow-suc, pow-zero}
use Rattle.std.proofs.lemmas.Bool.{cases_lt}
use Rattle.std.proofs.lemmas.Nat.{div-mul-add}
use Rattle.fgb_outside.proofs.Asking.{range_split}
use Rattle.order_keys.specs.declared.bounds.Bounds.{Bounds}
use Rattle.level_bounds.specs.Levels.{Shape, IsShape, width, first_child, children_end}
use Rattle.level_bounds.proofs.Widths.{widths_fall}
use Rattle.node_items.specs.declared.item.NodeItem.{NodeItem}
use Rattle.node_items.proofs.Runs.{all_along}
use Rattle.tree_search.specs.Wanted.{passes, is_wanted, wanted, hits}
use Rattle.tree_search.specs.Descent.{children_of, all_children}
use Rattle.tree_search.proofs.Filters.{filter-flat_map, filter_both, filter_one, flat_map_same, flat_map_kept, and_turned}

-- neighbours have neighbouring children

joined : (a b c w : ℕ) → a ≤ b → b ≤ c → range_with_len a (min b w - a) ++ range_with_len b (min c w - b) ≡ range_with_len a (min c w - a)
joined a b c w ab bc = elim (cases_lt w b) [
  | inl below ↦
      let none : min c w - b ≡ 0 = omega arith in
      let same : min b w - a ≡ min c w - a = omega arith in
      ap (λ n. range_with_len a (min b w - a) ++ range_with_len b n) none ∙ append_nothing (range_with_len a (min b w - a)) ∙ ap (range_with_len a) same
  | inr above ↦
      let here : min b w ≡ b = omega arith in
      ap (λ n. range_with_len a (n - a) ++ range_with_len b (min c w - b)) here ∙ sym (range_split a b (min c w) ab (omega arith))
]
  where
    append_nothing : (xs : List ℕ) → xs ++ [] ≡ xs
    append_nothing [] = refl
    append_nothing (x ∷ xs) = ap (λ l. x ∷ l) (append_nothing xs)

-- the children of neighbours
pub children_run : (t : Shape) (k j n : ℕ) → all_children t k (range_with_len j n) ≡ range_with_len (t.node_size * j) (min (t.node_size * (j + n)) (width t k) - t.node_size * j)
children_run t k j zero = let e : 0 ≡ min (t.node_size * (j + 0)) (width t k) - t.node_size * j = omega arith in ap (range_with_len (t.node_size * j)) e
children_run t k j (suc n) =
    let e : j + 1 + n ≡ j + suc n = omega arith in
    ap (λ l. children_of t k j ++ l) (children_run t k (j + 1) n ∙ ap (λ m. range_with_len (t.node_size * (j + 1)) (min (t.node_size * m) (width t k) - t.node_size * (j + 1))) e)
    ∙ joined (t.node_size * j) (t.node_size * (j + 1)) (t.node_size * (j + suc n)) (width t k) (mul-le-mul_left t.node_size (omega arith)) (mul-le-mul_left t.node_size (omega arith))

-- the children of the nodes of a level are all nodes of the level below
pub whole_level : (t : Shape) → IsShape t → (k : ℕ) → all_children t k (range_with_len 0 (width t (k + 1))) ≡ range_with_len 0 (width t k)
whole_level t shape k =
    let n = width t (k + 1) in
    let all : width t k ≤ t.node_size * n = elim (cases_lt (t.node_size * n) (width t k)) [
      | inl more ↦ absurd (self n ((widths_fall t.leaves t.node_size shape.wide).above k n more))
      | inr le ↦ le
    ] in
    children_run t k 0 n ∙ whole t.node_size n (width t k) all
  where
    self : (n : ℕ) → n < n → ⊥
    self n lt = omega arith

    whole : (s n w : ℕ) → w ≤ s * n → range_with_len (s * 0) (min (s * (0 + n)) w - s * 0) ≡ range_with_len 0 w
    whole s n w all =
        let first : s * 0 ≡ 0 = omega arith in
        let len : min (s * (0 + n)) w - 0 ≡ w = omega arith in
        ap (λ m. range_with_len m (min (s * (0 + n)) w - m)) first ∙ ap (range_with_len 0) len

-- a child's parent
pub parent_of : (s j c : ℕ) → s * j ≤ c → c < s * (j + 1) → c / s ≡ j
parent_of s j c from till =
    let e : c ≡ j * s + (c - s * j) = omega (arith, mul_comm j s) in
    ap (λ n. n / s) e ∙ div-mul-add j s (c - s * j) (omega arith)

module _ (t : Shape) (nodes : ℕ → NodeItem) (test : Bounds → Bool) where
  -- an ancestor of a node's parent is one of the node
  along : (k c d : ℕ) → passes t nodes test (k + suc d) (c / t.node_size ^ suc d) ≡ passes t nodes test (k + 1 + d) (c / t.node_size / t.node_size ^ d)
  along k c d =
      let level : k + suc d ≡ k + 1 + d = omega arith in
      ap (λ l. passes t nodes test l (c / t.node_size ^ suc d)) level
      ∙ ap (λ p. passes t nodes test (k + 1 + d) (c / p)) (pow-suc t.node_size d ∙ mul_comm (t.node_size ^ d) t.node_size)
      ∙ ap (passes t nodes test (k + 1 + d)) (sym (div-div-eq-div-mul c t.node_size (t.node_size ^ d)))

  pub wanted_under : (k c : ℕ) → k < t.top → is_wanted t nodes test k c ≡ (is_wanted t nodes test (k + 1) (c / t.node_size) && passes t nodes test (k + 1) (c / t.node_size))
  unfolding is_wanted
  wanted_under k c below =
      let f = λ (d : ℕ). passes t nodes test (k + d) (c / t.node_size ^ d) in
      let g = λ (d : ℕ). passes t nodes test (k + 1 + d) (c / t.node_size / t.node_size ^ d) in
      let more : t.top - k ≡ suc (t.top - (k + 1)) = omega arith in
      let once : 1 * t.node_size ≡ t.node_size = omega arith in
      let one : t.node_size ^ 1 ≡ t.node_size = pow-suc t.node_size 0 ∙ ap (λ p. p * t.node_size) (pow-zero t.node_size) ∙ once in
      let above : list_all f (range_with_len 2 (t.top - (k + 1))) ≡ list_all g (range_with_len 1 (t.top - (k + 1))) =
      all_along f g 2 1 (t.top - (k + 1)) (λ a b j first second under.
      let next : a ≡ suc b = omega arith in
      ap f next ∙ along k c b) in
      ap (λ n. list_all f (range_with_len 1 n)) more
      ∙ ap (λ b. b && list_all f (range_with_len 2 (t.top - (k + 1)))) (ap (λ p. passes t nodes test (k + 1) (c / p)) one)
      ∙ ap (λ b. passes t nodes test (k + 1) (c / t.node_size) && b) above
      ∙ and_turned (passes t nodes test (k + 1) (c / t.node_size)) (list_all g (range_with_len 1 (t.top - (k + 1))))

  -- all children of a node are wanted, or none is
  children_wanted : (k j : ℕ) → k < t.top → filter (is_wanted t nodes test k) (children_of t k j) ≡ cond (is_wanted t nodes test (k + 1) j && passes t nodes test (k + 1) j) (children_of t k j) []
  children_wanted k j below =
      filter_one (is_wanted t nodes test k) (is_wanted t nodes test (k + 1) j && passes t nodes test (k + 1) j) (first_child t j) (children_end t k j - first_child t j) (λ c from till.
      let end : c < t.node_size * (j + 1) = omega arith in
      wanted_under k c below ∙ ap (λ i. is_wanted t nodes test (k + 1) i && passes t nodes test (k + 1) i) (parent_of t.node_size j c from end))

  pub wanted_below : IsShape t → (k : ℕ) → k < t.top → wanted t nodes test k ≡ all_children t k (hits t nodes test (k + 1))
  unfolding wanted hits
  wanted_below shape k below =
      ap (filter (is_wanted t nodes test k)) (sym (whole_level t shape k))
      ∙ filter-flat_map (is_wanted t nodes test k) (children_of t k) (range_with_len 0 (width t (k + 1)))
      ∙ flat_map_same _ _ (λ j. children_wanted k j below) (range_with_len 0 (width t (k + 1)))
      ∙ flat_map_kept (λ j. is_wanted t nodes test (k + 1) j && passes t nodes test (k + 1) j) (children_of t k) (range_with_len 0 (width t (k + 1)))

  -- those that were found are the wanted ones whose own boxes pass
  pub hits_wanted : (k : ℕ) → hits t nodes test k ≡ filter (passes t nodes test k) (wanted t nodes test k)
  unfolding wanted hits
  hits_wanted k = filter_both (is_wanted t nodes test k) (passes t nodes test k) (range_with_len 0 (width t k))

  pub hits_below : IsShape t → (k : ℕ) → k < t.top → hits t nodes test k ≡ flat_map (λ j. filter (passes t nodes test k) (children_of t k j)) (hits t nodes test (k + 1))
  hits_below shape k below =
      hits_wanted k ∙ ap (filter (passes t nodes test k)) (wanted_below shape k below)
      ∙ filter-flat_map (passes t nodes test k) (children_of t k) (hits t nodes test (k + 1))

  -- the root is wanted
  pub wanted_root : IsShape t → wanted t nodes test t.top ≡ 0 ∷ []
  unfolding wanted is_wanted
  wanted_root shape =
      let none : t.top - t.top ≡ 0 = omega arith in
      ap (λ n. filter (is_wanted t nodes test t.top) (range_with_len 0 n)) shape.root
      ∙ ap (λ n. cond (list_all (λ d. passes t nodes test (t.top + d) (0 / t.node_size ^ d)) (range_with_len 1 n)) (0 ∷ []) []) none

  pub hits_root : IsShape t → hits t nodes test t.top ≡ filter (passes t nodes test t.top) (0 ∷ [])
  hits_root shape = hits_wanted t.top ∙ ap (filter (passes t nodes test t.top)) (wanted_root shape)
