-- What a walk has passed, step by step.
use Rattle.std.proofs.Common.{◌≡◌, ◌⊎◌, ℕ, zero, suc, ◌+◌, ◌-◌, ◌*◌, ◌/◌, ◌^◌, ◌<◌, ◌≤◌, min, Bool, true, false, ◌&&◌, List, [], ◌∷◌, ◌++◌, Option, Some, None, refl, sym, ap, ◌∙◌, subst, inl, inr, append-nil, add-one, arith}
use Rattle.std.specs.Prelude.{cond}
use Rattle.std.specs.List.{filter, range_with_len}
use Rattle.std.proofs.Math.Nat.{lt_of_mul-lt-mul_right, mul-lt-mul_of_pos_right, mul_comm, pow-zero, one-le-pow, mul-div_cancel, div-mul-le_self}
use Rattle.std.proofs.lemmas.Bool.{cases_lt}
use Rattle.std.proofs.lemmas.Nat.{pow-add}
use Rattle.std.proofs.lemmas.List.Elements.{filter-append}
use Rattle.fgb_outside.proofs.Asking.{range_with_len-append}
use Rattle.flat_layout.specs.Promises.{IsClean}
use Rattle.flat_layout.specs.declared.Broken.{Broken}
use Rattle.flat_layout.specs.declared.Rule.TheVariants.{ChildOffset}
use Rattle.order_keys.specs.declared.bounds.Bounds.{Bounds}
use Rattle.level_bounds.specs.Levels.{Shape, IsShape, IsNode, width, place, first_child}
use Rattle.level_bounds.proofs.Widths.{ceil_one}
use Rattle.node_items.specs.declared.item.NodeItem.{NodeItem}
use Rattle.node_items.specs.Faults.{IsChild, names_child, group_faults, root_faults}
use Rattle.node_items.specs.Nodes.{node_place}
use Rattle.node_items.proofs.Runs.{BeginsWith, all_clean, holds_in}
use Rattle.node_items.proofs.Trees.{group_breaks, named}
use Rattle.tree_search.specs.Wanted.{BreaksWanted, hits, is_wanted, no_box, not_around, not_first_child, passes}
use Rattle.tree_search.proofs.Descent.{parent_of, wanted_under}
use Rattle.tree_search.proofs.Faults.{wanted_clean}
use Rattle.tree_search.proofs.Filters.{filter_one, flat_map_kept}
use Rattle.slice_hits.specs.Preorder.{ComesBehind, nothing, sibling, IsPassed, first_leaf, leaf_behind, leaf_at}
use Rattle.slice_hits.specs.Judging.{IsJudged, hits_before, is_hit}
use Rattle.slice_hits.proofs.Climbing.{child_leaf, child_there, first_there, first_before, pow_next}
use Rattle.slice_hits.proofs.Numbers.{level_is, leaf_is}

both : (a b : Bool) → (a && b) ≡ true → (a ≡ true) × (b ≡ true)
both true b h = (refl, h)
both false b h = cc

joined : (a b : Bool) → a ≡ true → b ≡ true → (a && b) ≡ true
joined a b one two = rw (one, two) refl

false_unless : (b : Bool) → (b ≡ true → ⊥) → b ≡ false
false_unless true not = absurd (not refl)
false_unless false not = refl

not_both : (b : Bool) → b ≡ true → b ≡ false → ⊥
not_both b one other = let e : true ≡ false = sym one ∙ other in cc

-- ## Numbers

cancel : (a b q : ℕ) → 0 < q → a * q ≡ b * q → a ≡ b
cancel a b q some same = elim (cases_lt a b) [
  | inl lt ↦ let x : a * q < b * q = mul-lt-mul_of_pos_right lt some in absurd (omega arith)
  | inr ge ↦ elim (cases_lt b a) [
    | inl lt ↦ let x : b * q < a * q = mul-lt-mul_of_pos_right lt some in absurd (omega arith)
    | inr le ↦ omega arith
  ]
]

-- a multiple between two neighbouring ones
module _ (i y q : ℕ) (some : 0 < q) where
  at_least : i * q ≤ y * q → i ≤ y
  at_least le = elim (cases_lt y i) [
    | inl lt ↦ let x : y * q < i * q = mul-lt-mul_of_pos_right lt some in absurd (omega arith)
    | inr ge ↦ ge
  ]

  only_one : i * q ≤ y * q → y * q < (i + 1) * q → y ≡ i
  only_one le lt =
      let x : y < i + 1 = lt_of_mul-lt-mul_right q lt in
      let z : i ≤ y = at_least le in
      omega arith

module _ (s i k x m : ℕ) (wide : 2 ≤ s) (from : i * s ^ k ≤ x * s ^ m) (till : x * s ^ m < (i + 1) * s ^ k) where
  -- node x of level m, whose first leaf is below node i of level k, stands below it
  below_node : m < k → x / s ^ (k - m) ≡ i
  below_node lower =
      let q = s ^ m in
      let p = s ^ (k - m) in
      let e : k - m + m ≡ k = omega arith in
      let power : s ^ k ≡ p * q = ap (λ n. s ^ n) (sym e) ∙ pow-add s (k - m) m in
      let some : 0 < q = one-le-pow m s (omega arith) in
      let one : (i * p) * q ≤ x * q = subst (λ n. n ≤ x * q) (ap (λ n. i * n) power ∙ turned i p q) from in
      let two : x * q < ((i + 1) * p) * q = subst (λ n. x * q < n) (ap (λ n. (i + 1) * n) power ∙ turned (i + 1) p q) till in
      let low : i * p ≤ x = at_least (i * p) x q some one in
      let high : x < (i + 1) * p = lt_of_mul-lt-mul_right q two in
      parent_of p i x (omega (arith, mul_comm i p)) (omega (arith, mul_comm (i + 1) p))
    where
      turned : (a p q : ℕ) → a * (p * q) ≡ (a * p) * q
      turned a p q = omega arith

  -- or above it, with the same first leaf
  above_node : k ≤ m → x * s ^ m ≡ i * s ^ k
  above_node higher =
      let q = s ^ k in
      let p = s ^ (m - k) in
      let e : m - k + k ≡ m = omega arith in
      let power : s ^ m ≡ p * q = ap (λ n. s ^ n) (sym e) ∙ pow-add s (m - k) k in
      let some : 0 < q = one-le-pow k s (omega arith) in
      let all : x * s ^ m ≡ (x * p) * q = ap (λ n. x * n) power ∙ turned x p q in
      let same : x * p ≡ i = only_one i (x * p) q some (omega (arith, all)) (omega (arith, all)) in
      all ∙ ap (λ n. n * q) same
    where
      turned : (a p q : ℕ) → a * (p * q) ≡ (a * p) * q
      turned a p q = omega arith

-- a node that is not the first of its group stands below no other that has the same first leaf
module _ (s l j m x : ℕ) (wide : 2 ≤ s) where
  begins_group : (j + 1) / s ≡ j / s → x * s ^ m ≡ (j + 1) * s ^ l → l < m → ⊥
  begins_group group same higher =
      let q = s ^ l in
      let some : 0 < q = one-le-pow l s (omega arith) in
      let e : m - (l + 1) + 1 + l ≡ m = omega arith in
      let y = x * s ^ (m - (l + 1)) in
      let power : s ^ m ≡ (s ^ (m - (l + 1)) * s) * q = ap (λ n. s ^ n) (sym e) ∙ pow-add s (m - (l + 1) + 1) l ∙ ap (λ n. n * q) (pow_next s (m - (l + 1))) in
      let all : (y * s) * q ≡ (j + 1) * q = sym (ap (λ n. x * n) power ∙ turned x (s ^ (m - (l + 1))) s q) ∙ same in
      let is : y * s ≡ j + 1 = cancel (y * s) (j + 1) q some all in
      let whole : (j + 1) / s ≡ y = ap (λ n. n / s) (sym is) ∙ mul-div_cancel y {n = s} (omega arith) in
      let low : j / s * s ≤ j = div-mul-le_self j s in
      let here : j / s ≡ y = sym group ∙ whole in
      let again : y * s ≤ j = subst (λ n. n * s ≤ j) here low in
      omega (arith, is, again)
    where
      turned : (x p s q : ℕ) → x * ((p * s) * q) ≡ ((x * p) * s) * q
      turned x p s q = omega arith

module _ (t : Shape) (shape : IsShape t) (nodes : ℕ → NodeItem) (test : Bounds → Bool) where
  -- ## What is found

  -- above what is wanted all boxes pass
  above_passes : (m x k : ℕ) → m < k → k ≤ t.top → is_wanted t nodes test m x ≡ true → passes t nodes test k (x / t.node_size ^ (k - m)) ≡ true
  unfolding is_wanted
  above_passes m x k lower under wanted =
      let e : m + (k - m) ≡ k = omega arith in
      subst (λ l. passes t nodes test l (x / t.node_size ^ (k - m)) ≡ true) e
      (holds_in (λ d. passes t nodes test (m + d) (x / t.node_size ^ d)) 1 (t.top - m) (k - m) wanted (omega arith) (omega arith))

  -- a node whose box does not pass has nothing below it that is found
  none_below : (k i x : ℕ) → IsNode t k i → passes t nodes test k i ≡ false → first_leaf t k i ≤ x → x < (i + 1) * t.node_size ^ k → is_hit t nodes test 0 x ≡ false
  none_below k i x is fails from till =
      false_unless _ (λ hit.
      let parts = both _ _ hit in
      let same : x * t.node_size ^ 0 ≡ x = ap (λ n. x * n) (pow-zero t.node_size) ∙ one x in
      let low = subst (λ n. first_leaf t k i ≤ n) (sym same) from in
      let high = subst (λ n. n < (i + 1) * t.node_size ^ k) (sym same) till in
      elim (cases_lt 0 k) [
        | inl above ↦
            let up = below_node t.node_size i k x 0 shape.wide low high above in
            not_both _ (ap (passes t nodes test k) (sym up) ∙ above_passes 0 x k above is.level parts.0) fails
        | inr leaf ↦
            let here : k ≡ 0 = omega arith in
            let there : x ≡ i = let e = above_node t.node_size i k x 0 shape.wide low high (omega arith) in omega (arith, same, e, ap (λ n. i * t.node_size ^ n) here, ap (λ n. i * n) (pow-zero t.node_size)) in
            not_both _ (ap (λ n. passes t nodes test n i) here ∙ ap (passes t nodes test 0) (sym there) ∙ parts.1) fails
      ])
    where
      one : (x : ℕ) → x * 1 ≡ x
      one x = omega arith

  -- more leaves
  before_more : (from till : ℕ) → from ≤ till → hits_before t nodes test till ≡ hits_before t nodes test from ++ filter (is_hit t nodes test 0) (range_with_len from (till - from))
  before_more from till order =
      let all : from + (till - from) ≡ till = omega arith in
      let start : 0 + from ≡ from = omega arith in
      ap (λ n. filter (is_hit t nodes test 0) (range_with_len 0 n)) (sym all)
      ∙ ap (filter (is_hit t nodes test 0)) (range_with_len-append 0 from (till - from) ∙ ap (λ n. range_with_len 0 from ++ range_with_len n (till - from)) start)
      ∙ filter-append (is_hit t nodes test 0) (range_with_len 0 from) (range_with_len from (till - from))

  pub before_none : (k i : ℕ) → IsNode t k i → passes t nodes test k i ≡ false → hits_before t nodes test (leaf_behind t k i) ≡ hits_before t nodes test (first_leaf t k i)
  before_none k i is fails =
      let from = first_leaf t k i in
      let till = leaf_behind t k i in
      let order : from < till = first_before t shape k i is.there in
      before_more from till (omega arith)
      ∙ ap (λ l. hits_before t nodes test from ++ l) (filter_one (is_hit t nodes test 0) false from (till - from) (λ x low high. none_below k i x is fails low (within ((i + 1) * t.node_size ^ k) x low high)))
      ∙ append-nil (hits_before t nodes test from)
    where
      within : (p x : ℕ) → i * t.node_size ^ k ≤ x → x < i * t.node_size ^ k + (min t.leaves p - i * t.node_size ^ k) → x < p
      within p x low high = omega arith

  pub before_one : (i : ℕ) → IsNode t 0 i → is_wanted t nodes test 0 i ≡ true → passes t nodes test 0 i ≡ true
      → hits_before t nodes test (leaf_behind t 0 i) ≡ hits_before t nodes test (first_leaf t 0 i) ++ i ∷ []
  before_one i is wanted pass =
      let here = leaf_first i in
      let behind = leaf_next i is in
      let count : i + 1 - i ≡ 1 = omega arith in
      let hit = joined _ _ wanted pass in
      ap (hits_before t nodes test) behind
      ∙ before_more i (i + 1) (omega arith)
      ∙ ap (λ n. hits_before t nodes test i ++ filter (is_hit t nodes test 0) (range_with_len i n)) count
      ∙ ap (λ b. hits_before t nodes test i ++ cond b (i ∷ []) []) hit
      ∙ ap (λ n. hits_before t nodes test n ++ i ∷ []) (sym here)
    where
      leaf_first : (i : ℕ) → first_leaf t 0 i ≡ i
      leaf_first i = let x : i * 1 ≡ i = omega arith in ap (λ n. i * n) (pow-zero t.node_size) ∙ x

      leaf_next : (i : ℕ) → IsNode t 0 i → leaf_behind t 0 i ≡ i + 1
      leaf_next i is =
          let there : i < t.leaves = subst (λ w. i < w) (ceil_one t.leaves t.node_size) is.there in
          let x : (i + 1) * 1 ≡ i + 1 = omega arith in
          ap (λ n. min t.leaves ((i + 1) * n)) (pow-zero t.node_size) ∙ ap (min t.leaves) x ∙ least t.leaves there
        where
          least : (a : ℕ) → i < a → min a (i + 1) ≡ i + 1
          least a lt = omega arith

  -- all of them
  pub before_all : hits_before t nodes test t.leaves ≡ hits t nodes test 0
  unfolding hits
  before_all = ap (λ n. filter (is_hit t nodes test 0) (range_with_len 0 n)) (sym (ceil_one t.leaves t.node_size))

  pub before_rest : (till : ℕ) → till ≤ t.leaves → (rest : List ℕ) × (hits t nodes test 0 ≡ hits_before t nodes test till ++ rest)
  before_rest till under = (_, sym before_all ∙ before_more till t.leaves under)

  -- ## What was judged

  -- a node that begins in front of what comes behind another was passed before, is that node, or stands below it
  behind_before : (k i m x : ℕ) → IsNode t k i → is_wanted t nodes test m x ≡ true → first_leaf t m x < leaf_behind t k i
      → IsPassed t m x (Some (place t k i)) ⊎ (((m ≡ k) × (x ≡ i)) ⊎ ((m < k) × (passes t nodes test k i ≡ true)))
  behind_before k i m x is wanted before = elim (cases_lt (first_leaf t m x) (first_leaf t k i)) [
    | inl early ↦ inl (inl (subst (λ n. first_leaf t m x < n) (sym (leaf_is t k i is)) early))
    | inr from ↦
        let till : first_leaf t m x < (i + 1) * t.node_size ^ k = least (first_leaf t m x) ((i + 1) * t.node_size ^ k) before in
        elim (cases_lt m k) [
          | inl lower ↦
              let up = below_node t.node_size i k x m shape.wide from till lower in
              inr (inr (lower, ap (passes t nodes test k) (sym up) ∙ above_passes m x k lower is.level wanted))
          | inr over ↦
              let same : first_leaf t m x ≡ first_leaf t k i = above_node t.node_size i k x m shape.wide from till over in
              elim (cases_lt k m) [
                | inl higher ↦ inl (inr (same ∙ sym (leaf_is t k i is), subst (λ l. l < m) (sym (level_is t k i is)) higher))
                | inr le ↦
                    let level : m ≡ k = omega arith in
                    inr (inl (level, cancel x i (t.node_size ^ k) (one-le-pow k t.node_size (omega (arith, shape.wide))) (subst (λ l. first_leaf t l x ≡ first_leaf t k i) level same)))
              ]
        ]
  ]
    where
      least : (a p : ℕ) → a < min t.leaves p → a < p
      least a p lt = omega arith

  on_passed : (k i m x : ℕ) (stand : Option ℕ) → IsNode t k i → ComesBehind t k i stand → IsNode t m x → is_wanted t nodes test m x ≡ true → IsPassed t m x stand
      → IsPassed t m x (Some (place t k i)) ⊎ (((m ≡ k) × (x ≡ i)) ⊎ ((m < k) × (passes t nodes test k i ≡ true)))
  on_passed k i m x stand is (nothing all) there wanted passed = behind_before k i m x is wanted (subst (λ n. first_leaf t m x < n) (sym all) (first_there t shape m x there.there))
  on_passed k i m x stand is (sibling l j next group edge too) there wanted (inl early) =
      behind_before k i m x is wanted (subst (λ n. first_leaf t m x < n) (leaf_is t l (j + 1) next ∙ edge) early)
  on_passed k i m x stand is (sibling l j next group edge too) there wanted (inr (same, lower)) =
      absurd (begins_group t.node_size l j m x shape.wide group (same ∙ leaf_is t l (j + 1) next) (subst (λ n. n < m) (level_is t l (j + 1) next) lower))

  -- the children of a node that is found are wanted
  pub child_wanted : (k i c : ℕ) → IsNode t (k + 1) i → is_hit t nodes test (k + 1) i ≡ true → IsChild t k i c → is_wanted t nodes test k c ≡ true
  child_wanted k i c is hit child =
      let parent : c / t.node_size ≡ i = parent_of t.node_size i c child.first (omega (arith, child.end)) in
      wanted_under t nodes test k c (omega (arith, is.level)) ∙ ap (λ j. is_wanted t nodes test (k + 1) j && passes t nodes test (k + 1) j) parent ∙ hit

  module _ (at : ℕ) where
    rooted : (k i : ℕ) → IsNode t k i → IsJudged t nodes test at (Some (place t k i)) → (k ≡ t.top → root_faults t nodes at ≡ []) → root_faults t nodes at ≡ []
    rooted k i is judged root = elim (cases_lt k t.top) [
      | inl below ↦ judged.root (subst (λ l. l < t.top) (sym (level_is t k i is)) below)
      | inr le ↦ root (omega (arith, is.level))
    ]

    -- behind a node that is a leaf, or whose box does not pass
    pub judged_on : (k i : ℕ) (stand : Option ℕ) → IsNode t k i → IsJudged t nodes test at (Some (place t k i)) → (k ≡ t.top → root_faults t nodes at ≡ []) → ComesBehind t k i stand
        → (k ≡ 0) ⊎ (passes t nodes test k i ≡ false) → IsJudged t nodes test at stand
    judged_on k i stand is judged root comes last = record {
      root = λ below. rooted k i is judged root;
      groups = λ l j there hit passed.
          let parts = both _ _ hit in
          elim (on_passed k i (l + 1) j stand is comes there parts.0 passed) [
            | inl old ↦ judged.groups l j there hit old
            | inr (inl same) ↦ absurd (not_here l j same parts.1 last)
            | inr (inr under) ↦ absurd (not_under l under last)
          ];
    }
      where
        not_here : (l j : ℕ) → (l + 1 ≡ k) × (j ≡ i) → passes t nodes test (l + 1) j ≡ true → (k ≡ 0) ⊎ (passes t nodes test k i ≡ false) → ⊥
        not_here l j same pass (inl leaf) = omega (arith, same.0)
        not_here l j same pass (inr fails) = not_both _ (ap (λ n. passes t nodes test n i) (sym same.0) ∙ ap (passes t nodes test (l + 1)) (sym same.1) ∙ pass) fails

        not_under : (l : ℕ) → (l + 1 < k) × (passes t nodes test k i ≡ true) → (k ≡ 0) ⊎ (passes t nodes test k i ≡ false) → ⊥
        not_under l under (inl leaf) = omega (arith, under.0)
        not_under l under (inr fails) = not_both _ under.1 fails

    -- in front of the children of one that was found, which were judged
    pub judged_down : (k i : ℕ) → IsNode t (k + 1) i → IsJudged t nodes test at (Some (place t (k + 1) i)) → (k + 1 ≡ t.top → root_faults t nodes at ≡ []) → group_faults t nodes at k i ≡ []
        → IsJudged t nodes test at (Some (place t k (first_child t i)))
    judged_down k i is judged root clean = record {
      root = λ below. rooted (k + 1) i is judged root;
      groups = λ l j there hit passed. by_passed l j there hit passed;
    }
      where
        leaf_same : leaf_at t (Some (place t k (first_child t i))) ≡ leaf_at t (Some (place t (k + 1) i))
        leaf_same = leaf_is t k (first_child t i) (child_there t shape k i is) ∙ child_leaf t shape k i ∙ sym (leaf_is t (k + 1) i is)

        by_passed : (l j : ℕ) → IsNode t (l + 1) j → is_hit t nodes test (l + 1) j ≡ true → IsPassed t (l + 1) j (Some (place t k (first_child t i))) → group_faults t nodes at l j ≡ []
        by_passed l j there hit (inl early) = judged.groups l j there hit (inl (subst (λ n. first_leaf t (l + 1) j < n) leaf_same early))
        by_passed l j there hit (inr (same, lower)) =
            let below : k < l + 1 = subst (λ n. n < l + 1) (level_is t k (first_child t i) (child_there t shape k i is)) lower in
            elim (cases_lt k l) [
              | inl higher ↦ judged.groups l j there hit (inr (same ∙ leaf_same, subst (λ n. n < l + 1) (sym (level_is t (k + 1) i is)) (omega arith)))
              | inr le ↦
                  let level : l ≡ k = omega arith in
                  let here : first_leaf t (k + 1) j ≡ first_leaf t (k + 1) i = subst (λ m. first_leaf t (m + 1) j ≡ first_leaf t (k + 1) i) level (same ∙ leaf_same ∙ leaf_is t (k + 1) i is) in
                  let index : j ≡ i = cancel j i (t.node_size ^ (k + 1)) (one-le-pow (k + 1) t.node_size (omega (arith, shape.wide))) here in
                  ap (λ m. group_faults t nodes at m j) level ∙ ap (group_faults t nodes at k) index ∙ clean
            ]

    -- in front of all
    pub judged_none : (stand : Option ℕ) → stand ≡ Some (place t t.top 0) → IsNode t t.top 0 → IsJudged t nodes test at stand
    judged_none stand same is = subst (IsJudged t nodes test at) (sym same) (record {
      root = λ below. absurd (let e = level_is t t.top 0 is in omega arith);
      groups = λ k i there hit passed. by_passed k i there passed;
    })
      where
        first : leaf_at t (Some (place t t.top 0)) ≡ 0
        first = leaf_is t t.top 0 is ∙ none (t.node_size ^ t.top)
          where
            none : (p : ℕ) → 0 * p ≡ 0
            none p = omega arith

        by_passed : (k i : ℕ) → IsNode t (k + 1) i → IsPassed t (k + 1) i (Some (place t t.top 0)) → group_faults t nodes at k i ≡ []
        by_passed k i there (inl early) = absurd (let x : first_leaf t (k + 1) i < 0 = subst (λ n. first_leaf t (k + 1) i < n) first early in omega arith)
        by_passed k i there (inr (same, higher)) = absurd (let x : t.top < k + 1 = subst (λ l. l < k + 1) (level_is t t.top 0 is) higher in omega (arith, there.level))

    -- behind all, no wanted node breaks a rule
    pub judged_all : IsJudged t nodes test at None → IsClean (BreaksWanted t nodes test at)
    unfolding hits leaf_at
    judged_all judged =
        wanted_clean t nodes test at shape (judged.root shape.above) (λ k below.
        sym (flat_map_kept (is_hit t nodes test (k + 1)) (group_faults t nodes at k) (range_with_len 0 (width t (k + 1))))
        ∙ all_clean (λ i. cond (is_hit t nodes test (k + 1) i) (group_faults t nodes at k i) []) 0 (width t (k + 1)) (λ i from till.
        kept_none (is_hit t nodes test (k + 1) i) (group_faults t nodes at k i) (λ hit. judged.groups k i (record { level = omega arith; there = omega arith }) hit (inl (first_there t shape (k + 1) i (omega arith))))))
      where
        kept_none : (b : Bool) (xs : List Broken) → (b ≡ true → xs ≡ []) → cond b xs [] ≡ []
        kept_none true xs none = none refl
        kept_none false xs none = refl

    -- the first fault of a group under a node that was found
    pub group_refused : (k i : ℕ) (e : Broken) → IsNode t (k + 1) i → is_hit t nodes test (k + 1) i ≡ true → BeginsWith (group_faults t nodes at k i) e → BreaksWanted t nodes test at e.place e.rule
    group_refused k i e is hit begins =
        let up : IsNode t (suc k) i = subst (λ l. IsNode t l i) (add-one k) is in
        group_breaks t nodes at (BreaksWanted t nodes test at) k i e
        (λ c child wrong. no_box (under c child) (wanted c child) wrong)
        (λ c child wrong. wrong_offset k c (under c child) (wanted c child) wrong)
        (λ c child wrong. not_around up child (wanted c child) wrong) begins
      where
        under : (c : ℕ) → IsChild t k i c → IsNode t k c
        under c child = record { level = omega (arith, is.level); there = omega (arith, child.end) }

        wanted : (c : ℕ) → IsChild t k i c → is_wanted t nodes test k c ≡ true
        wanted c child = child_wanted k i c is hit child

        wrong_offset : (k c : ℕ) → IsNode t k c → is_wanted t nodes test k c ≡ true → names_child t k c (nodes (place t k c)).offset ≡ false → BreaksWanted t nodes test at (node_place at (place t k c)) ChildOffset
        wrong_offset zero c there wanted wrong = cc
        wrong_offset (suc k) c there wanted wrong = not_first_child there wanted (named t nodes at k c wrong)
