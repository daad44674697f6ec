-- From a node to what comes behind all below it: up, as long as the group ends, and then to the next of the group.
use Rattle.std.proofs.Common.{◌≡◌, ℕ, suc, ◌+◌, ◌-◌, ◌*◌, ◌/◌, ◌^◌, ◌<◌, ◌≤◌, min, Bool, true, false, ◌&&◌, Some, None, refl, sym, ap, ◌∙◌, subst, inl, inr, arith}
use Rattle.std.proofs.Math.Nat.{lt-mul-div-succ, mul-div-le, mul-le-mul_right, one-le-pow, pow-suc}
use Rattle.std.proofs.lemmas.Bool.{cases_lt}
use Rattle.level_bounds.specs.Levels.{Shape, IsShape, IsNode, width, place, nodes_above, first_child, children_end}
use Rattle.level_bounds.proofs.Ceil.{above_ceil, below_ceil}
use Rattle.level_bounds.proofs.Places.{first_child_there, level_follows, parent_there}
use Rattle.tree_search.specs.Wanted.{is_wanted, passes}
use Rattle.tree_search.proofs.Descent.{parent_of, wanted_under}
use Rattle.slice_hits.specs.Preorder.{first_leaf, leaf_behind, ComesBehind, IsWantedToo, nothing, sibling}

first_and : (a b : Bool) → (a && b) ≡ true → a ≡ true
first_and true b h = refl
first_and false b h = cc

pub pow_next : (s k : ℕ) → s ^ (k + 1) ≡ s ^ k * s
pow_next s k = let e : k + 1 ≡ suc k = omega arith in ap (λ m. s ^ m) e ∙ pow-suc s k

module _ (t : Shape) (shape : IsShape t) where
  pow_some : (k : ℕ) → 0 < t.node_size ^ k
  pow_some k = one-le-pow k t.node_size (omega (arith, shape.wide))

  -- all leaves stand below the nodes of a level
  all_below : (k : ℕ) → t.leaves ≤ width t k * t.node_size ^ k
  all_below k = elim (cases_lt (width t k * t.node_size ^ k) t.leaves) [
    | inl more ↦ absurd (self (width t k) (above_ceil (width t k) t.leaves (t.node_size ^ k) (pow_some k) more))
    | inr le ↦ le
  ]
    where
      self : (n : ℕ) → n < n → ⊥
      self n lt = omega arith

  -- and the first of those below a node is there
  pub first_there : (k i : ℕ) → i < width t k → first_leaf t k i < t.leaves
  first_there k i there = below_ceil i t.leaves (t.node_size ^ k) (pow_some k) there

  -- in front of what comes behind
  pub first_before : (k i : ℕ) → i < width t k → first_leaf t k i < leaf_behind t k i
  first_before k i there = less (t.node_size ^ k) (pow_some k) (first_there k i there)
    where
      less : (p : ℕ) → 0 < p → i * p < t.leaves → i * p < min t.leaves ((i + 1) * p)
      less p some before = omega arith

  -- behind a node of which a next one stands in the level
  behind_next : (k i : ℕ) → i + 1 < width t k → first_leaf t k (i + 1) ≡ leaf_behind t k i
  behind_next k i there = least ((i + 1) * t.node_size ^ k) (first_there k (i + 1) there)
    where
      least : (a : ℕ) → a < t.leaves → a ≡ min t.leaves a
      least a lt = omega arith

  -- behind the last of a group comes what comes behind its parent
  pub behind_parent : (k i : ℕ) → IsNode t k i → children_end t k (i / t.node_size) ≤ i + 1 → leaf_behind t (k + 1) (i / t.node_size) ≡ leaf_behind t k i
  behind_parent k i is last =
      let s = t.node_size in
      let q = i / s in
      let p = s ^ k in
      let under : i + 1 ≤ s * (q + 1) = omega (arith, lt-mul-div-succ i {b = s} (omega (arith, shape.wide))) in
      let up : (q + 1) * s ^ (k + 1) ≡ (s * (q + 1)) * p = ap (λ n. (q + 1) * n) (pow_next s k) ∙ turned q s p in
      ap (min t.leaves) up ∙ ends (s * (q + 1)) (width t k) p under last (all_below k)
    where
      turned : (q s p : ℕ) → (q + 1) * (p * s) ≡ (s * (q + 1)) * p
      turned q s p = omega arith

      ends : (e w p : ℕ) → i + 1 ≤ e → min e w ≤ i + 1 → t.leaves ≤ w * p → min t.leaves (e * p) ≡ min t.leaves ((i + 1) * p)
      ends e w p under last all = elim (cases_lt (i + 1) e) [
        | inl more ↦
            let x : w ≤ i + 1 = omega arith in
            let y : w * p ≤ (i + 1) * p = mul-le-mul_right p x in
            let z : (i + 1) * p ≤ e * p = mul-le-mul_right p under in
            omega arith
        | inr le ↦ let same : e ≡ i + 1 = omega arith in ap (λ n. min t.leaves (n * p)) same
      ]

  -- behind the root comes nothing
  pub behind_root : (i : ℕ) → IsNode t t.top i → leaf_behind t t.top i ≡ t.leaves
  behind_root i is = least (t.node_size ^ t.top) (subst (λ w. t.leaves ≤ w * t.node_size ^ t.top) shape.root (all_below t.top))
    where
      least : (p : ℕ) → t.leaves ≤ 1 * p → min t.leaves ((i + 1) * p) ≡ t.leaves
      least p all = let x : 1 * p ≤ (i + 1) * p = mul-le-mul_right p (omega arith) in omega arith

  -- the next of a group
  group_next : (s i w : ℕ) → 2 ≤ s → i + 1 < min (s * (i / s + 1)) w → ((i + 1) / s ≡ i / s) × (i + 1 < w)
  group_next s i w wide more = (parent_of s (i / s) (i + 1) (let x : s * (i / s) ≤ i = mul-div-le i s in omega arith) (omega arith), omega arith)

  -- the child that comes next
  pub child_there : (k i : ℕ) → IsNode t (k + 1) i → IsNode t k (first_child t i)
  child_there k i is = record { level = omega (arith, is.level); there = first_child_there t shape k i is.there }

  pub child_leaf : (k i : ℕ) → first_leaf t k (first_child t i) ≡ first_leaf t (k + 1) i
  child_leaf k i = turned t.node_size i (t.node_size ^ k) ∙ ap (λ n. i * n) (sym (pow_next t.node_size k))
    where
      turned : (s i p : ℕ) → (s * i) * p ≡ i * (p * s)
      turned s i p = omega arith

  -- ## What is wanted

  -- with a node its parent is, and the next of its group
  pub parent_wanted : (k i : ℕ) → k < t.top → IsWantedToo t k i (k + 1) (i / t.node_size)
  parent_wanted k i below nodes test wanted = first_and _ _ (sym (wanted_under t nodes test k i below) ∙ wanted)

  pub next_wanted : (k i : ℕ) → k < t.top → (i + 1) / t.node_size ≡ i / t.node_size → IsWantedToo t k i k (i + 1)
  next_wanted k i below group nodes test wanted =
      wanted_under t nodes test k (i + 1) below
      ∙ ap (λ j. is_wanted t nodes test (k + 1) j && passes t nodes test (k + 1) j) group
      ∙ sym (wanted_under t nodes test k i below) ∙ wanted

  -- a parent stands in front
  pub falls : (k i number parent : ℕ) → IsNode t k i → number ≡ place t k i → k < t.top → parent ≡ place t (k + 1) (i / t.node_size) → parent < number
  falls k i number parent is here below up =
      let there = parent_there t shape k i is.there below in
      let e : k + 1 - 1 ≡ k = omega arith in
      lower (nodes_above t (k + 1)) (width t (k + 1)) (nodes_above t k) (i / t.node_size) (level_follows t (k + 1) (omega arith) (omega arith) ∙ ap (λ m. place t m 0) e) there.there up here
    where
      lower : (a w b x : ℕ) → a + w ≡ b + 0 → x < w → parent ≡ a + x → number ≡ b + i → parent < number
      lower a w b x e lt one other = omega arith

  -- ## The climb

  -- it came from node i of level k to the node with this number
  pub record Climbs (k i number : ℕ) : Type 0 where
    pub level : ℕ
    pub index : ℕ
    pub is : IsNode t level index
    pub stands : number ≡ place t level index
    pub behind : leaf_behind t level index ≡ leaf_behind t k i
    pub wanted : IsWantedToo t k i level index

  pub climbs_none : (k i number : ℕ) → IsNode t k i → number ≡ place t k i → Climbs k i number
  climbs_none k i number is stands = record { level = k; index = i; is = is; stands = stands; behind = refl; wanted = λ nodes test w. w }

  module _ (k i number : ℕ) (climbs : Climbs k i number) where
    -- to a parent
    pub climbs_up : (parent : ℕ) → climbs.level < t.top → parent ≡ place t (climbs.level + 1) (climbs.index / t.node_size)
        → (end : ℕ) → end ≡ place t climbs.level (children_end t climbs.level (climbs.index / t.node_size)) → end ≤ number + 1 → Climbs k i parent
    climbs_up parent below stands end is_end last =
        let l = climbs.level in
        let j = climbs.index in
        record {
          level = l + 1;
          index = j / t.node_size;
          is = parent_there t shape l j climbs.is.there below;
          stands = stands;
          behind = behind_parent l j climbs.is (ended (nodes_above t l) j (children_end t l (j / t.node_size)) is_end climbs.stands) ∙ climbs.behind;
          wanted = λ nodes test w. parent_wanted l j below nodes test (climbs.wanted nodes test w);
        }
      where
        ended : (a j e : ℕ) → end ≡ a + e → number ≡ a + j → e ≤ j + 1
        ended a j e one other = omega arith

    -- to the next of the group
    pub climbs_on : climbs.level < t.top → (end : ℕ) → end ≡ place t climbs.level (children_end t climbs.level (climbs.index / t.node_size)) → number + 1 < end → ComesBehind t k i (Some (number + 1))
    climbs_on below end is_end more =
        let l = climbs.level in
        let j = climbs.index in
        let next = group_next t.node_size j (width t l) shape.wide (under (nodes_above t l) j (children_end t l (j / t.node_size)) is_end climbs.stands) in
        let number_is : place t l (j + 1) ≡ number + 1 = one_on (nodes_above t l) j climbs.stands in
        subst (λ n. ComesBehind t k i (Some n)) number_is
        (sibling l j (record { level = climbs.is.level; there = next.1 }) next.0 (behind_next l j next.1 ∙ climbs.behind)
        (λ nodes test w. next_wanted l j below next.0 nodes test (climbs.wanted nodes test w)))
      where
        under : (a j e : ℕ) → end ≡ a + e → number ≡ a + j → j + 1 < e
        under a j e one other = omega arith

        one_on : (a j : ℕ) → number ≡ a + j → a + (j + 1) ≡ number + 1
        one_on a j e = omega arith

    -- past the root
    pub climbs_out : climbs.level ≡ t.top → ComesBehind t k i None
    climbs_out top =
        let is = subst (λ l. IsNode t l climbs.index) top climbs.is in
        nothing (sym climbs.behind ∙ ap (λ l. leaf_behind t l climbs.index) top ∙ behind_root climbs.index is)
