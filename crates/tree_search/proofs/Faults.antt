-- What the faults of the groups under what was found say of the wanted nodes: each is a broken rule, and where there is
-- none, nothing is broken.
use Rattle.std.proofs.Common.{◌≡◌, ℕ, zero, suc, ◌+◌, ◌-◌, ◌/◌, ◌^◌, ◌<◌, Bool, true, false, ◌&&◌, List, [], refl, sym, ap, subst, ◌∙◌, inl, inr, arith, add-one}
use Rattle.std.specs.Prelude.{cond}
use Rattle.std.specs.List.{flat_map, list_all, range_with_len}
use Rattle.std.proofs.lemmas.Bool.{cases_lt, eqb-true}
use Rattle.flat_layout.specs.Promises.{IsClean}
use Rattle.flat_layout.specs.declared.Broken.{Broken}
use Rattle.flat_layout.specs.declared.Rule.TheVariants.{ChildOffset}
use Rattle.order_keys.specs.declared.bounds.Bounds.{Bounds}
use Rattle.level_bounds.specs.Levels.{Shape, IsShape, IsNode, width, place, first_child}
use Rattle.level_bounds.proofs.Places.{parent_there}
use Rattle.node_items.specs.declared.item.NodeItem.{NodeItem}
use Rattle.node_items.specs.Faults.{IsChild, names_child, node_faults, group_faults, root_faults}
use Rattle.node_items.specs.Nodes.{node_place}
use Rattle.node_items.proofs.Groups.{root_is_node}
use Rattle.node_items.proofs.Runs.{BeginsWith, fault_in, none_in}
use Rattle.node_items.proofs.Trees.{clean_around, clean_box, clean_child, clean_offset, group_breaks, is_child, named, node_breaks}
use Rattle.tree_search.specs.Wanted.{BreaksWanted, hits, is_wanted, no_box, not_around, not_first_child, passes}
use Rattle.tree_search.proofs.Descent.{parent_of, wanted_under}
use Rattle.tree_search.proofs.Filters.{flat_map_kept}

when_kept : (b : Bool) (xs : List Broken) → b ≡ true → cond b xs [] ≡ [] → xs ≡ []
when_kept true xs is none = none
when_kept false xs is none = cc

kept_begins : (b : Bool) (xs : List Broken) (e : Broken) → BeginsWith (cond b xs []) e → (b ≡ true) × BeginsWith xs e
kept_begins true xs e begins = (refl, begins)
kept_begins false xs e begins = let eq = begins.1 in cc

module _ (t : Shape) (nodes : ℕ → NodeItem) (test : Bounds → Bool) (at : ℕ) where
  is_hit : ℕ → ℕ → Bool
  is_hit k i = is_wanted t nodes test k i && passes t nodes test k i

  -- the children of what was found are wanted
  child_wanted : (k i c : ℕ) → IsNode t (k + 1) i → is_hit (k + 1) i ≡ true → IsChild t k i c → is_wanted t nodes test k c ≡ true
  unfolding is_hit
  child_wanted k i c is hit child =
      let parent : c / t.node_size ≡ i = parent_of t.node_size i c child.first (omega (arith, child.end)) in
      wanted_under t nodes test k c (omega (arith, is.level)) ∙ ap (λ j. is_wanted t nodes test (k + 1) j && passes t nodes test (k + 1) j) parent ∙ hit

  -- and the parent of what is wanted was found
  parent_hit : (k i c : ℕ) → k < t.top → IsChild t k i c → is_wanted t nodes test k c ≡ true → is_hit (k + 1) i ≡ true
  unfolding is_hit
  parent_hit k i c below child wanted =
      let parent : c / t.node_size ≡ i = parent_of t.node_size i c child.first (omega (arith, child.end)) in
      ap (λ j. is_wanted t nodes test (k + 1) j && passes t nodes test (k + 1) j) (sym parent) ∙ sym (wanted_under t nodes test k c below) ∙ wanted

  top_wanted : (i : ℕ) → is_wanted t nodes test t.top i ≡ true
  unfolding is_wanted
  top_wanted i =
      let none : t.top - t.top ≡ 0 = omega arith in
      ap (λ n. list_all (λ d. passes t nodes test (t.top + d) (i / t.node_size ^ d)) (range_with_len 1 n)) none

  wrong_offset : (k i : ℕ) → IsNode t k i → is_wanted t nodes test k i ≡ true → names_child t k i (nodes (place t k i)).offset ≡ false → BreaksWanted t nodes test at (node_place at (place t k i)) ChildOffset
  wrong_offset zero i is wanted wrong = cc
  wrong_offset (suc k) i is wanted wrong = not_first_child is wanted (named t nodes at k i wrong)

  -- the first fault of the root
  pub root_breaks : IsShape t → (e : Broken) → BeginsWith (root_faults t nodes at) e → BreaksWanted t nodes test at e.place e.rule
  root_breaks shape e begins =
      let is = root_is_node t shape 0 (omega arith) in
      node_breaks t nodes at (BreaksWanted t nodes test at) t.top 0 e (λ wrong. no_box is (top_wanted 0) wrong) (λ wrong. wrong_offset t.top 0 is (top_wanted 0) wrong) begins

  under : (k i c : ℕ) → IsNode t (k + 1) i → IsChild t k i c → IsNode t k c
  under k i c is child = record { level = omega (arith, is.level); there = omega (arith, child.end) }

  group_of : (k i : ℕ) (e : Broken) → IsNode t (k + 1) i → is_hit (k + 1) i ≡ true → BeginsWith (group_faults t nodes at k i) e → BreaksWanted t nodes test at e.place e.rule
  group_of k i e is hit begins =
      let up : IsNode t (suc k) i = subst (λ l. IsNode t l i) (add-one k) is in
      group_breaks t nodes at (BreaksWanted t nodes test at) k i e
      (λ c child wrong. no_box (under k i c is child) (child_wanted k i c is hit child) wrong)
      (λ c child wrong. wrong_offset k c (under k i c is child) (child_wanted k i c is hit child) wrong)
      (λ c child wrong. not_around up child (child_wanted k i c is hit child) wrong) begins

  -- the first fault of the groups under what was found in a level
  pub level_breaks : (k : ℕ) (e : Broken) → k < t.top → BeginsWith (flat_map (group_faults t nodes at k) (hits t nodes test (k + 1))) e → BreaksWanted t nodes test at e.place e.rule
  unfolding hits is_hit
  level_breaks k e below begins =
      let kept = flat_map_kept (is_hit (k + 1)) (group_faults t nodes at k) (range_with_len 0 (width t (k + 1))) in
      let fault = fault_in (λ i. cond (is_hit (k + 1) i) (group_faults t nodes at k i) []) 0 (width t (k + 1)) e (begins.0, kept ∙ begins.1) in
      let here = kept_begins (is_hit (k + 1) fault.at) (group_faults t nodes at k fault.at) e fault.begins in
      group_of k fault.at e (record { level = omega arith; there = omega (arith, fault.before) }) here.0 here.1

  -- where none of them has a fault
  module _ (shape : IsShape t) (root : root_faults t nodes at ≡ []) (groups : (k : ℕ) → k < t.top → flat_map (group_faults t nodes at k) (hits t nodes test (k + 1)) ≡ []) where
    group_clean : (k i c : ℕ) → IsNode t (k + 1) i → IsChild t k i c → is_wanted t nodes test k c ≡ true → group_faults t nodes at k i ≡ []
    unfolding hits is_hit
    group_clean k i c is child wanted =
        let kept = flat_map_kept (is_hit (k + 1)) (group_faults t nodes at k) (range_with_len 0 (width t (k + 1))) in
        let none = none_in (λ j. cond (is_hit (k + 1) j) (group_faults t nodes at k j) []) 0 (width t (k + 1)) i (kept ∙ groups k (omega (arith, is.level))) (omega arith) (omega (arith, is.there)) in
        when_kept (is_hit (k + 1) i) (group_faults t nodes at k i) (parent_hit k i c (omega (arith, is.level)) child wanted) none

    node_clean : (k i : ℕ) → IsNode t k i → is_wanted t nodes test k i ≡ true → node_faults t nodes at k i ≡ []
    node_clean k i is wanted = elim (cases_lt k t.top) [
      | inl below ↦
          let up = parent_there t shape k i is.there below in
          let child = is_child t nodes at k i (omega (arith, shape.wide)) is.there in
          clean_child t nodes at k (i / t.node_size) i (group_clean k (i / t.node_size) i up child wanted) child
      | inr above ↦
          let top : k ≡ t.top = omega (arith, is.level) in
          let one : i < width t t.top = subst (λ l. i < width t l) top is.there in
          let first : i ≡ 0 = omega (arith, shape.root) in
          rw (top, first) root
    ]

    pub wanted_clean : IsClean (BreaksWanted t nodes test at)
    wanted_clean q r (no_box {k} {i} is wanted wrong) = let right = clean_box t nodes at k i (node_clean k i is wanted) in cc
    wanted_clean q r (not_first_child {k} {i} is wanted wrong) =
        wrong (eqb-true (nodes (place t (suc k) i)).offset (place t k (first_child t i)) (clean_offset t nodes at (suc k) i (node_clean (suc k) i is wanted)))
    wanted_clean q r (not_around {k} {i} {c} is child wanted wrong) =
        let up : IsNode t (k + 1) i = subst (λ l. IsNode t l i) (sym (add-one k)) is in
        let right = clean_around t nodes at k i c (group_clean k i c up child wanted) child in
        cc
