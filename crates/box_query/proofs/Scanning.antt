-- In a tree that breaks no rule each node above a leaf whose box meets one of several boxes has a box that meets it, too.
use Rattle.std.proofs.Common.{◌≡◌, ℕ, zero, suc, ◌+◌, ◌-◌, ◌/◌, ◌^◌, ◌<◌, ◌≤◌, Bool, true, false, ◌&&◌, List, IsTrue, refl, sym, ap, subst, ◌∙◌, arith, add-one}
use Rattle.std.specs.List.{filter, range_with_len}
use Rattle.std.proofs.Math.Nat.{div-div-eq-div-mul, div-one, pow-suc, pow-zero}
use Rattle.flat_layout.specs.Promises.{IsClean}
use Rattle.flat_layout.specs.declared.Rule.TheVariants.{ParentBox}
use Rattle.order_keys.specs.declared.bounds.Bounds.{Bounds}
use Rattle.order_keys.specs.Boxes.{Contains, contains, meets}
use Rattle.order_keys.proofs.Order.{at_most_is, at_most_through, meets_is}
use Rattle.level_bounds.specs.Levels.{Shape, IsShape, IsNode, width, place}
use Rattle.level_bounds.proofs.Places.{parent_there}
use Rattle.level_bounds.proofs.Widths.{ceil_one}
use Rattle.node_items.specs.declared.item.NodeItem.{NodeItem}
use Rattle.node_items.specs.Faults.{BreaksTree, not_around}
use Rattle.node_items.specs.Nodes.{node_place}
use Rattle.node_items.proofs.Runs.{none_fails}
use Rattle.node_items.proofs.Trees.{is_child}
use Rattle.box_list.specs.Lists.{meets_any}
use Rattle.tree_search.specs.Wanted.{hits, is_wanted, passes}
use Rattle.tree_search.proofs.Filters.{filter_same}
use Rattle.box_query.proofs.Anyone.{any_leads}

each_of : (p q r s : Bool) → IsTrue (p && q && r && s) → IsTrue p × IsTrue q × IsTrue r × IsTrue s
each_of p q r s h = grind arith

contains_is : (a b : Bounds) → IsTrue (contains a b) → Contains a b
contains_is a b h =
    let each = each_of _ _ _ _ h in
    record {
      left = (at_most_is a.min_x.0 b.min_x.0).0 each.0;
      below = (at_most_is a.min_y.0 b.min_y.0).0 each.1;
      right = (at_most_is b.max_x.0 a.max_x.0).0 each.2;
      above = (at_most_is b.max_y.0 a.max_y.0).0 each.3;
    }

-- what meets a part meets the whole
meets_around : (a c box : Bounds) → contains a c ≡ true → meets c box ≡ true → meets a box ≡ true
meets_around a c box around meet =
    let in_a = contains_is a c around in
    let in_c = (meets_is c box).0 meet in
    (meets_is a box).1 (record {
      left = at_most_through a.min_x.0 c.min_x.0 box.max_x.0 in_a.left in_c.left;
      right = at_most_through box.min_x.0 c.max_x.0 a.max_x.0 in_c.right in_a.right;
      below = at_most_through a.min_y.0 c.min_y.0 box.max_y.0 in_a.below in_c.below;
      above = at_most_through box.min_y.0 c.max_y.0 a.max_y.0 in_c.above in_a.above;
    })

pub any_around : (boxes : List Bounds) (a c : Bounds) → contains a c ≡ true → meets_any boxes c ≡ true → meets_any boxes a ≡ true
any_around boxes a c around meet = any_leads (meets c) (meets a) (λ box. meets_around a c box around) boxes meet

true_or_not : (b : Bool) → (b ≡ false → ⊥) → b ≡ true
true_or_not true never = refl
true_or_not false never = absurd (never refl)

when_true : (a b : Bool) → (b ≡ true → a ≡ true) → (a && b) ≡ b
when_true true true h = refl
when_true true false h = refl
when_true false true h = h refl
when_true false false h = refl

module _ (t : Shape) (nodes : ℕ → NodeItem) (at : ℕ) (shape : IsShape t) (clean : IsClean (BreaksTree t nodes at)) where
  -- a parent lies around its child
  around : (k c : ℕ) → c < width t k → k < t.top → contains (nodes (place t (k + 1) (c / t.node_size))).bounds (nodes (place t k c)).bounds ≡ true
  around k c there below =
      let up : IsNode t (suc k) (c / t.node_size) = subst (λ l. IsNode t l (c / t.node_size)) (add-one k) (parent_there t shape k c there below) in
      subst (λ l. contains (nodes (place t l (c / t.node_size))).bounds (nodes (place t k c)).bounds ≡ true) (sym (add-one k))
      (true_or_not _ (λ outside. clean (node_place at (place t (suc k) (c / t.node_size))) ParentBox (not_around up (is_child t nodes at k c (omega (arith, shape.wide)) there) outside)))

  up_one : (i d : ℕ) → i / t.node_size ^ d / t.node_size ≡ i / t.node_size ^ (d + 1)
  up_one i d =
      let e : suc d ≡ d + 1 = omega arith in
      div-div-eq-div-mul i (t.node_size ^ d) t.node_size ∙ ap (λ p. i / p) (sym (pow-suc t.node_size d) ∙ ap (λ n. t.node_size ^ n) e)

  -- a test that a box passes where one inside it does
  module _ (test : Bounds → Bool) (wider : (a c : Bounds) → contains a c ≡ true → test c ≡ true → test a ≡ true) where
    -- the ancestor of a leaf so many levels above it is there, and passes
    record Passing (i d : ℕ) : Type 0 where
      pub there : i / t.node_size ^ d < width t d
      pub passing : passes t nodes test d (i / t.node_size ^ d) ≡ true

    all_above : (i d : ℕ) → i < width t 0 → passes t nodes test 0 i ≡ true → d ≤ t.top → Passing i d
    all_above i zero there passing under =
        let same : i / t.node_size ^ 0 ≡ i = ap (λ p. i / p) (pow-zero t.node_size) ∙ div-one i in
        record { there = subst (λ j. j < width t 0) (sym same) there; passing = ap (passes t nodes test 0) same ∙ passing }
    all_above i (suc d) there passing under =
        let below = all_above i d there passing (omega arith) in
        let c = i / t.node_size ^ d in
        let up = parent_there t shape d c below.there (omega arith) in
        let meet : passes t nodes test (d + 1) (c / t.node_size) ≡ true = wider _ _ (around d c below.there (omega arith)) below.passing in
        subst (λ l. Passing i l) (add-one d) (record {
          there = subst (λ j. j < width t (d + 1)) (up_one i d) up.there;
          passing = ap (passes t nodes test (d + 1)) (sym (up_one i d)) ∙ meet;
        })

    leaf_wanted : (i : ℕ) → i < width t 0 → passes t nodes test 0 i ≡ true → is_wanted t nodes test 0 i ≡ true
    unfolding is_wanted
    leaf_wanted i there passing =
        none_fails (λ d. passes t nodes test (0 + d) (i / t.node_size ^ d)) 1 (t.top - 0) (λ d from till.
        let e : 0 + d ≡ d = omega arith in
        ap (λ l. passes t nodes test l (i / t.node_size ^ d)) e ∙ (all_above i d there passing (omega arith)).passing)

    passing_is_found : hits t nodes test 0 ≡ filter (passes t nodes test 0) (range_with_len 0 t.leaves)
    unfolding hits
    passing_is_found =
        filter_same (λ i. is_wanted t nodes test 0 i && passes t nodes test 0 i) (passes t nodes test 0) 0 (width t 0) (λ i from till.
        when_true _ _ (leaf_wanted i (omega arith)))
        ∙ ap (λ n. filter (passes t nodes test 0) (range_with_len 0 n)) (ceil_one t.leaves t.node_size)

  pub found_is_scan : (boxes : List Bounds) → hits t nodes (meets_any boxes) 0 ≡ filter (passes t nodes (meets_any boxes) 0) (range_with_len 0 t.leaves)
  found_is_scan boxes = passing_is_found (meets_any boxes) (any_around boxes)
