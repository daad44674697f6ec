-- What the faults of groups say of the whole tree: each is a broken rule, and where no group has one, nothing is broken.
use Rattle.std.proofs.Common.{◌≡◌, ℕ, zero, suc, ◌+◌, ◌-◌, ◌*◌, ◌/◌, ◌<◌, ◌≤◌, Bool, true, false, List, [], ◌∷◌, refl, sym, ap, ◌∙◌, subst, inl, inr, arith, add-one}
use Rattle.std.proofs.lemmas.Bool.{cases_lt, eq-eqb, eqb-true}
use Rattle.std.proofs.Math.Nat.{mul-div-le}
use Rattle.std.specs.List.{list_all}
use Rattle.flat_layout.specs.declared.Rule.{Rule}
use Rattle.flat_layout.specs.declared.Rule.TheVariants.{NodeBox, ChildOffset, ParentBox}
use Rattle.flat_layout.specs.declared.Broken.{Broken}
use Rattle.order_keys.specs.Boxes.{is_box, contains}
use Rattle.level_bounds.specs.Levels.{Shape, IsShape, IsNode, width, place, first_child, children_end, node_count}
use Rattle.level_bounds.proofs.Places.{parent_there, node_within}
use Rattle.node_items.specs.declared.item.NodeItem.{NodeItem}
use Rattle.node_items.specs.Nodes.{node_place}
use Rattle.node_items.specs.Faults.{IsChild, BreaksTree, no_box, not_first_child, not_around, refusal, names_child, node_faults, children, parent_faults, group_faults, root_faults}
use Rattle.node_items.proofs.Runs.{BeginsWith, split_front, no_parts, fault_in, none_in, fails_in, holds_in}
use Rattle.node_items.proofs.Faults.{fault_at, own_faults, is_around}
use Rattle.node_items.proofs.Groups.{root_is_node}

-- a refusal by a test
refusal_begins : (test : Bool) (at : ℕ) (rule : Rule) (e : Broken) → BeginsWith (refusal test at rule) e → (test ≡ false) × (e ≡ record { place = at; rule = rule })
refusal_begins true at rule e begins = let eq = begins.1 in cc
refusal_begins false at rule e begins =
    let eq = begins.1 in
    let same : e ≡ record { place = at; rule = rule } = cc in
    (refl, same)

no_refusal : (test : Bool) (at : ℕ) (rule : Rule) → refusal test at rule ≡ [] → test ≡ true
no_refusal true at rule none = refl
no_refusal false at rule none = cc

module _ (t : Shape) (nodes : ℕ → NodeItem) (at : ℕ) where
  -- a fault of a node by itself
  pub named : (k i : ℕ) → names_child t (suc k) i (nodes (place t (suc k) i)).offset ≡ false → (nodes (place t (suc k) i)).offset ≡ place t k (first_child t i) → ⊥
  named k i wrong same =
      let right = eq-eqb (nodes (place t (suc k) i)).offset (place t k (first_child t i)) same in
      cc

  wrong_offset : (k i : ℕ) → IsNode t k i → names_child t k i (nodes (place t k i)).offset ≡ false → BreaksTree t nodes at (node_place at (place t k i)) ChildOffset
  wrong_offset zero i is wrong = cc
  wrong_offset (suc k) i is wrong = not_first_child is (named k i wrong)

  -- the first fault of a node by itself is broken, whatever that is to say
  pub node_breaks : (Breaks : ℕ → Rule → Type 0) (k i : ℕ) (e : Broken)
      → (is_box (nodes (place t k i)).bounds ≡ false → Breaks (node_place at (place t k i)) NodeBox)
      → (names_child t k i (nodes (place t k i)).offset ≡ false → Breaks (node_place at (place t k i)) ChildOffset)
      → BeginsWith (node_faults t nodes at k i) e → Breaks e.place e.rule
  unfolding node_faults
  node_breaks Breaks k i e box offset begins =
      let there = node_place at (place t k i) in
      elim (split_front (refusal (is_box (nodes (place t k i)).bounds) there NodeBox) (refusal (names_child t k i (nodes (place t k i)).offset) there ChildOffset) e begins) [
        | inl first ↦
            let told = refusal_begins (is_box (nodes (place t k i)).bounds) there NodeBox e first in
            subst (λ d. Breaks d.place d.rule) (sym told.1) (box told.0)
        | inr rest ↦
            let told = refusal_begins (names_child t k i (nodes (place t k i)).offset) there ChildOffset e rest.1 in
            subst (λ d. Breaks d.place d.rule) (sym told.1) (offset told.0)
      ]

  -- so is that of a node on account of a child
  parent_breaks : (Breaks : ℕ → Rule → Type 0) (k i j : ℕ) (e : Broken) → j ≡ suc k
      → ((c : ℕ) → IsChild t k i c → contains (nodes (place t (suc k) i)).bounds (nodes (place t k c)).bounds ≡ false → Breaks (node_place at (place t (suc k) i)) ParentBox)
      → list_all (λ c. contains (nodes (place t j i)).bounds (nodes (place t k c)).bounds) (children t nodes at k i) ≡ false
      → e ≡ fault_at at (place t (suc k) i) ParentBox → Breaks e.place e.rule
  parent_breaks Breaks k i j e up around wrong same =
      let fails = fails_in (λ c. contains (nodes (place t j i)).bounds (nodes (place t k c)).bounds) (first_child t i) (children_end t k i - first_child t i) wrong in
      let child : IsChild t k i fails.at = record { first = fails.after; end = omega (arith, fails.after, fails.before) } in
      let outside : contains (nodes (place t (suc k) i)).bounds (nodes (place t k fails.at)).bounds ≡ false = subst (λ l. contains (nodes (place t l i)).bounds (nodes (place t k fails.at)).bounds ≡ false) up fails.wrong in
      subst (λ d. Breaks d.place d.rule) (sym same) (around fails.at child outside)

  -- and so is that of a group
  pub group_breaks : (Breaks : ℕ → Rule → Type 0) (k i : ℕ) (e : Broken)
      → ((c : ℕ) → IsChild t k i c → is_box (nodes (place t k c)).bounds ≡ false → Breaks (node_place at (place t k c)) NodeBox)
      → ((c : ℕ) → IsChild t k i c → names_child t k c (nodes (place t k c)).offset ≡ false → Breaks (node_place at (place t k c)) ChildOffset)
      → ((c : ℕ) → IsChild t k i c → contains (nodes (place t (suc k) i)).bounds (nodes (place t k c)).bounds ≡ false → Breaks (node_place at (place t (suc k) i)) ParentBox)
      → BeginsWith (group_faults t nodes at k i) e → Breaks e.place e.rule
  unfolding group_faults parent_faults
  group_breaks Breaks k i e box offset around begins = elim (split_front (own_faults t nodes at k i) (parent_faults t nodes at k i) e begins) [
    | inl own ↦
        let fault = fault_in (node_faults t nodes at k) (first_child t i) (children_end t k i - first_child t i) e own in
        let child : IsChild t k i fault.at = record { first = fault.after; end = omega (arith, fault.after, fault.before) } in
        node_breaks Breaks k fault.at e (box fault.at child) (offset fault.at child) fault.begins
    | inr later ↦
        let told = refusal_begins (is_around t nodes at k i) (node_place at (place t (suc k) i)) ParentBox e later.1 in
        parent_breaks Breaks k i (k + 1) e (add-one k) around told.0 told.1
  ]

  -- the first fault of a group breaks a rule of the tree
  pub group_broken : (k i : ℕ) (e : Broken) (rest : List Broken) → IsNode t (suc k) i → group_faults t nodes at k i ≡ e ∷ rest → BreaksTree t nodes at e.place e.rule
  group_broken k i e rest is begins =
      let below = λ (c : ℕ) (child : IsChild t k i c). under c child is in
      group_breaks (BreaksTree t nodes at) k i e (λ c child wrong. no_box (below c child) wrong) (λ c child wrong. wrong_offset k c (below c child) wrong) (λ c child wrong. not_around is child wrong) (rest, begins)
    where
      under : (c : ℕ) → IsChild t k i c → IsNode t (suc k) i → IsNode t k c
      under c child up = record { level = omega (arith, up.level); there = omega (arith, child.end) }

  pub root_broken : (e : Broken) (rest : List Broken) → IsShape t → root_faults t nodes at ≡ e ∷ rest → BreaksTree t nodes at e.place e.rule
  root_broken e rest shape begins =
      let is = root_is_node t shape 0 (omega arith) in
      node_breaks (BreaksTree t nodes at) t.top 0 e (λ wrong. no_box is wrong) (λ wrong. wrong_offset t.top 0 is wrong) (rest, begins)

  -- what is clean
  pub clean_box : (k i : ℕ) → node_faults t nodes at k i ≡ [] → is_box (nodes (place t k i)).bounds ≡ true
  unfolding node_faults
  clean_box k i none =
      no_refusal (is_box (nodes (place t k i)).bounds) (node_place at (place t k i)) NodeBox
      (no_parts (refusal (is_box (nodes (place t k i)).bounds) (node_place at (place t k i)) NodeBox) _ none).0

  pub clean_offset : (k i : ℕ) → node_faults t nodes at k i ≡ [] → names_child t k i (nodes (place t k i)).offset ≡ true
  unfolding node_faults
  clean_offset k i none =
      no_refusal (names_child t k i (nodes (place t k i)).offset) (node_place at (place t k i)) ChildOffset
      (no_parts (refusal (is_box (nodes (place t k i)).bounds) (node_place at (place t k i)) NodeBox) _ none).1

  pub clean_around : (k i c : ℕ) → group_faults t nodes at k i ≡ [] → IsChild t k i c → contains (nodes (place t (suc k) i)).bounds (nodes (place t k c)).bounds ≡ true
  unfolding group_faults parent_faults
  clean_around k i c none child =
      let parts = no_parts (own_faults t nodes at k i) (parent_faults t nodes at k i) none in
      let around = no_refusal (is_around t nodes at k i) (node_place at (place t (suc k) i)) ParentBox parts.1 in
      let inside : contains (nodes (place t (k + 1) i)).bounds (nodes (place t k c)).bounds ≡ true =
      holds_in (λ d. contains (nodes (place t (k + 1) i)).bounds (nodes (place t k d)).bounds) (first_child t i) (children_end t k i - first_child t i) c around child.first (omega (arith, child.first, child.end)) in
      subst (λ l. contains (nodes (place t l i)).bounds (nodes (place t k c)).bounds ≡ true) (add-one k) inside

  pub clean_child : (k i c : ℕ) → group_faults t nodes at k i ≡ [] → IsChild t k i c → node_faults t nodes at k c ≡ []
  unfolding group_faults
  clean_child k i c none child =
      let parts = no_parts (own_faults t nodes at k i) (parent_faults t nodes at k i) none in
      none_in (node_faults t nodes at k) (first_child t i) (children_end t k i - first_child t i) c parts.0 child.first (omega (arith, child.first, child.end))

  -- a node below the root is a child of its parent
  pub is_child : (k c : ℕ) → 0 < t.node_size → c < width t k → IsChild t k (c / t.node_size) c
  is_child k c some there =
      let front : t.node_size * (c / t.node_size) ≤ c = mul-div-le c t.node_size in
      let behind : c < t.node_size * (c / t.node_size + 1) = omega arith in
      record { first = front; end = omega arith }

  module _ (shape : IsShape t) (root : root_faults t nodes at ≡ []) (groups : (k i : ℕ) → IsNode t (suc k) i → group_faults t nodes at k i ≡ []) where
    clean_node : (k i : ℕ) → IsNode t k i → node_faults t nodes at k i ≡ []
    clean_node k i is = elim (cases_lt k t.top) [
      | inl below ↦
          let up : IsNode t (suc k) (i / t.node_size) = subst (λ l. IsNode t l (i / t.node_size)) (add-one k) (parent_there t shape k i is.there below) in
          clean_child k (i / t.node_size) i (groups k (i / t.node_size) up) (is_child k i (omega (arith, shape.wide)) is.there)
      | inr above ↦
          let top : k ≡ t.top = omega (arith, is.level) in
          let one : i < width t t.top = subst (λ l. i < width t l) top is.there in
          let first : i ≡ 0 = omega (arith, shape.root) in
          rw (top, first) root
    ]

    -- where no group has a fault, nor the root, nothing is broken
    pub tree_clean : (q : ℕ) (r : Rule) → BreaksTree t nodes at q r → ⊥
    tree_clean q r (no_box {k} {i} is wrong) = let right = clean_box k i (clean_node k i is) in cc
    tree_clean q r (not_first_child {k} {i} is wrong) =
        wrong (eqb-true (nodes (place t (suc k) i)).offset (place t k (first_child t i)) (clean_offset (suc k) i (clean_node (suc k) i is)))
    tree_clean q r (not_around {k} {i} {c} is child wrong) = let right = clean_around k i c (groups k i is) child in cc

-- what is broken depends on the nodes of the tree alone
pub tree_same : (t : Shape) (nodes others : ℕ → NodeItem) (at : ℕ) → ((number : ℕ) → number < node_count t → nodes number ≡ others number) → (q : ℕ) (r : Rule) → BreaksTree t nodes at q r → BreaksTree t others at q r
tree_same t nodes others at same q r (no_box {k} {i} is wrong) =
    no_box is (ap (λ v. is_box v.bounds) (sym (same (place t k i) (node_within t k i is))) ∙ wrong)
tree_same t nodes others at same q r (not_first_child {k} {i} is wrong) =
    not_first_child is (λ right. wrong (ap (λ v. v.offset) (same (place t (suc k) i) (node_within t (suc k) i is)) ∙ right))
tree_same t nodes others at same q r (not_around {k} {i} {c} is child wrong) =
    let below : IsNode t k c = record { level = omega (arith, is.level); there = omega (arith, child.end) } in
    not_around is child (ap (λ v. contains v.bounds (others (place t k c)).bounds) (sym (same (place t (suc k) i) (node_within t (suc k) i is))) ∙ ap (λ v. contains (nodes (place t (suc k) i)).bounds v.bounds) (sym (same (place t k c) (node_within t k c below))) ∙ wrong)
