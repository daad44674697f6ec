-- The nodes of a group, as nodes of the tree.
use Rattle.std.proofs.Common.{◌≡◌, ℕ, ◌+◌, ◌-◌, ◌*◌, ◌/◌, ◌<◌, ◌≤◌, [], length, Option, Some, refl, sym, ap, ◌∙◌, subst, arith, append-nil}
use Rattle.std.specs.List.{flat_map, list_all, range_with_len}
use Rattle.flat_layout.specs.declared.Broken.{Broken}
use Rattle.order_keys.specs.Boxes.{contains}
use Rattle.level_bounds.specs.Levels.{Shape, IsShape, IsNode, place, first_child, children_end}
use Rattle.node_items.specs.declared.item.NodeItem.{NodeItem}
use Rattle.node_items.specs.declared.group.Group.{Group}
use Rattle.node_items.specs.Groups.{Holds, first_of, place_of, bytes_in, item_in}
use Rattle.node_items.specs.Faults.{node_faults, root_faults}
use Rattle.node_items.proofs.Faults.{is_around}
use Rattle.node_items.proofs.Runs.{BeginsWith, all_clean, first_fault, all_along}

-- the j-th node of the group has no fault, and this is the first of its faults, whichever node of the tree it is
abbrev pub IsClean : Shape → Group → ℕ → Type 0
IsClean t g j =
    (k c : ℕ) (nodes : ℕ → NodeItem) → IsNode t k c → first_of g + j ≡ place t k c → item_in g j ≡ nodes (place t k c) → node_faults t nodes (place_of g) k c ≡ []

abbrev pub IsRefused : Shape → Group → ℕ → Broken → Type 0
IsRefused t g j e =
    (k c : ℕ) (nodes : ℕ → NodeItem) → IsNode t k c → first_of g + j ≡ place t k c → item_in g j ≡ nodes (place t k c) → BeginsWith (node_faults t nodes (place_of g) k c) e

module _ (t : Shape) (g : Group) (k from till : ℕ) (nodes : ℕ → NodeItem) (holds : Holds g nodes (place t k from) (place t k till)) where
  stands : (c j : ℕ) → c ≡ from + j → first_of g + j ≡ place t k c
  stands c j e = omega (arith, holds.first)

  pub item_is : (c j : ℕ) → c ≡ from + j → c < till → item_in g j ≡ nodes (place t k c)
  item_is c j e under =
      let same : place t k from + j ≡ place t k c = omega arith in
      subst (λ n. item_in g j ≡ nodes n) same (holds.items j (omega arith))

  pub how_many : length (bytes_in g) ≡ 40 * (till - from)
  how_many = omega (arith, holds.count)

  pub clean_nodes : ((c : ℕ) → from ≤ c → c < till → IsNode t k c) → ((j : ℕ) → 40 * j < length (bytes_in g) → IsClean t g j)
      → flat_map (node_faults t nodes (place_of g) k) (range_with_len from (till - from)) ≡ []
  clean_nodes are clean =
      all_clean (node_faults t nodes (place_of g) k) from (till - from)
      (λ c after before.
      let e : c ≡ from + (c - from) = omega arith in
      let under : c < till = omega arith in
      clean (c - from) (omega (arith, how_many)) k c nodes (are c after under) (stands c (c - from) e) (item_is c (c - from) e under))

  pub refused_node : ((c : ℕ) → from ≤ c → c < till → IsNode t k c) → (i : ℕ) (e : Broken) → 40 * i < length (bytes_in g) → ((j : ℕ) → j < i → IsClean t g j) → IsRefused t g i e
      → BeginsWith (flat_map (node_faults t nodes (place_of g) k) (range_with_len from (till - from))) e
  refused_node are i e inside clean refused =
      let under : from + i < till = omega (arith, how_many) in
      first_fault (node_faults t nodes (place_of g) k) from (till - from) (from + i) e (omega arith) (omega arith)
      (λ d after before.
      let is : d ≡ from + (d - from) = omega arith in
      let there : d < till = omega arith in
      clean (d - from) (omega arith) k d nodes (are d after there) (stands d (d - from) is) (item_is d (d - from) is there))
      (refused k (from + i) nodes (are (from + i) (omega arith) under) (stands (from + i) i refl) (item_is (from + i) i refl under))

-- the parent's box against those of the group
pub around_is : (t : Shape) (g : Group) (k i : ℕ) (nodes : ℕ → NodeItem) (parent : NodeItem) → Holds g nodes (place t k (first_child t i)) (place t k (children_end t k i))
    → parent ≡ nodes (place t (k + 1) i)
    → list_all (λ j. contains parent.bounds (item_in g j).bounds) (range_with_len 0 (length (bytes_in g) / 40)) ≡ is_around t nodes (place_of g) k i
around_is t g k i nodes parent holds is =
    let many : length (bytes_in g) / 40 ≡ children_end t k i - first_child t i = omega (arith, how_many t g k (first_child t i) (children_end t k i) nodes holds) in
    ap (λ n. list_all (λ j. contains parent.bounds (item_in g j).bounds) (range_with_len 0 n)) many
    ∙ all_along (λ j. contains parent.bounds (item_in g j).bounds) (λ c. contains (nodes (place t (k + 1) i)).bounds (nodes (place t k c)).bounds)
    0 (first_child t i) (children_end t k i - first_child t i)
    (λ c d j p q below.
    let e : d ≡ first_child t i + c = omega arith in
    let here : item_in g c ≡ nodes (place t k d) = item_is t g k (first_child t i) (children_end t k i) nodes holds d c e (omega arith) in
    ap (λ v. contains parent.bounds v.bounds) here ∙ ap (λ v. contains v.bounds (nodes (place t k d)).bounds) is)

-- the children of a node are nodes of the level below it
pub child_is_node : (t : Shape) (k i c : ℕ) → IsNode t (k + 1) i → c < children_end t k i → IsNode t k c
child_is_node t k i c is under = record { level = omega (arith, is.level); there = omega arith }

-- the root is a group of one
pub root_is_node : (t : Shape) → IsShape t → (c : ℕ) → c < 1 → IsNode t t.top c
root_is_node t shape c one = record { level = omega arith; there = omega (arith, shape.root) }

pub root_group : (t : Shape) (g : Group) (nodes : ℕ → NodeItem) → place t t.top 0 ≡ 0 → Holds g nodes 0 1 → Holds g nodes (place t t.top 0) (place t t.top 1)
root_group t g nodes first holds =
    let next : 1 ≡ place t t.top 1 = omega (arith, first) in
    subst (λ n. Holds g nodes (place t t.top 0) n) next (subst (λ n. Holds g nodes n 1) (sym first) holds)

root_faults_are : (t : Shape) (nodes : ℕ → NodeItem) (at : ℕ) → flat_map (node_faults t nodes at t.top) (range_with_len 0 (1 - 0)) ≡ root_faults t nodes at
root_faults_are t nodes at = append-nil (node_faults t nodes at t.top 0)

pub root_clean : (t : Shape) (nodes : ℕ → NodeItem) (at : ℕ) → flat_map (node_faults t nodes at t.top) (range_with_len 0 (1 - 0)) ≡ [] → root_faults t nodes at ≡ []
root_clean t nodes at clean = sym (root_faults_are t nodes at) ∙ clean

pub root_refused : (t : Shape) (nodes : ℕ → NodeItem) (at : ℕ) (e : Broken) → BeginsWith (flat_map (node_faults t nodes at t.top) (range_with_len 0 (1 - 0))) e → BeginsWith (root_faults t nodes at) e
root_refused t nodes at e begins = (begins.0, sym (root_faults_are t nodes at) ∙ begins.1)

-- one parent
pub same_parent : (parent : Option (NodeItem × ℕ)) (v w : NodeItem) (m n : ℕ) → parent ≡ Some (v, m) → parent ≡ Some (w, n) → (v ≡ w) × (m ≡ n)
same_parent parent v w m n one other =
    let both : ◌≡◌ {A = NodeItem × ℕ} (v, m) (w, n) = cc in
    (ap (λ (x : NodeItem × ℕ). x.0) both, ap (λ (x : NodeItem × ℕ). x.1) both)
