-- Faults of nodes, by what was tested of them.
use Rattle.std.proofs.Common.{◌≡◌, ℕ, zero, suc, ◌+◌, ◌-◌, ◌<◌, Bool, true, false, ◌==◌, List, [], ◌∷◌, ◌++◌, Result, Ok, Err, IsErrAnd, refl, sym, ap, ◌∙◌, arith, add-one}
use Rattle.std.specs.List.{flat_map, list_all}
use Rattle.flat_layout.specs.declared.Rule.{Rule}
use Rattle.flat_layout.specs.declared.Rule.TheVariants.{NodeBox, ChildOffset, ParentBox}
use Rattle.flat_layout.specs.declared.Broken.{Broken}
use Rattle.order_keys.specs.Boxes.{is_box, contains}
use Rattle.level_bounds.specs.Levels.{Shape, place, first_child}
use Rattle.node_items.specs.declared.item.NodeItem.{NodeItem}
use Rattle.node_items.specs.Nodes.{node_place}
use Rattle.node_items.proofs.Runs.{BeginsWith}
use Rattle.node_items.specs.Faults.{refusal, names_child, node_faults, children, parent_faults, group_faults, IsFirstOf}

-- this rule at the node of this number
abbrev pub fault_at : ℕ → ℕ → Rule → Broken
fault_at at number rule = record { place = node_place at number; rule = rule }

-- the exit of a `?`: the refusal is passed on
pub refused_exit : {T : Type 0} (faults : List Broken) (r : Result T Broken) (e : Broken) → IsErrAnd r (λ y. y ≡ e) → BeginsWith faults e → IsFirstOf faults r
refused_exit faults (Ok x) e none begins = absurd none
refused_exit faults (Err y) e same begins = (begins.0, begins.1 ∙ ap (λ d. d ∷ begins.0) (sym same))

-- the offset was compared with the child that the levels tell
pub names_told : (t : Shape) (k i child offset : ℕ) → 0 < k → child ≡ place t (k - 1) (first_child t i) → (offset == child) ≡ names_child t k i offset
names_told t zero i child offset inner told = absurd (omega arith)
names_told t (suc k) i child offset inner told =
    let e : suc k - 1 ≡ k = omega arith in
    ap (λ n. offset == n) (told ∙ ap (λ j. place t j (first_child t i)) e)

pub names_any : (t : Shape) (k i offset : ℕ) → k ≡ 0 → true ≡ names_child t k i offset
names_any t zero i offset leaf = refl
names_any t (suc k) i offset leaf = absurd (omega arith)

module _ (t : Shape) (nodes : ℕ → NodeItem) (at : ℕ) where
  pub no_fault : (k i : ℕ) (v : NodeItem) → v ≡ nodes (place t k i) → is_box v.bounds ≡ true → names_child t k i v.offset ≡ true → node_faults t nodes at k i ≡ []
  unfolding node_faults
  no_fault k i v is box names =
      let b : is_box (nodes (place t k i)).bounds ≡ true = ap (λ n. is_box n.bounds) (sym is) ∙ box in
      let o : names_child t k i (nodes (place t k i)).offset ≡ true = ap (λ n. names_child t k i n.offset) (sym is) ∙ names in
      ap (λ s. refusal s (node_place at (place t k i)) NodeBox ++ refusal (names_child t k i (nodes (place t k i)).offset) (node_place at (place t k i)) ChildOffset) b
      ∙ ap (λ s. refusal s (node_place at (place t k i)) ChildOffset) o

  pub box_fault : (k i : ℕ) (v : NodeItem) (e : Broken) → v ≡ nodes (place t k i) → is_box v.bounds ≡ false → e ≡ fault_at at (place t k i) NodeBox
      → BeginsWith (node_faults t nodes at k i) e
  unfolding node_faults
  box_fault k i v e is box broken =
      let b : is_box (nodes (place t k i)).bounds ≡ false = ap (λ n. is_box n.bounds) (sym is) ∙ box in
      let more = refusal (names_child t k i (nodes (place t k i)).offset) (node_place at (place t k i)) ChildOffset in
      (more, ap (λ s. refusal s (node_place at (place t k i)) NodeBox ++ more) b ∙ ap (λ d. d ∷ more) (sym broken))

  pub offset_fault : (k i : ℕ) (v : NodeItem) (e : Broken) → v ≡ nodes (place t k i) → is_box v.bounds ≡ true → names_child t k i v.offset ≡ false
      → e ≡ fault_at at (place t k i) ChildOffset → BeginsWith (node_faults t nodes at k i) e
  unfolding node_faults
  offset_fault k i v e is box names broken =
      let b : is_box (nodes (place t k i)).bounds ≡ true = ap (λ n. is_box n.bounds) (sym is) ∙ box in
      let o : names_child t k i (nodes (place t k i)).offset ≡ false = ap (λ n. names_child t k i n.offset) (sym is) ∙ names in
      let more = refusal (names_child t k i (nodes (place t k i)).offset) (node_place at (place t k i)) ChildOffset in
      ([], ap (λ s. refusal s (node_place at (place t k i)) NodeBox ++ more) b ∙ ap (λ s. refusal s (node_place at (place t k i)) ChildOffset) o ∙ ap (λ d. d ∷ []) (sym broken))

  -- the boxes of all children lie inside, or one does not
  abbrev pub is_around : ℕ → ℕ → Bool
  is_around k i = list_all (λ c. contains (nodes (place t (k + 1) i)).bounds (nodes (place t k c)).bounds) (children t nodes at k i)

  pub around_fault : (k i : ℕ) (e : Broken) → is_around k i ≡ false → e ≡ fault_at at (place t (k + 1) i) ParentBox → BeginsWith (parent_faults t nodes at k i) e
  unfolding parent_faults
  around_fault k i e wrong broken = (
    [],
    ap (λ s. refusal s (node_place at (place t (suc k) i)) ParentBox) wrong
        ∙ ap (λ j. fault_at at (place t j i) ParentBox ∷ []) (sym (add-one k)) ∙ ap (λ d. d ∷ []) (sym broken),
  )

  pub no_around_fault : (k i : ℕ) → is_around k i ≡ true → parent_faults t nodes at k i ≡ []
  unfolding parent_faults
  no_around_fault k i right = ap (λ s. refusal s (node_place at (place t (suc k) i)) ParentBox) right

  -- a group's faults are those of its nodes, and then that of their parent
  abbrev pub own_faults : ℕ → ℕ → List Broken
  own_faults k i = flat_map (node_faults t nodes at k) (children t nodes at k i)

  pub nodes_first : (k i : ℕ) (e : Broken) → BeginsWith (own_faults k i) e → BeginsWith (group_faults t nodes at k i) e
  unfolding group_faults
  nodes_first k i e begins =
      (begins.0 ++ parent_faults t nodes at k i, ap (λ s. s ++ parent_faults t nodes at k i) begins.1)

  pub then_parent : {T : Type 0} (k i : ℕ) (r : Result T Broken) → own_faults k i ≡ [] → IsFirstOf (parent_faults t nodes at k i) r → IsFirstOf (group_faults t nodes at k i) r
  unfolding group_faults
  then_parent k i (Ok x) clean judged = ap (λ s. s ++ parent_faults t nodes at k i) clean ∙ judged
  then_parent k i (Err e) clean judged = (judged.0, ap (λ s. s ++ parent_faults t nodes at k i) clean ∙ judged.1)
