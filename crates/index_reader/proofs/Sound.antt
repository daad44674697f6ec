-- From the faults of one group after another to what is broken in the whole tree.
use Rattle.std.proofs.Common.{◌≡◌, ℕ, ◌+◌, ◌<◌, ◌≤◌, List, [], ◌∷◌, inl, inr, sym, subst, add-one, arith}
use Rattle.std.proofs.lemmas.Bool.{cases_lt}
use Rattle.flat_layout.specs.declared.Broken.{Broken}
use Rattle.flat_layout.specs.Promises.{IsClean}
use Rattle.level_bounds.specs.Levels.{Shape, IsShape, IsNode, place}
use Rattle.level_bounds.proofs.Places.{inner_in_front}
use Rattle.node_items.specs.declared.item.NodeItem.{NodeItem}
use Rattle.node_items.specs.Faults.{BreaksTree, group_faults, root_faults}
use Rattle.node_items.proofs.Trees.{group_broken, root_broken, tree_clean}
use Rattle.index_reader.specs.Parts.{IsSound}
use Rattle.index_reader.proofs.Order.{Inner}

module _ (t : Shape) (nodes : ℕ → NodeItem) (at : ℕ) (shape : IsShape t) where
  pub sound_root : root_faults t nodes at ≡ [] → IsSound t nodes at 0
  sound_root none = record { root = none; groups = λ k i is before. absurd (omega arith) }

  pub sound_next : (number : ℕ) → IsSound t nodes at number → ((k i : ℕ) → IsNode t (k + 1) i → number ≡ place t (k + 1) i → group_faults t nodes at k i ≡ []) → IsSound t nodes at (number + 1)
  sound_next number sound here = record {
    root = sound.root;
    groups = λ k i is before. elim (cases_lt (place t (k + 1) i) number) [
      | inl earlier ↦ sound.groups k i is earlier
      | inr not ↦ here k i is (same (place t (k + 1) i) number before not)
    ];
  }
    where
      same : (p n : ℕ) → p < n + 1 → n ≤ p → n ≡ p
      same p n before not = omega arith

  -- where all of them are, nothing is broken
  pub sound_tree : IsSound t nodes at (place t 0 0) → IsClean (BreaksTree t nodes at)
  sound_tree sound =
      tree_clean t nodes at shape sound.root (λ k i is.
      let inner = subst (λ l. IsNode t l i) (sym (add-one k)) is in
      sound.groups k i inner (inner_in_front t k i inner))

  -- and a fault breaks a rule
  pub breaks_root : (e : Broken) → (rest : List Broken) × (root_faults t nodes at ≡ e ∷ rest) → BreaksTree t nodes at e.place e.rule
  breaks_root e first = root_broken t nodes at e first.0 shape first.1

  pub breaks_group : (number : ℕ) (inner : Inner t number) (e : Broken) → (rest : List Broken) × (group_faults t nodes at inner.k inner.i ≡ e ∷ rest) → BreaksTree t nodes at e.place e.rule
  breaks_group number inner e first = group_broken t nodes at inner.k inner.i e first.0 (subst (λ l. IsNode t l inner.i) (add-one inner.k) inner.is) first.1
