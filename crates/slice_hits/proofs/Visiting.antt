-- What is done at one node.
use Rattle.std.proofs.Common.{◌≡◌, ℕ, ◌+◌, ◌-◌, ◌<◌, ◌≤◌, Bool, true, false, List, [], ◌∷◌, Option, Some, None, IfSome, sym, ap, ◌∙◌, subst, inl, inr, arith}
use Rattle.std.proofs.lemmas.Bool.{cases_lt}
use Rattle.flat_layout.specs.declared.Broken.{Broken}
use Rattle.order_keys.specs.declared.bounds.Bounds.{Bounds}
use Rattle.box_list.specs.Lists.{meets_any}
use Rattle.level_bounds.specs.Levels.{Shape, IsShape, IsNode, width, place, nodes_above, node_count, first_child, children_end}
use Rattle.level_bounds.proofs.Places.{front_is_inner, inner_in_front, node_within, places_tell, root_first, width_some}
use Rattle.node_items.specs.declared.item.NodeItem.{NodeItem}
use Rattle.node_items.specs.Faults.{group_faults}
use Rattle.index_reader.specs.Parts.{AreChildren}
use Rattle.tree_search.specs.Wanted.{passes}
use Rattle.slice_hits.specs.declared.search.Visit.{Visit}
use Rattle.slice_hits.specs.Preorder.{ComesBehind, nothing, sibling}
use Rattle.slice_hits.specs.Searching.{Visits, passed_by, down, hit, RefusesVisit, below}

-- what comes behind is a node
pub next_within : (t : Shape) (k i : ℕ) (next : Option ℕ) → ComesBehind t k i next → IfSome next (λ n. n < node_count t)
next_within t k i next (nothing all) = tt
next_within t k i next (sibling l j there group edge too) = node_within t l (j + 1) there

module _ (t : Shape) (shape : IsShape t) (k i number : ℕ) (is : IsNode t k i) (here : number ≡ place t k i) where
  -- the first node is the root
  pub root_at : number ≡ 0 → k ≡ t.top
  root_at first =
      let root : IsNode t t.top 0 = record { level = omega arith; there = width_some t shape t.top } in
      (places_tell t k i t.top 0 is root (sym here ∙ first ∙ sym (root_first t))).0

  pub root_number : k ≡ t.top → number ≡ 0
  root_number top =
      let there : i < width t t.top = subst (λ l. i < width t l) top is.there in
      let first : i ≡ 0 = omega (arith, shape.root) in
      here ∙ ap (λ l. place t l i) top ∙ ap (place t t.top) first ∙ root_first t

  -- those from the first leaf on are leaves
  pub leaf_level : (first : ℕ) → first ≡ place t 0 0 → first ≤ number → k ≡ 0
  leaf_level first e behind = elim (cases_lt 0 k) [
    | inl above ↦
        let level : k ≡ k - 1 + 1 = omega arith in
        let front = inner_in_front t (k - 1) i (subst (λ l. IsNode t l i) level is) in
        let again : place t k i < place t 0 0 = subst (λ l. place t l i < place t 0 0) (sym level) front in
        absurd (not_both (place t k i) (place t 0 0) here e again)
    | inr leaf ↦ omega arith
  ]
    where
      not_both : (a b : ℕ) → number ≡ a → first ≡ b → a < b → ⊥
      not_both a b one two lt = omega arith

  pub leaf_number : (first : ℕ) → first ≡ place t 0 0 → k ≡ 0 → number - first ≡ i
  leaf_number first e leaf = minus (nodes_above t k) (nodes_above t 0) (ap (nodes_above t) leaf) here e
    where
      minus : (a b : ℕ) → a ≡ b → number ≡ a + i → first ≡ b + 0 → number - first ≡ i
      minus a b same one two = omega arith

  pub inner_level : number < place t 0 0 → k ≡ k - 1 + 1
  inner_level front = let above = front_is_inner t k i (subst (λ n. n < place t 0 0) here front) in omega arith

  module _ (nodes : ℕ → NodeItem) (at : ℕ) (boxes : List Bounds) (item : NodeItem) (read : item ≡ nodes number) where
    pub passes_is : (b : Bool) → b ≡ meets_any boxes item.bounds → passes t nodes (meets_any boxes) k i ≡ b
    passes_is b met = ap (λ n. meets_any boxes (nodes n).bounds) (sym here) ∙ ap (λ (v : NodeItem). meets_any boxes v.bounds) (sym read) ∙ sym met

    pub visit_past : (next : Option ℕ) → false ≡ meets_any boxes item.bounds → ComesBehind t k i next → Visits t nodes at boxes k i (record { leaf = None; next = next })
    visit_past next met comes = passed_by (passes_is false met) comes

    pub visit_leaf : (first : ℕ) (next : Option ℕ) → first ≡ place t 0 0 → first ≤ number → true ≡ meets_any boxes item.bounds → ComesBehind t k i next
        → Visits t nodes at boxes k i (record { leaf = Some (record { number = number - first; item = item }); next = next })
    visit_leaf first next e behind met comes =
        let leaf = leaf_level first e behind in
        let make : ℕ → NodeItem → Visit = λ n v. record { leaf = Some (record { number = n; item = v }); next = next } in
        let there : nodes number ≡ nodes (place t 0 i) = ap nodes here ∙ ap (λ l. nodes (place t l i)) leaf in
        let same : make i (nodes (place t 0 i)) ≡ make (number - first) item = ap (λ n. make n (nodes (place t 0 i))) (sym (leaf_number first e leaf)) ∙ ap (make (number - first)) (sym there ∙ sym read) in
        subst (Visits t nodes at boxes k i) same (hit leaf (passes_is true met) comes)

    module _ (front : number < place t 0 0) (first end : ℕ)
        (children : (l j : ℕ) → IsNode t (l + 1) j → number ≡ place t (l + 1) j → (first ≡ place t l (first_child t j)) × (end ≡ place t l (children_end t l j))) where
      level : k ≡ k - 1 + 1
      level = inner_level front

      up : IsNode t (k - 1 + 1) i
      up = subst (λ l. IsNode t l i) level is

      stands : number ≡ place t (k - 1 + 1) i
      stands = here ∙ ap (λ l. place t l i) level

      pub are_children : AreChildren t (k - 1) i first end
      are_children = let c = children (k - 1) i up stands in record { parent = up; first = c.0; end = c.1 }

      pub parent_is : ◌≡◌ {A = Option (NodeItem × ℕ)} (Some (item, number)) (Some (nodes (place t (k - 1 + 1) i), place t (k - 1 + 1) i))
      parent_is = ap (λ v. Some (v, number)) read ∙ ap (λ n. Some (nodes n, n)) stands

      pub visit_down : true ≡ meets_any boxes item.bounds → group_faults t nodes at (k - 1) i ≡ [] → Visits t nodes at boxes k i (record { leaf = None; next = Some first })
      visit_down met clean =
          let make : ℕ → Visit = λ n. record { leaf = None; next = Some n } in
          subst (Visits t nodes at boxes k i) (ap make (sym are_children.first)) (down (k - 1) level (passes_is true met) clean)

      pub visit_refused : true ≡ meets_any boxes item.bounds → (e : Broken) → (rest : List Broken) × (group_faults t nodes at (k - 1) i ≡ e ∷ rest) → RefusesVisit t nodes at boxes k i e
      visit_refused met e begins = below (k - 1) level (passes_is true met) begins.0 begins.1
