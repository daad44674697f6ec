-- Hits that are added one after another.
use Rattle.std.proofs.Common.{◌≡◌, ℕ, ◌+◌, Bool, true, false, List, [], ◌∷◌, ◌++◌, sym, ap, ◌∙◌, append_assoc, append-nil, zero-add}
use Rattle.std.specs.Prelude.{cond}
use Rattle.std.proofs.lemmas.List.FromFn.{filter_of_map_range_with_len_more}
use Rattle.order_keys.specs.declared.bounds.Bounds.{Bounds}
use Rattle.node_items.specs.declared.item.NodeItem.{NodeItem}
use Rattle.node_items.specs.declared.group.Group.{Group}
use Rattle.node_items.specs.Groups.{item_in}
use Rattle.tree_search.specs.declared.search.Hit.{Hit}
use Rattle.tree_search.specs.Descent.{group_hits}

module _ (g : Group) (first : ℕ) (test : Bounds → Bool) (i : ℕ) (item : NodeItem) (is : item ≡ item_in g i) where
  next : Hit
  next = record { number = first + i; item = item }

  more : (b : Bool) → test item.bounds ≡ b → group_hits g first test (i + 1) ≡ group_hits g first test i ++ cond b (next ∷ []) []
  unfolding next
  more b passing =
      filter_of_map_range_with_len_more (λ (h : Hit). test h.item.bounds) (λ j. record { number = first + j; item = item_in g j }) 0 i i (zero-add i)
      ∙ ap (λ (v : NodeItem). group_hits g first test i ++ cond (test v.bounds) (record { number = first + i; item = v } ∷ []) []) (sym is)
      ∙ ap (λ c. group_hits g first test i ++ cond c (next ∷ []) []) passing

  -- a node that passes is pushed, and one that does not is left out
  pub pushed : (old now new : List Hit) → test item.bounds ≡ true → now ≡ old ++ group_hits g first test i → new ≡ now ++ record { number = first + i; item = item } ∷ [] → new ≡ old ++ group_hits g first test (i + 1)
  unfolding next
  pushed old now new passing so_far push =
      push ∙ ap (λ l. l ++ next ∷ []) so_far ∙ append_assoc old (group_hits g first test i) (next ∷ []) ∙ ap (λ l. old ++ l) (sym (more true passing))

  pub left_out : (old now : List Hit) → test item.bounds ≡ false → now ≡ old ++ group_hits g first test i → now ≡ old ++ group_hits g first test (i + 1)
  left_out old now failing so_far =
      so_far ∙ ap (λ l. old ++ l) (sym (more false failing ∙ append-nil (group_hits g first test i)))
