-- Hits that are added one after another.
use Rattle.std.proofs.Common.{◌≡◌, ℕ, ◌+◌, Bool, true, false, List, [], ◌∷◌, ◌++◌, Option, ap, ◌∙◌}
use Rattle.order_keys.specs.declared.bounds.Bounds.{Bounds}
use Rattle.node_items.specs.declared.item.NodeItem.{NodeItem}
use Rattle.node_items.specs.declared.group.Group.{Group}
use Rattle.node_items.specs.Groups.{item_in}
use Rattle.tree_search.specs.Descent.{group_hits}
use Rattle.tree_search.proofs.Pushing.{pushed as plain_pushed, left_out as plain_left}
use Rattle.box_search.specs.declared.nodes.Hit.{Hit}
use Rattle.box_search.specs.Hits.{plains}
use Rattle.box_search.proofs.Lists.{plains_more}

module _ (g : Group) (first : ℕ) (test : Bounds → Bool) (i : ℕ) (item : NodeItem) (is : item ≡ item_in g i) where
  -- a node that passes is pushed, and one that does not is left out
  pub pushed : (old now new : List Hit) (next : Option ℕ) → test item.bounds ≡ true → plains now ≡ plains old ++ group_hits g first test i
      → new ≡ now ++ record { number = first + i; item = item; next = next } ∷ [] → plains new ≡ plains old ++ group_hits g first test (i + 1)
  pushed old now new next passing so_far push =
      plain_pushed g first test i item is (plains old) (plains now) (plains new) passing so_far (ap plains push ∙ plains_more now (record { number = first + i; item = item; next = next }))

  pub left_out : (old now : List Hit) → test item.bounds ≡ false → plains now ≡ plains old ++ group_hits g first test i → plains now ≡ plains old ++ group_hits g first test (i + 1)
  left_out old now failing so_far = plain_left g first test i item is (plains old) (plains now) failing so_far
