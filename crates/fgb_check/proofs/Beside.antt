-- A leaf that was given and judged, by the definitions of the file.
use Rattle.std.proofs.Common.{◌≡◌, ℕ, ◌+◌, ◌*◌, ◌<◌, true, List, Some, refl, sym, ap, subst, ◌∙◌, arith}
use Rattle.flat_layout.specs.declared.Broken.{Broken}
use Rattle.order_keys.specs.declared.bounds.Bounds.{Bounds}
use Rattle.order_keys.specs.Boxes.{same as same_box}
use Rattle.level_bounds.specs.Levels.{Shape, place as place_of_node}
use Rattle.node_items.specs.declared.item.NodeItem.{NodeItem}
use Rattle.node_items.specs.Nodes.{node_place, stored}
use Rattle.fgb_file.specs.File.{header_end, leaf_in, LeafAgrees}
use Rattle.fgb_check.specs.Leaves.{Agrees, Differs, RefusesLeaf}

module _ (image : List ℕ) (place : ℕ) (t : Shape) (k : ℕ) (leaf : NodeItem) (is : leaf ≡ stored image place (place_of_node t 0 k)) (begins : place ≡ header_end image) (offset : ℕ) (own : Bounds) where
  -- it is that of the file
  leaf_is : leaf ≡ leaf_in image t k
  leaf_is = is ∙ ap (λ n. stored image n (place_of_node t 0 k)) begins

  pub leaf_agrees : Agrees leaf offset own → LeafAgrees image (Some t) k offset own
  leaf_agrees agrees = λ some. subst (λ l. Agrees l offset own) leaf_is agrees

  pub leaf_refuses : {e : Broken} (at given : ℕ) → k < t.leaves → given ≡ k + 1 → at + 40 ≡ place + 40 * place_of_node t 0 given → (e.place ≡ at) × Differs leaf offset own e.rule → RefusesLeaf image (Some t) k offset own e
  leaf_refuses {e = e} at given some next stands refused = record {
    tree = t;
    indexed = refl;
    some = some;
    at = omega (arith, next, stands, refused.0, begins);
    differs = subst (λ l. Differs l offset own e.rule) leaf_is refused.1;
  }
