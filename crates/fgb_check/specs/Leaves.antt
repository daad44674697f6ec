-- A leaf beside its feature.
use Rattle.std.specs.Prelude.{◌≡◌, ◌≢◌, ℕ, ◌<◌, List, Option, Some, true, false}
use Rattle.flat_layout.specs.declared.Broken.{Broken}
use Rattle.flat_layout.specs.declared.Rule.{Rule}
use Rattle.flat_layout.specs.declared.Rule.TheVariants.{LeafOffset, LeafBox}
use Rattle.order_keys.specs.declared.bounds.Bounds.{Bounds}
use Rattle.order_keys.specs.Boxes.{same}
use Rattle.level_bounds.specs.Levels.{Shape, place}
use Rattle.node_items.specs.declared.item.NodeItem.{NodeItem}
use Rattle.node_items.specs.Nodes.{node_place}
use Rattle.fgb_file.specs.File.{header_end, leaf_in}

-- it has the feature's offset and, by keys, its own box
abbrev pub Agrees : NodeItem → ℕ → Bounds → Type 0
Agrees leaf offset own = (leaf.offset ≡ offset) × (same leaf.bounds own ≡ true)

-- which of the two it has not, and then the offset is judged first
pub data Differs (leaf : NodeItem) (offset : ℕ) (own : Bounds) : Rule → Type 0 where
  in_offset : leaf.offset ≢ offset → Differs leaf offset own LeafOffset
  in_box : leaf.offset ≡ offset → same leaf.bounds own ≡ false → Differs leaf offset own LeafBox

-- leaf k of the index is refused by the offset and the own box of feature k
pub record RefusesLeaf (image : List ℕ) (index : Option Shape) (k offset : ℕ) (own : Bounds) (refusal : Broken) : Type 0 where
  pub tree : Shape
  pub indexed : index ≡ Some tree
  pub some : k < tree.leaves
  pub at : refusal.place ≡ node_place (header_end image) (place tree 0 k)
  pub differs : Differs (leaf_in image tree k) offset own refusal.rule
