-- How a search goes down, from the nodes of a level that it found to their children.
use Rattle.std.specs.Prelude.{◌≡◌, ℕ, ◌+◌, ◌-◌, ◌*◌, ◌≤◌, Bool, List, [], ◌∷◌, length, map, min}
use Rattle.std.specs.List.{AllByRecursion, filter, flat_map, range_with_len}
use Rattle.fgb_outside.specs.Source.{Source}
use Rattle.section_window.specs.Window.{Held, ahead, Shows}
use Rattle.order_keys.specs.declared.bounds.Bounds.{Bounds}
use Rattle.level_bounds.specs.Levels.{Shape, width, place, node_count, first_child, children_end}
use Rattle.node_items.specs.declared.item.NodeItem.{NodeItem}
use Rattle.node_items.specs.declared.group.Group.{Group}
use Rattle.node_items.specs.Groups.{item_in}
use Rattle.node_items.specs.Nodes.{node_place}
use Rattle.tree_search.specs.declared.search.Hit.{Hit}
use Rattle.tree_search.specs.Wanted.{node_positions}
use Rattle.tree_search.specs.Searches.{hit_of}

-- the places of nodes in their level
abbrev pub numbers : List Hit → List ℕ
numbers hits = map (λ h. h.number) hits

-- each is the node that is stored there
abbrev pub AreFrom : Shape → (ℕ → NodeItem) → ℕ → List Hit → Type 0
AreFrom t nodes k hits = AllByRecursion (λ h. h ≡ hit_of t nodes k h.number) hits

-- the children of node j of level k + 1, and of several
abbrev pub children_of : Shape → ℕ → ℕ → List ℕ
children_of t k j = range_with_len (first_child t j) (children_end t k j - first_child t j)

abbrev pub all_children : Shape → ℕ → List ℕ → List ℕ
all_children t k parents = flat_map (children_of t k) parents

-- how many nodes of level k are children of the nodes in front of node j
abbrev pub children_before : Shape → ℕ → ℕ → ℕ
children_before t k j = min (t.node_size * j) (width t k)

-- the positions of the bytes of these nodes of level k, in an index that begins at this place
abbrev pub level_positions : ℕ → Shape → ℕ → List ℕ → List ℕ
level_positions at t k nodes = node_positions at (map (place t k) nodes)

-- nodes stand side by side, from the first of them on
abbrev pub first_number : List Hit → ℕ
first_number [] = 0
first_number (h ∷ hits) = h.number

abbrev pub AreNeighbours : List Hit → Type 0
AreNeighbours hits = numbers hits ≡ range_with_len (first_number hits) (length hits)

-- the nodes that pass a test of the first n of a group, the first of which has this place in its level
abbrev pub group_hits : Group → ℕ → (Bounds → Bool) → ℕ → List Hit
group_hits g first test n = filter (λ h. test h.item.bounds) (map (λ i. record { number = first + i; item = item_in g i }) (range_with_len 0 n))

-- a window went on to this place, and asked for nothing from `until` on
pub record GoesTo (old new : Held) (place until : ℕ) : Type 0 where
  pub stands : new.at ≡ place
  pub on : ahead old ≤ ahead new
  pub before : ahead new ≤ until

-- the window goes through the index that begins at this place
pub record IsOver (t : Shape) (at : ℕ) (w : Held) (source : Source) : Type 0 where
  pub end : w.end ≡ node_place at (node_count t)
  pub shows : Shows w source
