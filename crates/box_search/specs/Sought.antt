-- What a search looks for, in which index, and how its window goes on.
use Rattle.std.specs.Prelude.{◌≡◌, ℕ, ◌+◌, ◌*◌, ◌≤◌, Bool, true, List, map}
use Rattle.std.specs.List.{filter, flat_map}
use Rattle.fgb_outside.specs.Source.{Source}
use Rattle.fgb_outside.specs.Asked.{IsInside}
use Rattle.section_window.specs.Window.{Shows, ahead}
use Rattle.gap_window.specs.Bridging.{Bridging, asks_from}
use Rattle.order_keys.specs.declared.bounds.Bounds.{Bounds}
use Rattle.flat_layout.specs.declared.Broken.{Broken}
use Rattle.level_bounds.specs.Levels.{Shape, node_count, place}
use Rattle.level_bounds.specs.Shapes.{shape_of}
use Rattle.node_items.specs.declared.item.NodeItem.{NodeItem}
use Rattle.node_items.specs.Faults.{group_faults}
use Rattle.node_items.specs.Nodes.{node_place, stored}
use Rattle.box_list.specs.Lists.{meets_any}
use Rattle.tree_search.specs.declared.search.Hit.{Hit as Plain}
use Rattle.tree_search.specs.Wanted.{hits, passes}
use Rattle.tree_search.specs.Searches.{hit_of}
use Rattle.tree_search.specs.Descent.{children_of, level_positions}
use Rattle.box_search.specs.declared.level.Descent.{Descent}

-- the tree, the nodes that a file has of it, and the test of a box
abbrev pub tree_of : Descent → Shape
tree_of d = shape_of d.levels.now

abbrev pub nodes_of : Descent → List ℕ → ℕ → NodeItem
nodes_of d image = stored image d.place

abbrev pub test_of : Descent → Bounds → Bool
test_of d = meets_any d.boxes.now

-- the window goes through the index that begins at this place, and leaves out holes of so many bytes
pub record IsOver (t : Shape) (at gap : ℕ) (w : Bridging) (source : Source) : Type 0 where
  pub end : w.held.end ≡ node_place at (node_count t)
  pub from : at ≤ w.held.at
  pub gap_is : w.gap ≡ gap
  pub shows : Shows w.held source

-- a window that had to go on to one place went on behind it, and asked for nothing from `until` on
pub record GoesTo (old new : Bridging) (from place until : ℕ) : Type 0 where
  pub stands : new.held.at ≡ place
  pub on : asks_from old from ≤ ahead new.held
  pub before : ahead new.held ≤ until
  pub begun : new.begun ≡ true

-- the pair lies inside the index, and the window goes through it
abbrev pub IsOfIndex : Descent → ℕ × ℕ → Type 0
IsOfIndex d = IsInside d.place (d.place + 40 * node_count (tree_of d))

abbrev pub IsOverIndex : Descent → Bridging → Source → Type 0
IsOverIndex d = IsOver (tree_of d) d.place d.gap

-- where node i of level k stands, and the positions of several
abbrev pub place_in : Descent → ℕ → ℕ → ℕ
place_in d k i = node_place d.place (place (tree_of d) k i)

abbrev pub positions_in : Descent → ℕ → List ℕ → List ℕ
positions_in d = level_positions d.place (tree_of d)

-- nothing was asked for from there on
abbrev pub IsBehind : Descent → Bridging → ℕ → ℕ → Type 0
IsBehind d w k i = ahead w.held ≤ place_in d k i

-- node i of level k, as a hit
abbrev pub hit_in : Descent → List ℕ → ℕ → ℕ → Plain
hit_in d image = hit_of (tree_of d) (nodes_of d image)

-- those of these nodes of level k whose boxes pass, and those of the children of these nodes of level k + 1
abbrev pub found_among : Descent → List ℕ → ℕ → List ℕ → List Plain
found_among d image k nodes = map (hit_in d image k) (filter (passes (tree_of d) (nodes_of d image) (test_of d) k) nodes)

abbrev pub found_under : Descent → List ℕ → ℕ → List ℕ → List Plain
found_under d image k parents =
    map (hit_in d image k) (flat_map (λ j. filter (passes (tree_of d) (nodes_of d image) (test_of d) k) (children_of (tree_of d) k j)) parents)

-- all hits of level k
abbrev pub found_in : Descent → List ℕ → ℕ → List Plain
found_in d image k = map (hit_in d image k) (hits (tree_of d) (nodes_of d image) (test_of d) k)

-- the faults of the groups under these nodes of level k + 1
abbrev pub faults_under : Descent → List ℕ → ℕ → List ℕ → List Broken
faults_under d image k parents = flat_map (group_faults (tree_of d) (nodes_of d image) d.place k) parents
