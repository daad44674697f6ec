-- A walk through an index, from the root down.
use Rattle.std.specs.Prelude.{◌≡◌, ℕ, ◌+◌, ◌-◌, ◌*◌, true, false, List, [], ◌∷◌, map, Option, Some, None, Result, Ok, Err}
use Rattle.std.specs.List.{AllByRecursion}
use Rattle.order_keys.specs.declared.bounds.Bounds.{Bounds}
use Rattle.box_list.specs.Lists.{meets_any}
use Rattle.level_bounds.specs.Levels.{Shape, IsNode, first_child, place}
use Rattle.level_bounds.specs.Shapes.{shape_of}
use Rattle.flat_layout.specs.declared.Broken.{Broken}
use Rattle.node_items.specs.declared.item.NodeItem.{NodeItem}
use Rattle.node_items.specs.Faults.{group_faults, root_faults}
use Rattle.node_items.specs.Nodes.{stored}
use Rattle.fgb_file.specs.File.{header_end, node_in}
use Rattle.tree_search.specs.Wanted.{is_wanted, passes}
use Rattle.tree_search.specs.Searches.{hit_of}
use Rattle.found_features.specs.Entries.{Entry}
use Rattle.found_features.specs.Lent.{entry_of}
use Rattle.found_features.specs.declared.visitor.Found.{Found}
use Rattle.hit_reader.specs.Going.{IsBehind}
use Rattle.hit_reader.specs.Met.{BreaksHit, IsMet, entry_at}
use Rattle.slice_hits.specs.declared.search.Search.{Search}
use Rattle.slice_hits.specs.declared.search.Visit.{Visit}
use Rattle.slice_hits.specs.Preorder.{ComesBehind, leaf_at, level_at}
use Rattle.slice_hits.specs.Judging.{IsJudged, hits_before}
use Rattle.slice_hits.specs.Reading.{AreOf}

abbrev pub tree_of : Search → Shape
tree_of search = shape_of search.levels

-- it goes through the index of this file, and looks for these boxes
pub record IsOver (image : List ℕ) (boxes : List Bounds) (search : Search) : Type 0 where
  pub over : AreOf image (Some (tree_of search)) search.features
  pub begins : search.place ≡ header_end image
  pub sought : search.boxes ≡ boxes

-- the leaves in front of a stand that are found
abbrev pub leaves_before : List ℕ → Shape → List Bounds → Option ℕ → List ℕ
leaves_before image t boxes stand = hits_before t (node_in image) (meets_any boxes) (leaf_at t stand)

-- it has come to this stand, which is wanted, and has found these entries in front of it; the feature of the last of them
-- ends at this place, or none was found, and the first feature stands there
pub record HasCome (image : List ℕ) (t : Shape) (boxes : List Bounds) (stand : Option ℕ) (reached : ℕ) (entries : List Entry) : Type 0 where
  pub wanted : (k i : ℕ) → IsNode t k i → stand ≡ Some (place t k i) → is_wanted t (node_in image) (meets_any boxes) k i ≡ true
  pub judged : IsJudged t (node_in image) (meets_any boxes) (header_end image) stand
  pub met : AllByRecursion (IsMet image t) (leaves_before image t boxes stand)
  pub given : entries ≡ map (entry_at image t) (leaves_before image t boxes stand)
  pub behind : IsBehind image t (leaf_at t stand) reached

pub record Stands (image : List ℕ) (boxes : List Bounds) (entries : List Entry) (search : Search) : Type 0 where
  pub over : IsOver image boxes search
  pub come : HasCome image (tree_of search) boxes search.node search.reached entries

module _ (t : Shape) (nodes : ℕ → NodeItem) (at : ℕ) (boxes : List Bounds) (k i : ℕ) where
  -- what was done at node i of level k, and where the walk goes on: its box was passed by, with all below it; its children
  -- were judged, and come next; or it is a leaf that is found
  pub data Visits : Visit → Type 0 where
    passed_by : {next : Option ℕ} → passes t nodes (meets_any boxes) k i ≡ false → ComesBehind t k i next → Visits (record { leaf = None; next = next })
    down : (l : ℕ) → k ≡ l + 1 → passes t nodes (meets_any boxes) k i ≡ true → group_faults t nodes at l i ≡ []
        → Visits (record { leaf = None; next = Some (place t l (first_child t i)) })
    hit : {next : Option ℕ} → k ≡ 0 → passes t nodes (meets_any boxes) k i ≡ true → ComesBehind t k i next
        → Visits (record { leaf = Some (hit_of t nodes 0 i); next = next })

  -- the first fault of the root, or of the children of a node whose box passed
  pub data RefusesVisit (broken : Broken) : Type 0 where
    at_root : k ≡ t.top → (rest : List Broken) → root_faults t nodes at ≡ broken ∷ rest → RefusesVisit broken
    below : (l : ℕ) → k ≡ l + 1 → passes t nodes (meets_any boxes) k i ≡ true → (rest : List Broken) → group_faults t nodes at l i ≡ broken ∷ rest → RefusesVisit broken

-- a leaf's feature was read, and is alike, or not
abbrev pub ReadsLeaf : List ℕ → Shape → ℕ → Result Found Broken → Type 0
ReadsLeaf image t k (Ok found) = IsMet image t k × (entry_of found ≡ entry_at image t k)
ReadsLeaf image t k (Err broken) = BreaksHit image t k broken.place broken.rule

-- the nodes that it goes through
abbrev pub nodes_of : Search → ℕ → NodeItem
nodes_of search = stored search.features.bytes.now search.place

-- no more leaves come, and one refusal
abbrev pub left : Search → ℕ
left search = (tree_of search).leaves - leaf_at (tree_of search) search.node + 1

-- nor more nodes: on the level that it stands on, at most one for each level and leaf
abbrev pub way_left : Search → ℕ
way_left search = let t = tree_of search in (t.leaves - leaf_at t search.node) * (t.top + 1) + level_at t search.node
