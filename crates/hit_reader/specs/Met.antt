-- The features that stand where leaves of an index say, whatever the bytes are.
use Rattle.std.specs.Prelude.{◌≡◌, ℕ, ◌+◌, ◌<◌, ◌≤◌, true, List, length, map, Some}
use Rattle.flat_layout.specs.Promises.{IsClean}
use Rattle.flat_layout.specs.declared.Rule.{Rule}
use Rattle.flat_layout.specs.declared.Rule.TheVariants.{LeafBox, LeafPastEnd, LeafOrder}
use Rattle.order_keys.specs.Boxes.{same as same_box}
use Rattle.level_bounds.specs.Levels.{Shape, place}
use Rattle.node_items.specs.Nodes.{node_place}
use Rattle.fgb_outside.specs.Asked.{Ascends}
use Rattle.fgb_schema.specs.Headers.{Header}
use Rattle.fgb_schema.specs.Paths.{feature_root}
use Rattle.fgb_schema.specs.Weights.{BreaksBuffer}
use Rattle.fgb_schema.specs.Features.{feature_of, own_box}
use Rattle.fgb_file.specs.File.{header_end, header_in, first_place, IsOpen, IsFramed, size_at, buffer_at, node_in, leaf_in, leaf_target, BreaksFeature, BreaksLeaf}
use Rattle.tree_search.specs.declared.search.Hit.{Hit}
use Rattle.tree_search.specs.Searches.{hit_of}
use Rattle.found_features.specs.Entries.{Entry}

-- the feature that stands where leaf k says
abbrev pub entry_at : List ℕ → Shape → ℕ → Entry
entry_at image t k = record {
  number = k;
  offset = (leaf_in image t k).offset;
  buffer = buffer_at image (leaf_target image t k);
  own = own_box (feature_of (header_in image) (buffer_at image (leaf_target image t k)));
}

-- it breaks no rule, and its own box is that of the leaf, by keys
pub record IsMet (image : List ℕ) (t : Shape) (k : ℕ) : Type 0 where
  pub framed : IsFramed image (leaf_target image t k)
  pub clean : IsClean (BreaksBuffer (buffer_at image (leaf_target image t k)) (feature_root (header_in image)))
  pub same : same_box (leaf_in image t k).bounds (entry_at image t k).own ≡ true

-- where leaf k stands in the file
abbrev pub leaf_place : List ℕ → Shape → ℕ → ℕ
leaf_place image t k = node_place (header_end image) (place t 0 k)

-- what is broken at leaf k, or at the feature that stands where it says: it says a place at which no size prefix fits in;
-- an earlier leaf's feature passes that place; the feature breaks a rule; or it has another box than the leaf
pub data BreaksHit (image : List ℕ) (t : Shape) (k : ℕ) : ℕ → Rule → Type 0 where
  leaf_past_end : length image < leaf_target image t k + 4 → BreaksHit image t k (leaf_place image t k) LeafPastEnd
  leaf_order : (j : ℕ) → j < k → leaf_target image t j + 4 ≤ length image
      → leaf_target image t k < leaf_target image t j + 4 + size_at image (leaf_target image t j) → BreaksHit image t k (leaf_place image t k) LeafOrder
  in_feature : {q : ℕ} {r : Rule} → BreaksFeature image (leaf_target image t k) q r → BreaksHit image t k q r
  unlike : (at : ℕ) {q : ℕ} → BreaksLeaf image t k at q LeafBox → BreaksHit image t k q LeafBox

-- the hits are these leaves of the file's index, ascending; under its header, with the index, the features and the end here
pub record AreLeaves (image : List ℕ) (t : Shape) (header : Header) (index first end : ℕ) (hits : List Hit) (leaves : List ℕ) : Type 0 where
  pub opened : IsOpen image (Some t)
  pub shown : header ≡ header_in image
  pub begins : index ≡ header_end image
  pub behind : first ≡ first_place image (Some t)
  pub ends : end ≡ length image
  pub same : hits ≡ map (hit_of t (node_in image) 0) leaves
  pub rising : Ascends 0 t.leaves leaves
