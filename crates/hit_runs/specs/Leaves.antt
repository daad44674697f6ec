-- What is read, lent and refused where a leaf says.
use Rattle.std.specs.Prelude.{◌≡◌, ℕ, ◌+◌, ◌*◌, true, false, List, ⊤, ◌<◌, [], ◌∷◌, Some}
use Rattle.flat_layout.specs.declared.Broken.{Broken}
use Rattle.flat_layout.specs.declared.Rule.TheVariants.{LeafBox}
use Rattle.flat_layout.specs.Promises.{IsClean, Names}
use Rattle.order_keys.specs.declared.bounds.Bounds.{Bounds}
use Rattle.order_keys.specs.Boxes.{same as same_box}
use Rattle.level_bounds.specs.Levels.{Shape}
use Rattle.fgb_schema.specs.Headers.{Header}
use Rattle.fgb_schema.specs.Paths.{feature_root}
use Rattle.fgb_schema.specs.Weights.{BreaksBuffer}
use Rattle.fgb_schema.specs.Features.{feature_of, own_box}
use Rattle.fgb_file.specs.File.{leaf_in, leaf_target}
use Rattle.hit_reader.specs.Going.{IsBehind}
use Rattle.box_search.specs.declared.nodes.Hit.{Hit}

-- the hit is leaf k of the file's index
pub record IsLeaf (image : List ℕ) (t : Shape) (hit : Hit) (k : ℕ) : Type 0 where
  pub number : hit.number ≡ k
  pub item : hit.item ≡ leaf_in image t k

-- the feature in a buffer breaks no rule, and its own box is that of the leaf, by keys
pub record IsAlike (header : Header) (hit : Hit) (buffer : List ℕ) (own : Bounds) : Type 0 where
  pub clean : IsClean (BreaksBuffer buffer (feature_root header))
  pub box : own ≡ own_box (feature_of header buffer)
  pub same : same_box hit.item.bounds own ≡ true

-- the buffer, whose first byte stands here, breaks a rule; or its own box is another than that of the leaf, where leaf 0 stands there
pub data RefusesRead (header : Header) (hit : Hit) (buffer : List ℕ) (base leaves : ℕ) (broken : Broken) : Type 0 where
  in_buffer : Names base (BreaksBuffer buffer (feature_root header)) broken → RefusesRead header hit buffer base leaves broken
  in_box : IsClean (BreaksBuffer buffer (feature_root header)) → same_box hit.item.bounds (own_box (feature_of header buffer)) ≡ false
      → broken ≡ record { place = leaves + 40 * hit.number; rule = LeafBox } → RefusesRead header hit buffer base leaves broken

-- from this place on the feature of leaf k is due: one in front of it ends here, or it was reached, and not read
pub data IsDue (image : List ℕ) (t : Shape) (k at : ℕ) : Type 0 where
  behind : IsBehind image t k at → IsDue image t k at
  reached : at ≡ leaf_target image t k → IsDue image t k at

-- where a hit says where the next leaf's feature stands, that leaf is there and says so
abbrev pub TellsNext : List ℕ → Shape → Hit → Type 0
TellsNext image t hit = (next : ℕ) → hit.next ≡ Some next → (hit.number + 1 < t.leaves) × (next ≡ (leaf_in image t (hit.number + 1)).offset)

-- the hits are these leaves
abbrev pub AreLeaves : List ℕ → Shape → List Hit → List ℕ → Type 0
AreLeaves image t [] [] = ⊤
AreLeaves image t [] (k ∷ leaves) = ⊥
AreLeaves image t (h ∷ hits) [] = ⊥
AreLeaves image t (h ∷ hits) (k ∷ leaves) = IsLeaf image t h k × TellsNext image t h × AreLeaves image t hits leaves
