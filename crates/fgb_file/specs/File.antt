-- A FlatGeobuf file as a list of bytes: the start, the header, the index where there is one, and features with their
-- size prefixes (FlatGeobuf, "Specification"). Which rule is broken where, which parts may be asked for, and which files break none.
use Rattle.std.specs.Prelude.{◌≡◌, ◌≢◌, ◌⊎◌, ⊤, ℕ, ◌+◌, ◌*◌, ◌^◌, ◌<◌, ◌≤◌, List, [], ◌∷◌, ◌++◌, length, take, slice_range, slice_index, Option, Some, None, false, true}
use Rattle.std.specs.List.{AllByRecursion, concat}
use Rattle.order_keys.specs.declared.bounds.Bounds.{Bounds}
use Rattle.order_keys.specs.Boxes.{same as same_box}
use Rattle.flat_layout.specs.Layout.{number_at}
use Rattle.flat_layout.specs.Promises.{IsClean}
use Rattle.flat_layout.specs.declared.Rule.{Rule}
use Rattle.flat_layout.specs.declared.Rule.TheVariants.{FileSize, Short, Magic, HeaderSize, IndexPastEnd, LeafOffset, LeafBox, FeaturePastEnd, FeatureSize, FeatureCount}
use Rattle.flat_layout.specs.declared.Broken.{Broken}
use Rattle.level_bounds.specs.Levels.{Shape, HasLevels, node_count, place}
use Rattle.node_items.specs.declared.item.NodeItem.{NodeItem}
use Rattle.node_items.specs.Nodes.{node_place, stored}
use Rattle.node_items.specs.Faults.{BreaksTree}
use Rattle.fgb_outside.specs.Asked.{IsInside}
use Rattle.fgb_schema.specs.Paths.{header_root, feature_root}
use Rattle.fgb_schema.specs.Weights.{BreaksBuffer}
use Rattle.fgb_schema.specs.Headers.{Header, header_of, has_index}
use Rattle.fgb_schema.specs.Features.{feature_of, own_box}

-- the first seven bytes; any eighth is read
abbrev pub magic : List ℕ
magic = 102 ∷ 103 ∷ 98 ∷ 3 ∷ 102 ∷ 103 ∷ 98 ∷ []

abbrev pub header_size : List ℕ → ℕ
header_size image = number_at 4 image 8

abbrev pub header_end : List ℕ → ℕ
header_end image = 12 + header_size image

abbrev pub header_buffer : List ℕ → List ℕ
header_buffer image = slice_range image 12 (header_end image)

-- the header, under which features are read
abbrev pub header_in : List ℕ → Header
header_in image = header_of (header_buffer image)

-- how many features the header says that there are, 0 where it does not say it
abbrev pub told_count : List ℕ → ℕ
told_count image = (header_in image).features_count

-- the file is no longer than the format lets it be, and has room for the start
pub record IsSized (image : List ℕ) : Type 0 where
  pub short : length image ≤ 2 ^ 48
  pub long : 12 ≤ length image

-- the start breaks no rule
pub record IsStart (image : List ℕ) : Type 0 where
  pub sized : IsSized image
  pub magic : take 7 image ≡ magic
  pub small : header_size image ≤ 10485760
  pub inside : header_end image ≤ length image

-- the start and the header break no rule
pub record IsHeader (image : List ℕ) : Type 0 where
  pub start : IsStart image
  pub clean : (q : ℕ) (r : Rule) → BreaksBuffer (header_buffer image) header_root q r → ⊥

-- the nodes of a tree over as many features as the header tells stand behind the header, inside the file
pub record IsTree (image : List ℕ) (t : Shape) : Type 0 where
  pub levels : HasLevels (told_count image) (header_in image).node_size t
  pub inside : header_end image + 40 * node_count t ≤ length image

-- what stands between the header and the features: nothing, or such a tree
pub data IsIndex (image : List ℕ) : Option Shape → Type 0 where
  absent : has_index (header_in image) ≡ false → IsIndex image None
  present : {t : Shape} → has_index (header_in image) ≡ true → IsTree image t → IsIndex image (Some t)

-- the start and the header break no rule, and this stands between the header and the features
pub record IsOpen (image : List ℕ) (index : Option Shape) : Type 0 where
  pub header : IsHeader image
  pub between : IsIndex image index

-- the file has no index
abbrev pub IsUnindexed : List ℕ → Type 0
IsUnindexed image = IsOpen image None

-- how many nodes the index has, and where the first feature stands behind it
abbrev pub nodes_of : Option Shape → ℕ
nodes_of None = 0
nodes_of (Some t) = node_count t

abbrev pub first_place : List ℕ → Option Shape → ℕ
first_place image None = header_end image
first_place image (Some t) = header_end image + 40 * node_count t

-- the node of the index with this number
abbrev pub node_in : List ℕ → ℕ → NodeItem
node_in image number = stored image (header_end image) number

-- leaf k of the index
abbrev pub leaf_in : List ℕ → Shape → ℕ → NodeItem
leaf_in image t k = node_in image (place t 0 k)

-- no node of the index breaks a rule
abbrev pub AreNodes : List ℕ → Option Shape → Type 0
AreNodes image None = ⊤
AreNodes image (Some t) = IsClean (BreaksTree t (node_in image) (header_end image))

-- a size prefix and a buffer of that size
pub record IsPiece (piece : List ℕ) : Type 0 where
  pub sized : length piece ≡ 4 + number_at 4 piece 0
  pub small : number_at 4 piece 0 ≤ 268435456

-- a piece whose buffer breaks no rule under this header
pub record IsFeature (header : Header) (piece : List ℕ) : Type 0 where
  pub framed : IsPiece piece
  pub clean : (q : ℕ) (r : Rule) → BreaksBuffer (slice_range piece 4 (length piece)) (feature_root header) q r → ⊥

-- from the first feature on, going from one size prefix to the next passes these pieces, and then stands at this place
pub record Walks (image : List ℕ) (first : ℕ) (pieces : List (List ℕ)) (at : ℕ) : Type 0 where
  pub front : take at image ≡ take first image ++ concat pieces
  pub above : first ≤ at
  pub within : at ≤ length image
  pub each : AllByRecursion IsPiece pieces

-- what a header says of the number of features, 0 where it does not say it, agrees with so many
pub data Agrees : ℕ → ℕ → Type 0 where
  untold : {n : ℕ} → Agrees 0 n
  same : {n : ℕ} → Agrees n n

-- the own box of the feature in a piece, under a header
abbrev pub box_of : Header → List ℕ → Bounds
box_of header piece = own_box (feature_of header (slice_range piece 4 (length piece)))

-- the leaf of feature k, where there is an index with so many, has its offset and, by keys, its own box
abbrev pub LeafAgrees : List ℕ → Option Shape → ℕ → ℕ → Bounds → Type 0
LeafAgrees image None k offset own = ⊤
LeafAgrees image (Some t) k offset own = k < t.leaves → ((leaf_in image t k).offset ≡ offset) × (same_box (leaf_in image t k).bounds own ≡ true)

-- those of all these pieces, which are the features of the file from the first on
abbrev pub LeavesAgree : List ℕ → Option Shape → List (List ℕ) → Type 0
LeavesAgree image index pieces =
    (front : List (List ℕ)) (piece : List ℕ) (rest : List (List ℕ)) → pieces ≡ front ++ piece ∷ rest
    → LeafAgrees image index (length front) (length (concat front)) (box_of (header_in image) piece)

-- a whole file that breaks no rule: the start, the header, the index, and these features
pub record IsFile (image : List ℕ) (index : Option Shape) (pieces : List (List ℕ)) : Type 0 where
  pub opened : IsOpen image index
  pub nodes : AreNodes image index
  pub whole : image ≡ take (first_place image index) image ++ concat pieces
  pub each : AllByRecursion (IsFeature (header_in image)) pieces
  pub leaves : LeavesAgree image index pieces
  pub counted : Agrees (told_count image) (length pieces)

-- the first of the seven magic bytes that differs
pub record Differs (image : List ℕ) (q : ℕ) : Type 0 where
  pub early : q < 7
  pub same : take q image ≡ take q magic
  pub other : slice_index image q ≢ slice_index magic q

-- the size of the buffer whose size prefix stands at a place, and the buffer
abbrev pub size_at : List ℕ → ℕ → ℕ
size_at image at = number_at 4 image at

abbrev pub buffer_at : List ℕ → ℕ → List ℕ
buffer_at image at = slice_range image (at + 4) (at + 4 + size_at image at)

-- what the size prefix at this place breaks: it or its buffer passes the end of the file, or the buffer is too large
pub data BreaksPrefix (image : List ℕ) (at : ℕ) : Rule → Type 0 where
  past_end : length image < at + 4 + size_at image at → BreaksPrefix image at FeaturePastEnd
  too_large : at + 4 ≤ length image → 268435456 < size_at image at → BreaksPrefix image at FeatureSize

-- a size prefix and its buffer, both inside the file, stand at this place
pub record IsFramed (image : List ℕ) (at : ℕ) : Type 0 where
  pub fits : at + 4 + size_at image at ≤ length image
  pub small : size_at image at ≤ 268435456

-- what is broken at the feature whose size prefix stands at this place
pub data BreaksFeature (image : List ℕ) (at : ℕ) : ℕ → Rule → Type 0 where
  in_prefix : {r : Rule} → BreaksPrefix image at r → BreaksFeature image at at r
  in_buffer : {q : ℕ} {r : Rule} → IsFramed image at → BreaksBuffer (buffer_at image at) (feature_root (header_in image)) q r
      → BreaksFeature image at (at + 4 + q) r

-- the place at which leaf k says that its feature stands
abbrev pub leaf_target : List ℕ → Shape → ℕ → ℕ
leaf_target image t k = first_place image (Some t) + (leaf_in image t k).offset

-- what leaf k breaks, whose feature stands at this place: it says another, or has another box than the feature that
-- stands where it says, which breaks no rule
pub data BreaksLeaf (image : List ℕ) (t : Shape) (k at : ℕ) : ℕ → Rule → Type 0 where
  other_offset : leaf_target image t k ≢ at → BreaksLeaf image t k at (node_place (header_end image) (place t 0 k)) LeafOffset
  other_box : IsFramed image (leaf_target image t k) → IsClean (BreaksBuffer (buffer_at image (leaf_target image t k)) (feature_root (header_in image)))
      → same_box (leaf_in image t k).bounds (own_box (feature_of (header_in image) (buffer_at image (leaf_target image t k)))) ≡ false
      → BreaksLeaf image t k at (node_place (header_end image) (place t 0 k)) LeafBox

-- the header says how many features there are, and the file ends behind fewer of them, or goes on behind the last
pub data BreaksCount (image : List ℕ) (first : ℕ) (pieces : List (List ℕ)) : ℕ → Rule → Type 0 where
  too_few : length pieces < told_count image → BreaksCount image first pieces (length image) FeatureCount
  too_many : 0 < told_count image → told_count image < length pieces
      → BreaksCount image first pieces (first + length (concat (take (told_count image) pieces))) FeatureCount

-- the units of a file, in their order: the start, the header, the index, each feature by its number, the end
pub data Unit : Type 0 where
  the_start : Unit
  the_header : Unit
  the_index : Unit
  the_feature : ℕ → Unit
  the_end : Unit

-- where a unit stands in that order, and among the features
abbrev pub rank : Unit → ℕ × ℕ
rank the_start = (0, 0)
rank the_header = (1, 0)
rank the_index = (2, 0)
rank (the_feature k) = (3, k)
rank the_end = (4, 0)

abbrev pub IsBefore : Unit → Unit → Type 0
IsBefore u v = ((rank u).0 < (rank v).0) ⊎ (((rank u).0 ≡ (rank v).0) × ((rank u).1 < (rank v).1))

-- rule r is broken at place q of the file, in this unit: the rules of the start in their order, then those of the
-- header, then those of the index, and then those of the features that are reached, each with its leaf, and, where the
-- end of the file is reached, that of their number
pub data BreaksUnit (image : List ℕ) : Unit → ℕ → Rule → Type 0 where
  file_size : 2 ^ 48 < length image → BreaksUnit image the_start 0 FileSize
  short : length image < 12 → BreaksUnit image the_start (length image) Short
  magic_byte : {q : ℕ} → IsSized image → Differs image q → BreaksUnit image the_start q Magic
  header_size_past : IsSized image → take 7 image ≡ magic → (10485760 < header_size image) ⊎ (length image < 12 + header_size image) → BreaksUnit image the_start 8 HeaderSize
  in_header : {q : ℕ} {r : Rule} → IsStart image → BreaksBuffer (header_buffer image) header_root q r → BreaksUnit image the_header (12 + q) r
  index_past_end : IsHeader image → has_index (header_in image) ≡ true → ((t : Shape) → IsTree image t → ⊥) → BreaksUnit image the_index (header_end image) IndexPastEnd
  in_tree : {t : Shape} {q : ℕ} {r : Rule} → IsOpen image (Some t) → BreaksTree t (node_in image) (header_end image) q r → BreaksUnit image the_index q r
  in_feature : {index : Option Shape} {pieces : List (List ℕ)} {at q : ℕ} {r : Rule} → IsOpen image index → Walks image (first_place image index) pieces at → at < length image
      → BreaksFeature image at q r → BreaksUnit image (the_feature (length pieces)) q r
  at_leaf : {t : Shape} {pieces : List (List ℕ)} {at q : ℕ} {r : Rule} → IsOpen image (Some t) → Walks image (first_place image (Some t)) pieces at → at < length image
      → length pieces < t.leaves → BreaksLeaf image t (length pieces) at q r → BreaksUnit image (the_feature (length pieces)) q r
  at_end : {index : Option Shape} {pieces : List (List ℕ)} {q : ℕ} {r : Rule} → IsOpen image index → Walks image (first_place image index) pieces (length image)
      → BreaksCount image (first_place image index) pieces q r → BreaksUnit image the_end q r

-- rule r is broken at place q of the file
pub record BreaksFile (image : List ℕ) (q : ℕ) (r : Rule) : Type 0 where
  pub unit : Unit
  pub broken : BreaksUnit image unit q r

-- the rule that a refusal names is broken at its place in some unit, and no rule is broken in a unit in front of that one
pub record BreaksFirst (image : List ℕ) (refusal : Broken) : Type 0 where
  pub unit : Unit
  pub broken : BreaksUnit image unit refusal.place refusal.rule
  pub first : (before : Unit) → IsBefore before unit → (q : ℕ) (r : Rule) → BreaksUnit image before q r → ⊥

-- a file breaks no rule anywhere
abbrev pub IsValid : List ℕ → Type 0
IsValid image = (q : ℕ) (r : Rule) → BreaksFile image q r → ⊥

-- going through the features came to this place, past these pieces, and neither they nor their leaves nor the nodes of
-- the index break a rule
pub record Passes (image : List ℕ) (index : Option Shape) (pieces : List (List ℕ)) (at : ℕ) : Type 0 where
  pub opened : IsOpen image index
  pub nodes : AreNodes image index
  pub walks : Walks image (first_place image index) pieces at
  pub each : AllByRecursion (IsFeature (header_in image)) pieces
  pub leaves : LeavesAgree image index pieces

-- the file is refused in front of all features, so that none is reached
pub record BreaksInFront (image : List ℕ) (refusal : Broken) : Type 0 where
  pub first : BreaksFirst image refusal
  pub unreached : (index : Option Shape) → IsOpen image index → ⊥

-- the pair asks for a part of one section that may be asked for: the start, the header where the start breaks no rule,
-- the index where there is one that stands inside the file, or the features behind it
pub data IsDeclared (image : List ℕ) (pair : ℕ × ℕ) : Type 0 where
  of_start : IsSized image → IsInside 0 12 pair → IsDeclared image pair
  of_header : IsStart image → IsInside 12 (12 + header_size image) pair → IsDeclared image pair
  of_index : {t : Shape} → IsOpen image (Some t) → IsInside (header_end image) (first_place image (Some t)) pair → IsDeclared image pair
  of_features : {index : Option Shape} → IsOpen image index → IsInside (first_place image index) (length image) pair → IsDeclared image pair
