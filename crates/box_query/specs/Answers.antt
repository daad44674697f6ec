-- What a query of several boxes finds in a file, whatever its bytes are, and why it is refused.
use Rattle.std.specs.Prelude.{◌≡◌, ℕ, List, [], ◌∷◌, ◌++◌, map, Some}
use Rattle.std.specs.List.{AllByRecursion}
use Rattle.flat_layout.specs.Promises.{IsClean}
use Rattle.flat_layout.specs.declared.Broken.{Broken}
use Rattle.order_keys.specs.declared.bounds.Bounds.{Bounds}
use Rattle.level_bounds.specs.Levels.{Shape}
use Rattle.fgb_file.specs.File.{header_end, node_in, IsOpen}
use Rattle.box_list.specs.Lists.{meets_any}
use Rattle.tree_search.specs.Wanted.{hits, BreaksWanted}
use Rattle.found_features.specs.Entries.{Entry}
use Rattle.feature_scan.specs.Scans.{Scanned, ScannedPart, ScanRefused}
use Rattle.hit_reader.specs.Met.{entry_at, IsMet, BreaksHit}

-- the leaves of an index that a search finds, and the features that stand where they say
abbrev pub hit_leaves : List ℕ → Shape → List Bounds → List ℕ
hit_leaves image t boxes = hits t (node_in image) (meets_any boxes) 0

abbrev pub met : List ℕ → Shape → List Bounds → List Entry
met image t boxes = map (entry_at image t) (hit_leaves image t boxes)

-- no wanted node breaks a rule, and no leaf that is found, nor its feature
pub record IsSearched (image : List ℕ) (t : Shape) (boxes : List Bounds) : Type 0 where
  pub opened : IsOpen image (Some t)
  pub clean : IsClean (BreaksWanted t (node_in image) (meets_any boxes) (header_end image))
  pub each : AllByRecursion (IsMet image t) (hit_leaves image t boxes)

-- these are found: by a scan of a file without an index that breaks no rule, or by a search of an index
pub data Answers (image : List ℕ) (boxes : List Bounds) : List Entry → Type 0 where
  scanned : {entries : List Entry} → Scanned image boxes entries → Answers image boxes entries
  searched : {t : Shape} → IsSearched image t boxes → Answers image boxes (met image t boxes)

-- these are found as far as it is known
pub data AnswersPart (image : List ℕ) (boxes : List Bounds) : List Entry → Type 0 where
  scanned : {entries : List Entry} → ScannedPart image boxes entries → AnswersPart image boxes entries
  searched : {t : Shape} → IsOpen image (Some t) → AnswersPart image boxes (met image t boxes)

-- the file breaks this rule at this place behind its header, in what the query asks for, and these are found before: in a
-- scan; at a wanted node; or at a leaf that is found, or its feature
pub data Refuses (image : List ℕ) (boxes : List Bounds) (broken : Broken) : List Entry → Type 0 where
  in_scan : {entries : List Entry} → ScanRefused image boxes broken entries → Refuses image boxes broken entries
  at_node : {t : Shape} → IsOpen image (Some t) → BreaksWanted t (node_in image) (meets_any boxes) (header_end image) broken.place broken.rule
      → Refuses image boxes broken []
  at_leaf : {t : Shape} (front rest : List ℕ) (k : ℕ) → IsOpen image (Some t) → hit_leaves image t boxes ≡ front ++ k ∷ rest
      → BreaksHit image t k broken.place broken.rule → Refuses image boxes broken (map (entry_at image t) front)
