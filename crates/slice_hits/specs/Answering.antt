-- What a walk finds next.
use Rattle.std.specs.Prelude.{◌≡◌, ℕ, List, [], ◌∷◌, ◌++◌, map, Option, Some, None, Result, Ok, Err}
use Rattle.flat_layout.specs.declared.Broken.{Broken}
use Rattle.order_keys.specs.declared.bounds.Bounds.{Bounds}
use Rattle.box_list.specs.Lists.{meets_any}
use Rattle.level_bounds.specs.Levels.{Shape}
use Rattle.fgb_file.specs.File.{header_end, node_in, IsOpen}
use Rattle.tree_search.specs.Wanted.{BreaksWanted}
use Rattle.found_features.specs.Entries.{Entry}
use Rattle.found_features.specs.Lent.{entry_of}
use Rattle.found_features.specs.declared.visitor.Found.{Found}
use Rattle.feature_scan.specs.Scans.{ScanRefused}
use Rattle.hit_reader.specs.Met.{entry_at, BreaksHit}
use Rattle.box_query.specs.Answers.{Answers, hit_leaves}

-- the file breaks this rule at this place, in what the search for the boxes meets, and these are found in front of that: in a
-- scan of all features; at a wanted node; or at a leaf that is found, or its feature
pub data Refuses (image : List ℕ) (boxes : List Bounds) (broken : Broken) : List Entry → Type 0 where
  in_scan : {entries : List Entry} → ScanRefused image boxes broken entries → Refuses image boxes broken entries
  at_node : {t : Shape} (front rest : List ℕ) → IsOpen image (Some t) → hit_leaves image t boxes ≡ front ++ rest
      → BreaksWanted t (node_in image) (meets_any boxes) (header_end image) broken.place broken.rule → Refuses image boxes broken (map (entry_at image t) front)
  at_leaf : {t : Shape} (front rest : List ℕ) (k : ℕ) → IsOpen image (Some t) → hit_leaves image t boxes ≡ front ++ k ∷ rest
      → BreaksHit image t k broken.place broken.rule → Refuses image boxes broken (map (entry_at image t) front)

-- behind these entries: a feature is found, which goes behind them; they are all that is found, and no rule is broken in
-- what was met; or one is
abbrev pub GoesOn : List ℕ → List Bounds → List Entry → (List Entry → Type 0) → Result (Option Found) Broken → Type 0
GoesOn image boxes entries Stands (Ok (Some found)) = Stands (entries ++ entry_of found ∷ [])
GoesOn image boxes entries Stands (Ok None) = Answers image boxes entries
GoesOn image boxes entries Stands (Err broken) = Refuses image boxes broken entries

-- the same where the walk goes on by a part that may hold no feature that is found
abbrev pub PassesOn : List ℕ → List Bounds → List Entry → (List Entry → Type 0) → Result (Option Found) Broken → Type 0
PassesOn image boxes entries Stands (Ok (Some found)) = Stands (entries ++ entry_of found ∷ [])
PassesOn image boxes entries Stands (Ok None) = Stands entries
PassesOn image boxes entries Stands (Err broken) = Refuses image boxes broken entries
