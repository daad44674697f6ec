-- A scan of all features of a file without an index.
use Rattle.std.specs.Prelude.{◌≡◌, ℕ, ◌<◌, List, length, None}
use Rattle.order_keys.specs.declared.bounds.Bounds.{Bounds}
use Rattle.flat_layout.specs.declared.Broken.{Broken}
use Rattle.fgb_schema.specs.Headers.{Header}
use Rattle.fgb_file.specs.File.{header_end, header_in, IsUnindexed, IsFile, Passes, BreaksFeature, BreaksCount}
use Rattle.found_features.specs.Entries.{Entry, found}

-- the scan is of this file, which has no index: of its features from here to there, under its header
pub record IsScan (image : List ℕ) (header : Header) (first end : ℕ) : Type 0 where
  pub unindexed : IsUnindexed image
  pub shown : header ≡ header_in image
  pub begins : first ≡ header_end image
  pub ends : end ≡ length image

-- the file breaks no rule, and these are the found ones of its features
pub data Scanned (image : List ℕ) (boxes : List Bounds) : List Entry → Type 0 where
  whole : {pieces : List (List ℕ)} → IsFile image None pieces → Scanned image boxes (found (header_in image) boxes pieces)

-- these are the found ones of features that were passed, and break no rule
pub data ScannedPart (image : List ℕ) (boxes : List Bounds) : List Entry → Type 0 where
  part : {pieces : List (List ℕ)} {at : ℕ} → Passes image None pieces at → ScannedPart image boxes (found (header_in image) boxes pieces)

-- the file breaks this rule at this place, in the feature behind those that were passed, or at the end in their number,
-- and these are the found ones of them
pub data ScanRefused (image : List ℕ) (boxes : List Bounds) (broken : Broken) : List Entry → Type 0 where
  behind : {pieces : List (List ℕ)} {at : ℕ} → Passes image None pieces at → at < length image → BreaksFeature image at broken.place broken.rule
      → ScanRefused image boxes broken (found (header_in image) boxes pieces)
  at_end : {pieces : List (List ℕ)} → Passes image None pieces (length image) → BreaksCount image (header_end image) pieces broken.place broken.rule
      → ScanRefused image boxes broken (found (header_in image) boxes pieces)
