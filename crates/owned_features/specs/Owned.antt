-- A file in memory.
use Rattle.std.specs.Prelude.{◌≡◌, ℕ, ◌+◌, List, [], ◌∷◌, length, map, slice_range, Option}
use Rattle.std.specs.List.{AllByRecursion}
use Rattle.level_bounds.specs.Levels.{Shape}
use Rattle.fgb_schema.specs.Headers.{Header}
use Rattle.fgb_schema.specs.Features.{Feature, feature_of}
use Rattle.feature_tables.specs.Records.{Fits}
use Rattle.fgb_file.specs.File.{first_place, header_in}
use Rattle.owned_features.specs.declared.file.OwnedFile.{OwnedFile}

-- the feature in a piece, a size prefix and a buffer, under a header
abbrev pub feature_in : Header → List ℕ → Feature
feature_in header piece = feature_of header (slice_range piece 4 (length piece))

-- where the size prefix of each piece stands, when they stand one behind the other, the first at this place
abbrev pub places_from : ℕ → List (List ℕ) → List ℕ
places_from first [] = []
places_from first (piece ∷ rest) = first ∷ places_from (first + length piece) rest

-- it holds the header of a file with these pieces behind its index, the feature in each, and where each stands
pub record Owns (image : List ℕ) (index : Option Shape) (pieces : List (List ℕ)) (file : OwnedFile) : Type 0 where
  pub header : file.header ≡ header_in image
  pub features : file.features.items ≡ map (feature_in (header_in image)) pieces
  pub places : file.places.items ≡ places_from (first_place image index) pieces

-- it has a place for each feature, and each fits the header
pub record IsSound (file : OwnedFile) : Type 0 where
  pub each : length file.places.items ≡ length file.features.items
  pub fits : AllByRecursion (Fits file.header) file.features.items
