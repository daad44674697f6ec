-- Going through the features of a source.
use Rattle.std.specs.Prelude.{◌≡◌, ℕ, List, length, map}
use Rattle.level_bounds.specs.Levels.{Shape}
use Rattle.fgb_schema.specs.Headers.{Header}
use Rattle.fgb_outside.specs.Source.{Source, IfTold}
use Rattle.fgb_file.specs.File.{Walks}
use Rattle.fgb_reader.specs.Reading.{Fetches, next_of}
use Rattle.fgb_reader.specs.declared.pieces.Pieces.{Pieces}
use Rattle.owned_features.specs.declared.file.OwnedFile.{OwnedFile}
use Rattle.owned_features.specs.Owned.{IsSound, feature_in, places_from}

-- going through the features from the first on came to this place, and the file holds those that it passed
pub record Stands (image : List ℕ) (header : Header) (first at : ℕ) (file : OwnedFile) : Type 0 where
  pub pieces : List (List ℕ)
  pub walks : Walks image first pieces at
  pub features : file.features.items ≡ map (feature_in header) pieces
  pub places : file.places.items ≡ places_from first pieces

-- the pieces went from where they began to the next place, and the file holds the features in front of it
pub record Goes (header : Header) (first end : ℕ) (begun pieces : Pieces) (file : OwnedFile) (s s' : Source) : Type 0 where
  pub fetches : Fetches begun pieces s s'
  pub shown : file.header ≡ header
  pub sound : IsSound file
  pub stands : IfTold s (λ image. end ≡ length image → Stands image header first (next_of pieces) file)
