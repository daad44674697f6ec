-- The features of a file in memory.
use Rattle.std.specs.Prelude.{◌≡◌, ℕ, List, Option}
use Rattle.flat_layout.specs.Promises.{IsClean}
use Rattle.order_keys.specs.declared.bounds.Bounds.{Bounds}
use Rattle.level_bounds.specs.Levels.{Shape}
use Rattle.fgb_schema.specs.Paths.{feature_root}
use Rattle.fgb_schema.specs.Weights.{BreaksBuffer}
use Rattle.fgb_schema.specs.Features.{feature_of, own_box}
use Rattle.fgb_header.specs.Views.{header_shown}
use Rattle.fgb_file.specs.File.{IsFramed, IsOpen, buffer_at, first_place, header_in}
use Rattle.slice_hits.specs.declared.features.Features.{Features}

-- they are those of this file, which has this between its header and the first of them
pub record AreOf (image : List ℕ) (index : Option Shape) (features : Features) : Type 0 where
  pub opened : IsOpen image index
  pub bytes : features.bytes.now ≡ image
  pub shown : header_shown features.header ≡ header_in image
  pub begins : features.first ≡ first_place image index

-- the feature whose size prefix stands at this place breaks no rule, and has this buffer and this own box
pub record IsRead (image : List ℕ) (at : ℕ) (buffer : List ℕ) (own : Bounds) : Type 0 where
  pub framed : IsFramed image at
  pub clean : IsClean (BreaksBuffer (buffer_at image at) (feature_root (header_in image)))
  pub held : buffer ≡ buffer_at image at
  pub bounded : own ≡ own_box (feature_of (header_in image) (buffer_at image at))
