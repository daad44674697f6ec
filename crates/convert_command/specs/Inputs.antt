-- What is converted, of a file of either form.
use Rattle.std.specs.Prelude.{◌≡◌, ℕ, List, map, Option}
use Rattle.flat_layout.specs.declared.Broken.{Broken}
use Rattle.level_bounds.specs.Levels.{Shape as Tree}
use Rattle.fgb_schema.specs.Headers.{Header}
use Rattle.fgb_schema.specs.Features.{Feature}
use Rattle.fgb_schema.specs.Shapes.{Shape}
use Rattle.fgb_file.specs.File.{BreaksFirst, IsFile, IsValid, first_place, header_in}
use Rattle.owned_features.specs.Owned.{feature_in, places_from}
use Rattle.shape_features.specs.Features.{features_over, header_over}
use Rattle.wkb_file.specs.Broken.{BreaksWkbFile}
use Rattle.wkb_file.specs.Values.{IsWkbFile}
use Rattle.command_words.specs.declared.format.Format.{Format}
use Rattle.command_words.specs.declared.format.Format.TheVariants.{Fgb, Wkb}

-- a header, features in order, and where each stands in its file
pub record Input : Type 0 where
  pub header : Header
  pub features : List Feature
  pub places : List ℕ

-- those of a FlatGeobuf file that breaks no rule; a feature stands at its size prefix
pub record IsFileInput (image : List ℕ) (input : Input) : Type 0 where
  pub index : Option Tree
  pub pieces : List (List ℕ)
  pub file : IsFile image index pieces
  pub header : input.header ≡ header_in image
  pub features : input.features ≡ map (feature_in (header_in image)) pieces
  pub places : input.places ≡ places_from (first_place image index) pieces

-- those over the shapes of a WKB file
pub record IsWkbInput (image : List ℕ) (input : Input) : Type 0 where
  pub shapes : List Shape
  pub file : IsWkbFile shapes image
  pub header : input.header ≡ header_over shapes
  pub features : input.features ≡ features_over shapes

-- those of a file of this form
abbrev pub IsInput : Format → List ℕ → Input → Type 0
IsInput Fgb image input = IsFileInput image input
IsInput Wkb image input = IsWkbInput image input

-- the bytes are a file of this form
abbrev pub IsAccepted : Format → List ℕ → Type 0
IsAccepted Fgb image = IsValid image
IsAccepted Wkb image = (shapes : List Shape) × IsWkbFile shapes image

-- they are none, for this rule that is broken: of a FlatGeobuf file in the first unit in which any is
abbrev pub BreaksInput : Format → List ℕ → Broken → Type 0
BreaksInput Fgb image broken = BreaksFirst image broken
BreaksInput Wkb image broken = BreaksWkbFile image broken.place broken.rule
