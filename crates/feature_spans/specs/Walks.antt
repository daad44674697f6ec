-- Going through the features of a source.
use Rattle.std.specs.Prelude.{◌≡◌, ℕ, ◌≤◌, List, length, map}
use Rattle.std.specs.List.{AllByRecursion}
use Rattle.order_keys.specs.Boxes.{IsBox}
use Rattle.fgb_schema.specs.Headers.{Header}
use Rattle.fgb_outside.specs.Source.{Source, IfTold}
use Rattle.fgb_file.specs.File.{Walks, box_of}
use Rattle.fgb_reader.specs.Reading.{Fetches, next_of}
use Rattle.fgb_reader.specs.declared.pieces.Pieces.{Pieces}
use Rattle.feature_spans.specs.Spans.{LiesIn, bytes_at}
use Rattle.feature_spans.specs.declared.features.Survey.{Survey}

-- going through the features from the first on came to this place, and surveyed those that it passed
pub record Stands (image : List ℕ) (header : Header) (first at : ℕ) (survey : Survey) : Type 0 where
  pub pieces : List (List ℕ)
  pub walks : Walks image first pieces at
  pub boxes : survey.boxes.items ≡ map (box_of header) pieces
  pub spans : map (bytes_at image) survey.spans.items ≡ pieces

-- the pieces went from where they began to the next place, and the features in front of it were surveyed
pub record Goes (header : Header) (first end : ℕ) (begun pieces : Pieces) (survey : Survey) (s s' : Source) : Type 0 where
  pub fetches : Fetches begun pieces s s'
  pub few : length survey.boxes.items ≤ next_of pieces
  pub each : length survey.spans.items ≡ length survey.boxes.items
  pub boxes : AllByRecursion IsBox survey.boxes.items
  pub spans : AllByRecursion (LiesIn first end) survey.spans.items
  pub stands : IfTold s (λ image. end ≡ length image → Stands image header first (next_of pieces) survey)
