-- Where features stand in a file.
use Rattle.std.specs.Prelude.{◌≡◌, ℕ, ◌+◌, ◌≤◌, List, map, slice_range}
use Rattle.fgb_schema.specs.Headers.{Header}
use Rattle.fgb_file.specs.File.{box_of}
use Rattle.feature_spans.specs.declared.features.Span.{Span}
use Rattle.feature_spans.specs.declared.features.Survey.{Survey}

-- the bytes that stand there
abbrev pub bytes_at : List ℕ → Span → List ℕ
bytes_at image span = slice_range image span.at (span.at + span.len)

-- it has some bytes, and lies between two places
pub record LiesIn (from to : ℕ) (span : Span) : Type 0 where
  pub some : 1 ≤ span.len
  pub from_on : from ≤ span.at
  pub before : span.at + span.len ≤ to

-- the own boxes of these features under a header, each in a piece with its size prefix, and where the pieces stand
pub record Surveys (image : List ℕ) (header : Header) (pieces : List (List ℕ)) (survey : Survey) : Type 0 where
  pub boxes : survey.boxes.items ≡ map (box_of header) pieces
  pub spans : map (bytes_at image) survey.spans.items ≡ pieces
