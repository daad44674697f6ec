-- What a query has done with its visitor.
use Rattle.std.specs.Prelude.{◌≡◌, ℕ, List, length, Option}
use Rattle.flat_layout.specs.declared.Broken.{Broken}
use Rattle.order_keys.specs.declared.bounds.Bounds.{Bounds}
use Rattle.level_bounds.specs.Levels.{Shape}
use Rattle.fgb_schema.specs.Headers.{Header}
use Rattle.fgb_outside.specs.Source.{Source}
use Rattle.fgb_file.specs.File.{header_buffer, header_in, IsOpen, BreaksInFront}
use Rattle.found_features.specs.Entries.{Entry}
use Rattle.found_features.specs.Visits.{Takes, TakesPart, Begins, HeaderBytes}
use Rattle.box_query.specs.Answers.{Answers, AnswersPart, Refuses}
use Rattle.box_query.specs.Needed.{AsksHeader, AsksHeaderFront}

-- the bytes of the header of a file
abbrev pub bytes_in : List ℕ → HeaderBytes
bytes_in image = record { place = 12; bytes = header_buffer image }

module _ {V : Type 0} (start : V → Header → V → Type 0) (failed_start : V → HeaderBytes → V → Type 0) (step failed_step : V → Entry → V → Type 0) where
  -- it was handed all that is found, so many features
  pub record Visited (image : List ℕ) (boxes : List Bounds) (v w : V) (count : ℕ) : Type 0 where
    pub entries : List Entry
    pub answers : Answers image boxes entries
    pub begins : Begins start v (header_in image) (λ u. Takes step u entries w)
    pub counted : count ≡ length entries

  -- it was left alone, since the file is refused in front of all features, or the work stopped there, at most the header
  -- having been asked for; it failed to begin, just the header having been; or it was handed some of what is found, in
  -- order, or failed at the next
  pub data VisitedPart (image : List ℕ) (boxes : List Bounds) (s s' : Source) (v w : V) : Type 0 where
    untouched : w ≡ v → AsksHeaderFront image s s' → VisitedPart image boxes s s' v w
    no_start : (index : Option Shape) → IsOpen image index → failed_start v (bytes_in image) w → AsksHeader image s s' → VisitedPart image boxes s s' v w
    begun : (due : List Entry) → AnswersPart image boxes due → Begins start v (header_in image) (λ u. TakesPart step failed_step u due w)
        → VisitedPart image boxes s s' v w

  -- the file breaks this rule at this place, and it was handed just what is found before, or left alone where that is in
  -- front of all features
  pub data VisitedRefused (image : List ℕ) (boxes : List Bounds) (v w : V) (broken : Broken) : Type 0 where
    in_front : BreaksInFront image broken → w ≡ v → VisitedRefused image boxes v w broken
    behind : (entries : List Entry) → Refuses image boxes broken entries → Begins start v (header_in image) (λ u. Takes step u entries w)
        → VisitedRefused image boxes v w broken
