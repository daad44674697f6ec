-- What a query has done with its visitor, once it has begun.
use Rattle.std.proofs.Common.{◌≡◌, ℕ, List, length, subst}
use Rattle.order_keys.specs.declared.bounds.Bounds.{Bounds}
use Rattle.flat_layout.specs.declared.Broken.{Broken}
use Rattle.fgb_schema.specs.Headers.{Header}
use Rattle.fgb_outside.specs.Source.{Source}
use Rattle.fgb_file.specs.File.{header_in}
use Rattle.found_features.specs.Entries.{Entry}
use Rattle.found_features.specs.Visits.{Begins, HeaderBytes, Takes, TakesPart}
use Rattle.box_query.specs.Answers.{Answers, AnswersPart, Refuses}
use Rattle.box_query.specs.Visited.{Visited, VisitedPart, begun, VisitedRefused, behind}

module _ {V : Type 0} (start : V → Header → V → Type 0) (failed_start : V → HeaderBytes → V → Type 0) (step failed_step : V → Entry → V → Type 0) (image : List ℕ) (boxes : List Bounds) (header : Header) (shown : header ≡ header_in image)
    (v u w : V) (starts : start v header u) where
  begins : (P : V → Type 0) → P u → Begins start v (header_in image) P
  begins P on = record { begun = u; starts = subst (λ h. start v h u) shown starts; on = on }

  pub visited : (entries : List Entry) (count : ℕ) → Answers image boxes entries → Takes step u entries w → count ≡ length entries → Visited start failed_start step failed_step image boxes v w count
  visited entries count answers takes counted = record { entries = entries; answers = answers; begins = begins (λ x. Takes step x entries w) takes; counted = counted }

  pub visited_part : {s s' : Source} (due : List Entry) → AnswersPart image boxes due → TakesPart step failed_step u due w → VisitedPart start failed_start step failed_step image boxes s s' v w
  visited_part due answers takes = begun due answers (begins (λ x. TakesPart step failed_step x due w) takes)

  pub visited_refused : (broken : Broken) (entries : List Entry) → Refuses image boxes broken entries → Takes step u entries w → VisitedRefused start failed_start step failed_step image boxes v w broken
  visited_refused broken entries refuses takes = behind entries refuses (begins (λ x. Takes step x entries w) takes)
