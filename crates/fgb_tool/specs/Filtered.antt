-- What a query with a condition promises.
use Rattle.std.specs.Prelude.{◌≡◌, ◌⊎◌, ◌+◌, ℕ, List, [], Option, Some}
use Rattle.order_keys.specs.declared.bounds.Bounds.{Bounds}
use Rattle.flat_layout.specs.Promises.{IsClean}
use Rattle.flat_layout.specs.declared.Rule.{Rule}
use Rattle.flat_layout.specs.declared.Broken.{Broken}
use Rattle.fgb_outside.specs.Source.{Source, IfTold, Rose}
use Rattle.fgb_outside.specs.Sink.{Sink, Appends}
use Rattle.level_bounds.specs.Levels.{Shape}
use Rattle.fgb_file.specs.File.{header_in, IsOpen, IsUnindexed, IsFile, IsDeclared, BreaksFirst, IsValid}
use Rattle.read_stop.specs.Asks.{AsksOnly}
use Rattle.fgb_reader.specs.Requests.{AsksAll, AsksFront}
use Rattle.box_query.specs.Needed.{AsksHeaderFront, AsksSearch}
use Rattle.text_query.specs.Texts.{IsTooWide}
use Rattle.text_query.specs.declared.output.Output.{Output}
use Rattle.text_query.specs.declared.output.Output.TheVariants.{Fgb}
use Rattle.fgb_where.specs.Binding.{Bounded}
use Rattle.fgb_where.specs.declared.words.Condition.{Condition}
use Rattle.where_query.specs.Written.{BindsIn, BreaksIn, ConditionRefused, TextOf, TextPart, TextRefused, Headline, HeadlinePart}
use Rattle.command_words.specs.Texts.{Tells, refusal_text, source_text, sink_text, memory_text, too_large_text}

-- what a query of these boxes, with this gap and under this condition, that writes such a text does, by the status that it
-- ends with
pub record RunsWhere (boxes : List Bounds) (gap : ℕ) (condition : Condition) (output : Output) (s s' : Source) (o o' e e' : Sink) (status : ℕ) : Type 0 where
  -- a file that breaks no rule, where the condition breaks none, is answered at 0 by the features for which it holds, and at
  -- each other status by a front of that; what is asked for is as without a condition
  pub headline : status ≡ 0 → IfTold s (λ image. (index : Option Shape) (pieces : List (List ℕ)) (bounded : Bounded) → IsFile image index pieces → BindsIn image condition bounded
      → Headline image index pieces boxes bounded gap output s s' o o')
  pub valid_part : IfTold s (λ image. (index : Option Shape) (pieces : List (List ℕ)) (bounded : Bounded) → IsFile image index pieces → BindsIn image condition bounded
      → HeadlinePart image index pieces boxes bounded gap output s s' o o')
  -- where no count rose, it is answered, or its header laid anew would be too large, or there was no memory
  pub valid_done : IfTold s (λ image. IsValid image → IsClean (BreaksIn image condition) → (IsTooWide output (header_in image) → ⊥)
      → (Rose s.faults s'.faults → ⊥) → (Rose o.faults o'.faults → ⊥) → (status ≡ 0) ⊎ (status ≡ 5))
  pub valid_large : IfTold s (λ image. IsValid image → IsClean (BreaksIn image condition) → IsTooWide output (header_in image)
      → (Rose s.faults s'.faults → ⊥) → (status ≡ 6) ⊎ (status ≡ 5))
  -- where the start, the header and the end of the index break no rule and the condition breaks one, that one is printed with
  -- its place at 1, but where the source failed before, or there was no memory; nothing was written, and nothing past the
  -- header was asked for
  pub broken_condition : IfTold s (λ image. (index : Option Shape) (q : ℕ) (r : Rule) → IsOpen image index → BreaksIn image condition q r
      → (((status ≡ 1) × Tells e e' (refusal_text (record { place = 12 + q; rule = r }))) ⊎ (status ≡ 5) ⊎ (status ≡ 3))
      × Appends o o' [] × AsksHeaderFront image s s')
  -- whatever the bytes, each request lies inside one section that may be asked for; what is asked for rises, each
  -- position once, and of an index just wanted nodes
  pub declared : IfTold s (λ image. AsksOnly (IsDeclared image) s s')
  pub search : IfTold s (λ image. (t : Shape) → IsOpen image (Some t) → AsksSearch image t boxes gap s s')
  pub front : IfTold s (λ image. ((t : Shape) → IsOpen image (Some t) → ⊥) → AsksFront image s s')
  -- 0: the text of those for which the condition holds was written, of what is found; a file without an index breaks no
  -- rule, and all of it was asked for
  pub done : status ≡ 0 → IfTold s (λ image. TextOf image boxes condition output o o')
  pub sound : status ≡ 0 → IfTold s (λ image. IsUnindexed image → IsValid image × AsksAll image s s')
  pub quiet : status ≡ 0 → e' ≡ e
  -- 1: the printed rule is broken at the printed place, by the condition or by the file, and just the text of those for
  -- which the condition holds was written, of what is found before it; without an index the rule that the file breaks is
  -- broken in the first unit in which any is
  pub refused : status ≡ 1 → (broken : Broken) × Tells e e' (refusal_text broken) × IfTold s (λ image.
      ConditionRefused image condition s s' o o' broken
      ⊎ (TextRefused image boxes condition output o o' broken × (IsUnindexed image → BreaksFirst image broken)))
  -- on a file that breaks no rule just a condition that breaks one is refused
  pub valid_refused : status ≡ 1 → IfTold s (λ image. IsValid image → IsClean (BreaksIn image condition) → ⊥)
  -- 3, 4 and 5: the source failed, the sink failed, or there was no memory
  pub source_failed : status ≡ 3 → Rose s.faults s'.faults × Tells e e' source_text
  pub sink_failed : status ≡ 4 → Rose o.faults o'.faults × Tells e e' sink_text
  pub memory : status ≡ 5 → Tells e e' memory_text
  -- 6: a file was to be written; the start, the header, the end of the index and the condition break no rule, the header laid
  -- anew would be too large, and nothing was written
  pub large : status ≡ 6 → Tells e e' too_large_text × IfTold s (λ image.
      IsTooWide output (header_in image) × ((index : Option Shape) × IsOpen image index) × ((bounded : Bounded) × BindsIn image condition bounded) × Appends o o' [])
  pub large_file : status ≡ 6 → output ≡ Fgb
  -- and it comes just there, but where the source failed before, or there was no memory
  pub large_done : IfTold s (λ image. (index : Option Shape) → IsOpen image index → IsClean (BreaksIn image condition) → IsTooWide output (header_in image)
      → ((status ≡ 6) ⊎ (status ≡ 5) ⊎ (status ≡ 3)) × Appends o o' [])
  pub statuses : (status ≡ 0) ⊎ (status ≡ 1) ⊎ (status ≡ 3) ⊎ (status ≡ 4) ⊎ (status ≡ 5) ⊎ (status ≡ 6)
  -- whatever the status, the text of those for which the condition holds was written, of what is found, or a front of it
  pub part : IfTold s (λ image. TextPart image boxes condition output o o')
