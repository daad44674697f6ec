-- What a report promises.
use Rattle.std.specs.Prelude.{◌≡◌, ◌≢◌, ◌⊎◌, ℕ, List, Option, Some, Result, Err, OnOk, IsErrOf}
use Rattle.order_keys.specs.declared.bounds.Bounds.{Bounds}
use Rattle.flat_layout.specs.declared.Broken.{Broken}
use Rattle.level_bounds.specs.Levels.{Shape}
use Rattle.fgb_outside.specs.Source.{Source, IfTold, Rose}
use Rattle.fgb_outside.specs.Sink.{Sink, Appends, AppendsPart}
use Rattle.fgb_file.specs.File.{BreaksFirst, IsDeclared, IsFile, IsOpen, IsUnindexed, IsValid}
use Rattle.fgb_reader.specs.Requests.{AsksAll, AsksFront}
use Rattle.read_stop.specs.Asks.{AsksOnly}
use Rattle.fgb_reports.specs.States.{State}
use Rattle.box_query.specs.Needed.{AsksSearch}
use Rattle.command_words.specs.Statuses.{IfRefused}
use Rattle.command_words.specs.declared.stop.Stop.{Stop}
use Rattle.command_words.specs.declared.stop.Stop.TheVariants.{SourceFailed, SinkFailed, TooLarge}
use Rattle.command_words.specs.Texts.{Tells, refusal_text, source_text, sink_text, memory_text}
use Rattle.report_command.specs.Feeds.{FedOf, FedPart, FedRefused, FedFile, FedFilePart}
use Rattle.report_command.specs.Writes.{lines_of}

-- what a report on the features that meet one of these boxes leaves, by its result
pub record Reported {T : Type 0} (boxes : List Bounds) (gap : ℕ) (s s' : Source) (before after : List State) (o o' : Sink) (result : Result T Stop) : Type 0 where
  pub headline : OnOk result (IfTold s (λ image. (index : Option Shape) (pieces : List (List ℕ)) → IsFile image index pieces → FedFile image index pieces boxes gap s s' before after))
  pub valid_part : IfTold s (λ image. (index : Option Shape) (pieces : List (List ℕ)) → IsFile image index pieces → FedFilePart image index pieces boxes gap s s' before after)
  pub done : OnOk result (IfTold s (λ image. FedOf image boxes before after))
  pub sound : OnOk result (IfTold s (λ image. IsUnindexed image → IsValid image × AsksAll image s s'))
  pub part : IfTold s (λ image. FedPart image boxes before after)
  pub refused : IfRefused result (λ broken. IfTold s (λ image. FedRefused image boxes before after broken × (IsUnindexed image → BreaksFirst image broken)))
  pub unrefused : IfTold s (λ image. IsValid image → IfRefused result (λ _. ⊥))
  pub failed : IsErrOf result SourceFailed → Rose s.faults s'.faults
  pub sink_failed : IsErrOf result SinkFailed → Rose o.faults o'.faults
  pub no_limit : result ≢ Err TooLarge
  -- the lines of the reporters that are left are written at the end alone
  pub written : OnOk result (Appends o o' (lines_of after))
  pub written_part : AppendsPart o o' (lines_of after)
  pub unwritten : IfRefused result (λ _. o' ≡ o)
  pub unread : IsErrOf result SourceFailed → o' ≡ o
  pub declared : IfTold s (λ image. AsksOnly (IsDeclared image) s s')
  pub search : IfTold s (λ image. (t : Shape) → IsOpen image (Some t) → AsksSearch image t boxes gap s s')
  pub front : IfTold s (λ image. ((t : Shape) → IsOpen image (Some t) → ⊥) → AsksFront image s s')

-- what a report on the features that meet one of these boxes does, by the status that it ends with: what the reporters before and
-- after it show, what was asked for, and what was written
pub record Reports (boxes : List Bounds) (gap : ℕ) (s s' : Source) (before after : List State) (o o' e e' : Sink) (status : ℕ) : Type 0 where
  -- of a file that breaks no rule the reporters were fed with just the features whose own boxes meet one of them at 0, and at
  -- each other status with a front of these
  pub headline : status ≡ 0 → IfTold s (λ image. (index : Option Shape) (pieces : List (List ℕ)) → IsFile image index pieces → FedFile image index pieces boxes gap s s' before after)
  pub valid_part : IfTold s (λ image. (index : Option Shape) (pieces : List (List ℕ)) → IsFile image index pieces → FedFilePart image index pieces boxes gap s s' before after)
  -- where no count rose, such a file is reported on, or there was no memory
  pub valid_done : IfTold s (λ image. IsValid image → (Rose s.faults s'.faults → ⊥) → (Rose o.faults o'.faults → ⊥) → (status ≡ 0) ⊎ (status ≡ 5))
  -- whatever the bytes, each request lies inside one section that may be asked for; what is asked for rises, each
  -- position once, and of an index just wanted nodes
  pub declared : IfTold s (λ image. AsksOnly (IsDeclared image) s s')
  pub search : IfTold s (λ image. (t : Shape) → IsOpen image (Some t) → AsksSearch image t boxes gap s s')
  pub front : IfTold s (λ image. ((t : Shape) → IsOpen image (Some t) → ⊥) → AsksFront image s s')
  -- 0: the reporters were fed with what is found, and the lines of those that are left were written; a file without an
  -- index breaks no rule, and all of it was asked for
  pub done : status ≡ 0 → IfTold s (λ image. FedOf image boxes before after)
  pub sound : status ≡ 0 → IfTold s (λ image. IsUnindexed image → IsValid image × AsksAll image s s')
  pub written : status ≡ 0 → Appends o o' (lines_of after)
  pub quiet : status ≡ 0 → e' ≡ e
  -- 1: the printed rule is broken at the printed place, the reporters were fed with just what is found before it, and
  -- nothing was written; without an index it is broken in the first unit in which any is
  pub refused : status ≡ 1 → (o' ≡ o) × ((broken : Broken) × Tells e e' (refusal_text broken) × IfTold s (λ image.
      FedRefused image boxes before after broken × (IsUnindexed image → BreaksFirst image broken)))
  -- 3: the source failed, and nothing was written
  pub source_failed : status ≡ 3 → (o' ≡ o) × (Rose s.faults s'.faults × Tells e e' source_text)
  -- 4 and 5: the sink failed, or there was no memory
  pub sink_failed : status ≡ 4 → Rose o.faults o'.faults × Tells e e' sink_text
  pub memory : status ≡ 5 → Tells e e' memory_text
  pub statuses : (status ≡ 0) ⊎ (status ≡ 1) ⊎ (status ≡ 3) ⊎ (status ≡ 4) ⊎ (status ≡ 5)
  -- whatever the status, the reporters were fed with what is found, or with a front of it, and a front of the lines of
  -- those that are left was written
  pub part : IfTold s (λ image. FedPart image boxes before after)
  pub written_part : AppendsPart o o' (lines_of after)
