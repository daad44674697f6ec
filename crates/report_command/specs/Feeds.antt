-- What becomes of reporters that a query feeds with the features that it finds.
use Rattle.std.specs.Prelude.{◌≡◌, ◌≢◌, ℕ, List, ◌++◌, Option, Some, Result, Err, OnOk, OnErr, IsErrOf}
use Rattle.order_keys.specs.declared.bounds.Bounds.{Bounds}
use Rattle.flat_layout.specs.declared.Broken.{Broken}
use Rattle.level_bounds.specs.Levels.{Shape}
use Rattle.fgb_outside.specs.Source.{Source, IfTold, Rose}
use Rattle.fgb_file.specs.File.{header_in, BreaksFirst, BreaksInFront, IsDeclared, IsFile, IsOpen, IsUnindexed, IsValid}
use Rattle.fgb_reader.specs.Requests.{AsksAll, AsksFront}
use Rattle.read_stop.specs.Asks.{AsksOnly}
use Rattle.found_features.specs.Entries.{Entry, found}
use Rattle.fgb_reports.specs.States.{State, fed_all}
use Rattle.box_query.specs.Answers.{Answers, AnswersPart, Refuses}
use Rattle.box_query.specs.Needed.{AsksNeeded, AsksNeededFront, AsksSearch}
use Rattle.command_words.specs.Statuses.{IfRefused}
use Rattle.command_words.specs.declared.stop.Stop.{Stop}
use Rattle.command_words.specs.declared.stop.Stop.TheVariants.{SourceFailed, SinkFailed, TooLarge}

-- these are found, whatever the bytes are, and the reporters were fed with them
pub record FedOf (image : List ℕ) (boxes : List Bounds) (before after : List State) : Type 0 where
  pub entries : List Entry
  pub answers : Answers image boxes entries
  pub fed : after ≡ fed_all before entries

-- they are as they were; they were fed with a front of what is found as far as it is known; or with all that is found
pub data FedPart (image : List ℕ) (boxes : List Bounds) (before after : List State) : Type 0 where
  nothing : after ≡ before → FedPart image boxes before after
  front : (taken rest : List Entry) → AnswersPart image boxes (taken ++ rest) → after ≡ fed_all before taken → FedPart image boxes before after
  all : FedOf image boxes before after → FedPart image boxes before after

-- the file breaks this rule at this place, in front of all features, or in what the query asks for behind; and they were
-- fed with just what is found before
pub data FedRefused (image : List ℕ) (boxes : List Bounds) (before after : List State) (broken : Broken) : Type 0 where
  in_front : BreaksInFront image broken → after ≡ before → FedRefused image boxes before after broken
  behind : (entries : List Entry) → Refuses image boxes broken entries → after ≡ fed_all before entries → FedRefused image boxes before after broken

-- on a file that breaks no rule they were fed with just the features whose own boxes meet one of these boxes, in file order, and just
-- the needed positions were asked for: ascending, and each once
pub record FedFile (image : List ℕ) (index : Option Shape) (pieces : List (List ℕ)) (boxes : List Bounds) (gap : ℕ) (s s' : Source) (before after : List State) : Type 0 where
  pub fed : after ≡ fed_all before (found (header_in image) boxes pieces)
  pub asked : AsksNeeded image index boxes gap s s'

-- they were fed with a front of these features, and a front of these positions was asked for
pub record FedFilePart (image : List ℕ) (index : Option Shape) (pieces : List (List ℕ)) (boxes : List Bounds) (gap : ℕ) (s s' : Source) (before after : List State) : Type 0 where
  pub taken : List Entry
  pub rest : List Entry
  pub split : taken ++ rest ≡ found (header_in image) boxes pieces
  pub fed : after ≡ fed_all before taken
  pub asked : AsksNeededFront image index boxes gap s s'

-- what a query of these boxes with this gap that feeds reporters leaves
pub record Feeds {T : Type 0} (boxes : List Bounds) (gap : ℕ) (s s' : Source) (before after : List State) (result : Result T Stop) : Type 0 where
  pub headline : OnOk result (IfTold s (λ image. (index : Option Shape) (pieces : List (List ℕ)) → IsFile image index pieces → FedFile image index pieces boxes gap s s' before after))
  pub headline_part : OnErr result (IfTold s (λ image. (index : Option Shape) (pieces : List (List ℕ)) → IsFile image index pieces → FedFilePart image index pieces boxes gap s s' before after))
  -- whatever the bytes
  pub done : OnOk result (IfTold s (λ image. FedOf image boxes before after))
  pub sound : OnOk result (IfTold s (λ image. IsUnindexed image → IsValid image × AsksAll image s s'))
  pub part : OnErr result (IfTold s (λ image. FedPart image boxes before after))
  pub refused : IfRefused result (λ broken. IfTold s (λ image. FedRefused image boxes before after broken × (IsUnindexed image → BreaksFirst image broken)))
  pub unrefused : IfTold s (λ image. IsValid image → IfRefused result (λ _. ⊥))
  pub failed : IsErrOf result SourceFailed → Rose s.faults s'.faults
  -- nothing is written
  pub no_sink : result ≢ Err SinkFailed
  pub no_limit : result ≢ Err TooLarge
  -- what is asked for rises, each position once, inside the sections that may be asked for, and of an index just wanted nodes
  pub declared : IfTold s (λ image. AsksOnly (IsDeclared image) s s')
  pub search : IfTold s (λ image. (t : Shape) → IsOpen image (Some t) → AsksSearch image t boxes gap s s')
  pub front : IfTold s (λ image. ((t : Shape) → IsOpen image (Some t) → ⊥) → AsksFront image s s')
