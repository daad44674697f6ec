-- What a run that serves promises.
use Rattle.std.specs.Prelude.{◌≡◌, ◌≢◌, ◌⊎◌, ◌≤◌, ℕ, List, length, Result, Err, OnOk, IsErrOf}
use Rattle.std.specs.List.{AllByRecursion}
use Rattle.fgb_outside.specs.Source.{Rose, added}
use Rattle.fgb_outside.specs.Sink.{Sink, Appends, AppendsPart}
use Rattle.byte_links.specs.Accept.{AcceptState, Served}
use Rattle.range_server.specs.declared.receipts.Receipt.{Receipt}
use Rattle.range_serving.specs.declared.refusals.ServingError.{ServingError}
use Rattle.range_serving.specs.declared.refusals.ServingError.TheVariants as serving
use Rattle.range_serving.specs.Entries.{IsServed, SendsFront, Sums}
use Rattle.command_words.specs.Statuses.{IfRefused}
use Rattle.command_words.specs.Texts.{Tells, source_text, sink_text, memory_text}
use Rattle.command_words.specs.declared.stop.Stop.{Stop}
use Rattle.command_words.specs.declared.stop.Stop.TheVariants.{SourceFailed, SinkFailed, Memory, TooLarge}
use Rattle.serve_command.specs.Texts.{served_text}

-- so many links were given back, each was served, and the receipt is the sum of theirs
pub record AllServed (image : List ℕ) (count : ℕ) (entries : List Served) (receipt : Receipt) : Type 0 where
  pub counted : length entries ≡ count
  pub served : AllByRecursion (IsServed image) entries
  pub sums : Sums entries receipt

-- all connections were served, and their line was written
pub record WritesLine (image : List ℕ) (count : ℕ) (entries : List Served) (o o' : Sink) : Type 0 where
  pub receipt : Receipt
  pub all : AllServed image count entries receipt
  pub written : Appends o o' (served_text count receipt)

-- nothing was written; or all connections were served, and their line was written, or a front of it
pub data WritesPart (image : List ℕ) (count : ℕ) (entries : List Served) (o o' : Sink) : Type 0 where
  unwritten : o' ≡ o → WritesPart image count entries o o'
  line_of : {receipt : Receipt} → AllServed image count entries receipt → AppendsPart o o' (served_text count receipt) → WritesPart image count entries o o'

-- why the work stops, where connections are no longer served
abbrev pub stop_of : ServingError → Stop
stop_of serving.AcceptFailed = SourceFailed
stop_of serving.Memory = Memory

-- what the serving of so many connections leaves, and the writing of their line
pub record ServesAndTells {T : Type 0} (image : List ℕ) (count : ℕ) (a a' : AcceptState) (o o' : Sink) (result : Result T Stop) : Type 0 where
  pub entries : List Served
  pub ended : a'.ended ≡ added a.ended entries
  pub fronts : AllByRecursion (SendsFront image) entries
  pub within : length entries ≤ count
  pub done : OnOk result (WritesLine image count entries o o')
  pub part : WritesPart image count entries o o'
  pub accept_failed : IsErrOf result SourceFailed → (o' ≡ o) × Rose a.faults a'.faults
  pub sink_failed : IsErrOf result SinkFailed → Rose o.faults o'.faults
  pub memory : IsErrOf result Memory → (o' ≡ o) ⊎ Rose o.wants o'.wants
  pub never_refused : IfRefused result (λ _. ⊥)
  pub never_large : result ≢ Err TooLarge

-- what a run that serves so many connections does, by the status that it ends with
pub record ServesRun (image : List ℕ) (count : ℕ) (a a' : AcceptState) (o o' e e' : Sink) (status : ℕ) : Type 0 where
  -- the links that were given back stand in order at the end of the listener's list, where it tells that, and whatever the
  -- status, each was sent the replies to what it received, or a front of them
  pub entries : List Served
  pub ended : a'.ended ≡ added a.ended entries
  pub fronts : AllByRecursion (SendsFront image) entries
  pub within : length entries ≤ count
  -- 0: all connections were served, and their line was written
  pub done : status ≡ 0 → WritesLine image count entries o o'
  pub quiet : status ≡ 0 → e' ≡ e
  -- 3, 4 and 5: the listener failed, the sink failed, or there was no memory; nothing was written where the listener
  -- failed, and where it was not the sink that found no memory
  pub accept_failed : status ≡ 3 → (o' ≡ o) × Rose a.faults a'.faults × Tells e e' source_text
  pub sink_failed : status ≡ 4 → Rose o.faults o'.faults × Tells e e' sink_text
  pub memory : status ≡ 5 → ((o' ≡ o) ⊎ Rose o.wants o'.wants) × Tells e e' memory_text
  pub statuses : (status ≡ 0) ⊎ (status ≡ 3) ⊎ (status ≡ 4) ⊎ (status ≡ 5)
  -- whatever the status, nothing was written, or the line of all connections, or a front of it
  pub part : WritesPart image count entries o o'
  -- where no count rose, all is done, or there was no memory
  pub unfailed : (Rose a.faults a'.faults → ⊥) → (Rose o.faults o'.faults → ⊥) → (status ≡ 0) ⊎ (status ≡ 5)
