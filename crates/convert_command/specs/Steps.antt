-- The two steps of a conversion: an input is read, and written.
use Rattle.std.specs.Prelude.{◌≡◌, ℕ, List, Result, Err, IfErr, IfOk, OnOk, IsErrOf}
use Rattle.std.specs.List.{AllByRecursion}
use Rattle.fgb_outside.specs.Source.{Source, IfTold, Rose}
use Rattle.fgb_outside.specs.Sink.{Sink}
use Rattle.read_stop.specs.declared.stop.ReadStop.{ReadStop}
use Rattle.read_stop.specs.declared.stop.ReadStop.TheVariants as read_stop
use Rattle.read_stop.specs.Stops.{IfRefused as IfUnread}
use Rattle.owned_features.specs.Owned.{IsSound}
use Rattle.owned_features.specs.declared.file.OwnedFile.{OwnedFile}
use Rattle.fgb_lay.specs.Laying.{HasNoRoom, IsLaid}
use Rattle.wkb_file.specs.Reads.{IsFault as IsUnread}
use Rattle.wkb_features.specs.Refusals.{IsFirstWithout}
use Rattle.wkb_features.specs.Values.{HasValue}
use Rattle.command_words.specs.Statuses.{IfRefused}
use Rattle.command_words.specs.declared.format.Format.{Format}
use Rattle.command_words.specs.declared.format.Format.TheVariants.{Fgb, Wkb}
use Rattle.command_words.specs.declared.stop.Stop.{Stop}
use Rattle.command_words.specs.declared.stop.Stop.TheVariants.{SourceFailed, SinkFailed, TooLarge}
use Rattle.convert_command.specs.Conversions.{WritesConversion, WritesConversionPart}
use Rattle.convert_command.specs.Inputs.{BreaksInput, Input, IsAccepted, IsInput}

-- what is held in memory
abbrev pub input_of : OwnedFile → Input
input_of owned = record { header = owned.header; features = owned.features.items; places = owned.places.items }

-- that is this input of this form; of a WKB file no feature has a place
pub record Holds (from : Format) (input : Input) (owned : OwnedFile) : Type 0 where
  pub header : owned.header ≡ input.header
  pub features : owned.features.items ≡ input.features
  pub places : from ≡ Fgb → owned.places.items ≡ input.places

-- the bytes are a file of this form, and its one input is held
pub record IsHeld (from : Format) (image : List ℕ) (owned : OwnedFile) : Type 0 where
  pub accepted : IsAccepted from image
  pub holds : (input : Input) → IsInput from image input → Holds from input owned

-- reading an input
pub record Reads (from : Format) (s s' : Source) (result : Result OwnedFile ReadStop) : Type 0 where
  pub held : IfOk result (λ owned. IfTold s (λ image. IsHeld from image owned))
  pub sound : IfOk result IsSound
  pub valued : IfOk result (λ owned. from ≡ Wkb → AllByRecursion HasValue owned.features.items)
  pub refused : IfUnread result (λ broken. IfTold s (λ image. BreaksInput from image broken))
  pub accepted : IfTold s (λ image. IsAccepted from image → IfErr result IsUnread)
  pub failed : IsErrOf result read_stop.SourceFailed → Rose s.faults s'.faults

-- writing one
pub record Writes {T : Type 0} (to : Format) (owned : OwnedFile) (o o' : Sink) (result : Result T Stop) : Type 0 where
  pub written : OnOk result (WritesConversion to (input_of owned) o o')
  pub laid : OnOk result (to ≡ Fgb → IsLaid owned.header owned.features.items)
  pub refused : IfRefused result (λ broken. (to ≡ Wkb) × IsFirstWithout owned.features.items owned.places.items broken)
  pub unwritten : IfRefused result (λ _. o' ≡ o)
  pub too_large : result ≡ Err TooLarge → (to ≡ Fgb) × (HasNoRoom owned.header owned.features.items × (o' ≡ o))
  pub large_none : to ≡ Fgb → HasNoRoom owned.header owned.features.items → (o' ≡ o) × OnOk result ⊥
  pub part : WritesConversionPart to (input_of owned) o o'
  pub unfailed : IsErrOf result SourceFailed → ⊥
  pub sink_failed : IsErrOf result SinkFailed → Rose o.faults o'.faults
