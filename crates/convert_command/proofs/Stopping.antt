-- What a conversion leaves whose input was not read.
use Rattle.std.proofs.Common.{◌≡◌, Result, Err, refl, sym, subst}
use Rattle.flat_layout.specs.declared.Broken.{Broken}
use Rattle.fgb_outside.specs.Source.{Source, IfTold, Rose}
use Rattle.read_stop.specs.declared.stop.ReadStop.{ReadStop}
use Rattle.read_stop.specs.declared.stop.ReadStop.TheVariants as read_stop
use Rattle.wkb_file.specs.Reads.{IsFault as IsUnread}
use Rattle.command_words.specs.Statuses.{AtRefusal}
use Rattle.command_words.specs.declared.format.Format.{Format}
use Rattle.command_words.specs.declared.stop.Stop.{Stop}
use Rattle.command_words.specs.declared.stop.Stop.TheVariants.{Refused, SourceFailed, SinkFailed, Memory, TooLarge}
use Rattle.convert_command.specs.Causes.{IsReadCause}
use Rattle.convert_command.specs.Conversions.{IsFault, RefusesConversion, no_input}
use Rattle.convert_command.specs.Inputs.{Input, IsInput}
use Rattle.convert_command.specs.Steps.{Reads}
use Rattle.convert_command.proofs.Inputs.{accepted_of}

-- what is known of each refusal
pub whatever : (stop : Stop) (P : Broken → Type 0) → ((e : Broken) → P e) → AtRefusal stop P
whatever (Refused e) P f = f e
whatever SourceFailed P f = tt
whatever SinkFailed P f = tt
whatever Memory P f = tt
whatever TooLarge P f = tt

module _ (from to : Format) (s s' : Source) (stop : Stop) where
  pub refused : (error : ReadStop) → IsReadCause error stop → Reads from s s' (Err error) → AtRefusal stop (λ broken. IfTold s (λ image. RefusesConversion from to image broken))
  refused (read_stop.Refused broken) cause reads = subst (λ x. AtRefusal x (λ e. IfTold s (λ image. RefusesConversion from to image e))) (sym cause) (λ image told. no_input (reads.refused image told))
  refused read_stop.SourceFailed cause reads = subst (λ x. AtRefusal x (λ e. IfTold s (λ image. RefusesConversion from to image e))) (sym cause) tt
  refused read_stop.Memory cause reads = subst (λ x. AtRefusal x (λ e. IfTold s (λ image. RefusesConversion from to image e))) (sym cause) tt

  fault : (error : ReadStop) → IsReadCause error stop → IsUnread error → IsFault stop
  fault (read_stop.Refused broken) cause unread = absurd unread
  fault read_stop.SourceFailed cause unread = subst IsFault (sym cause) tt
  fault read_stop.Memory cause unread = subst IsFault (sym cause) tt

  kept : (error : ReadStop) → IsReadCause error stop → IsUnread error → AtRefusal stop (λ _. ⊥)
  kept (read_stop.Refused broken) cause unread = absurd unread
  kept read_stop.SourceFailed cause unread = subst (λ x. AtRefusal x (λ _. ⊥)) (sym cause) tt
  kept read_stop.Memory cause unread = subst (λ x. AtRefusal x (λ _. ⊥)) (sym cause) tt

  pub accepted : (error : ReadStop) → IsReadCause error stop → Reads from s s' (Err error) → IfTold s (λ image. (input : Input) → IsInput from image input → IsFault stop)
  accepted error cause reads image told input is = fault error cause (reads.accepted image told (accepted_of from image input is))

  pub unrefused : (error : ReadStop) → IsReadCause error stop → Reads from s s' (Err error) → IfTold s (λ image. (input : Input) → IsInput from image input → AtRefusal stop (λ _. ⊥))
  unrefused error cause reads image told input is = kept error cause (reads.accepted image told (accepted_of from image input is))

  pub failed : {T : Type 0} (error : ReadStop) → IsReadCause error stop → Reads from s s' (Err error) → ◌≡◌ {A = Result T Stop} (Err stop) (Err SourceFailed) → Rose s.faults s'.faults
  failed (read_stop.Refused broken) cause reads is = absurd (cc (cause, is))
  failed read_stop.SourceFailed cause reads is = reads.failed refl
  failed read_stop.Memory cause reads is = absurd (cc (cause, is))

  pub no_sink : {T : Type 0} (error : ReadStop) → IsReadCause error stop → ◌≡◌ {A = Result T Stop} (Err stop) (Err SinkFailed) → ⊥
  no_sink (read_stop.Refused broken) cause is = cc (cause, is)
  no_sink read_stop.SourceFailed cause is = cc (cause, is)
  no_sink read_stop.Memory cause is = cc (cause, is)

  pub no_large : {T : Type 0} (error : ReadStop) → IsReadCause error stop → ◌≡◌ {A = Result T Stop} (Err stop) (Err TooLarge) → ⊥
  no_large (read_stop.Refused broken) cause is = cc (cause, is)
  no_large read_stop.SourceFailed cause is = cc (cause, is)
  no_large read_stop.Memory cause is = cc (cause, is)
