-- An input that is written.
use Rattle.std.proofs.Common.{◌≡◌, ℕ, List, Result, Ok, Err, refl, sym, ap, subst}
use Rattle.flat_layout.specs.declared.Broken.{Broken}
use Rattle.fgb_schema.specs.Features.{Feature}
use Rattle.fgb_outside.specs.Source.{Rose}
use Rattle.fgb_outside.specs.Sink.{Sink, AppendsPart}
use Rattle.fgb_pack.specs.declared.done.PackDone.{PackDone}
use Rattle.fgb_pack.specs.declared.done.PackError.{PackError}
use Rattle.fgb_pack.specs.declared.done.PackError.TheVariants as pack_error
use Rattle.owned_features.specs.declared.file.OwnedFile.{OwnedFile}
use Rattle.fgb_lay.specs.Laying.{HasNoRoom, IsLaid, IsOfLaying, Lays, laid_file}
use Rattle.wkb_features.specs.Refusals.{AtRefusal as AtUnwritten, IsFirstWithout}
use Rattle.wkb_features.specs.Values.{AreValues, Writes as WritesValues, WritesPart, front as values_front, nothing as no_values}
use Rattle.wkb_features.specs.declared.error.ValuesError.{ValuesError}
use Rattle.wkb_features.specs.declared.error.ValuesError.TheVariants as values_error
use Rattle.command_words.specs.Statuses.{AtRefusal}
use Rattle.command_words.specs.declared.format.Format.TheVariants.{Fgb, Wkb}
use Rattle.command_words.specs.declared.stop.Stop.{Stop}
use Rattle.command_words.specs.declared.stop.Stop.TheVariants.{SourceFailed, SinkFailed, TooLarge}
use Rattle.convert_command.specs.Causes.{IsLayCause, IsValuesCause}
use Rattle.convert_command.specs.Conversions.{WritesConversionPart, front, nothing}
use Rattle.convert_command.specs.Steps.{Writes, input_of}

-- ## As a FlatGeobuf file

no_refusal : (stop : Stop) (P : Broken → Type 0) (error : PackError) → IsOfLaying error → IsLayCause error stop → AtRefusal stop P
no_refusal stop P (pack_error.Refused broken) own cause = absurd own
no_refusal stop P pack_error.SourceFailed own cause = absurd own
no_refusal stop P pack_error.SinkFailed own cause = subst (λ x. AtRefusal x P) (sym cause) tt
no_refusal stop P pack_error.TooLarge own cause = subst (λ x. AtRefusal x P) (sym cause) tt
no_refusal stop P pack_error.Memory own cause = subst (λ x. AtRefusal x P) (sym cause) tt

-- the features are lent as they are
module _ {T : Type 0} (owned : OwnedFile) (lent : List Feature) (same : lent ≡ owned.features.items) (o o' : Sink) where
  pub lays : (x : T) (done : PackDone) → Lays owned.header lent done o o' → (HasNoRoom owned.header lent → ⊥) → AppendsPart o o' (laid_file owned.header lent)
      → Writes Fgb owned o o' (Ok x)
  lays x done laid fits part = record {
    written = record { bytes = laid_file owned.header lent; conversion = ap (laid_file owned.header) same; written = laid.written };
    laid = λ _. subst (IsLaid owned.header) same laid.valid;
    refused = tt;
    unwritten = tt;
    too_large = λ is. absurd (cc is);
    large_none = λ _ large. absurd (fits (subst (HasNoRoom owned.header) (sym same) large));
    part = front (laid_file owned.header lent) (ap (laid_file owned.header) same) part;
    unfailed = λ is. cc is;
    sink_failed = λ is. absurd (cc is);
  }

  module _ (stop : Stop) where
    large_by : {U : Type 0} (error : PackError) → IsLayCause error stop → ◌≡◌ {A = Result T Stop} (Err stop) (Err TooLarge) → ◌≡◌ {A = Result U PackError} (Err error) (Err pack_error.TooLarge)
    large_by (pack_error.Refused broken) cause is = absurd (cc (cause, is))
    large_by pack_error.SourceFailed cause is = absurd (cc (cause, is))
    large_by pack_error.SinkFailed cause is = absurd (cc (cause, is))
    large_by pack_error.TooLarge cause is = refl
    large_by pack_error.Memory cause is = absurd (cc (cause, is))

    sink_by : {U : Type 0} (error : PackError) → IsLayCause error stop → ◌≡◌ {A = Result T Stop} (Err stop) (Err SinkFailed) → ◌≡◌ {A = Result U PackError} (Err error) (Err pack_error.SinkFailed)
    sink_by (pack_error.Refused broken) cause is = absurd (cc (cause, is))
    sink_by pack_error.SourceFailed cause is = absurd (cc (cause, is))
    sink_by pack_error.SinkFailed cause is = refl
    sink_by pack_error.TooLarge cause is = absurd (cc (cause, is))
    sink_by pack_error.Memory cause is = absurd (cc (cause, is))

    no_source : (error : PackError) → IsOfLaying error → IsLayCause error stop → ◌≡◌ {A = Result T Stop} (Err stop) (Err SourceFailed) → ⊥
    no_source (pack_error.Refused broken) own cause is = own
    no_source pack_error.SourceFailed own cause is = own
    no_source pack_error.SinkFailed own cause is = cc (cause, is)
    no_source pack_error.TooLarge own cause is = cc (cause, is)
    no_source pack_error.Memory own cause is = cc (cause, is)

    pub lays_not : {U : Type 0} (error : PackError) → IsLayCause error stop → IsOfLaying error
        → (◌≡◌ {A = Result U PackError} (Err error) (Err pack_error.TooLarge) → HasNoRoom owned.header lent)
        → (HasNoRoom owned.header lent → o' ≡ o) → AppendsPart o o' (laid_file owned.header lent)
        → (◌≡◌ {A = Result U PackError} (Err error) (Err pack_error.SinkFailed) → Rose o.faults o'.faults) → Writes {T = T} Fgb owned o o' (Err stop)
    lays_not error cause own large none part failed = record {
      written = tt;
      laid = tt;
      refused = no_refusal stop (λ broken. (Fgb ≡ Wkb) × IsFirstWithout owned.features.items owned.places.items broken) error own cause;
      unwritten = no_refusal stop (λ _. o' ≡ o) error own cause;
      too_large = λ is. let room = large (large_by error cause is) in (refl, (subst (HasNoRoom owned.header) same room, none room));
      large_none = λ _ room. (none (subst (HasNoRoom owned.header) (sym same) room), tt);
      part = front (laid_file owned.header lent) (ap (laid_file owned.header) same) part;
      unfailed = no_source error own cause;
      sink_failed = λ is. failed (sink_by error cause is);
    }

-- ## As values

refusal_by : (stop : Stop) (P Q : Broken → Type 0) (error : ValuesError) → IsValuesCause error stop → ((broken : Broken) → P broken → Q broken) → AtUnwritten error P → AtRefusal stop Q
refusal_by stop P Q (values_error.Refused broken) cause f p = subst (λ x. AtRefusal x Q) (sym cause) (f broken p)
refusal_by stop P Q values_error.SinkFailed cause f p = subst (λ x. AtRefusal x Q) (sym cause) tt
refusal_by stop P Q values_error.Memory cause f p = subst (λ x. AtRefusal x Q) (sym cause) tt

values_part : (owned : OwnedFile) (o o' : Sink) → WritesPart owned.features.items o o' → WritesConversionPart Wkb (input_of owned) o o'
values_part owned o o' (no_values same) = nothing same
values_part owned o o' (values_front {bytes = bytes} are part) = front bytes are part

module _ {T : Type 0} (owned : OwnedFile) (lent : List Feature) (places : List ℕ) (same : lent ≡ owned.features.items) (stand : places ≡ owned.places.items) (o o' : Sink) where
  pub spells : (x : T) → WritesValues lent o o' → WritesPart lent o o' → Writes Wkb owned o o' (Ok x)
  spells x values part = record {
    written = record { bytes = values.bytes; conversion = subst (λ fs. AreValues fs values.bytes) same values.are; written = values.written };
    laid = λ never. absurd (cc never);
    refused = tt;
    unwritten = tt;
    too_large = λ is. absurd (cc is);
    large_none = λ never. absurd (cc never);
    part = values_part owned o o' (subst (λ fs. WritesPart fs o o') same part);
    unfailed = λ is. cc is;
    sink_failed = λ is. absurd (cc is);
  }

  module _ (stop : Stop) where
    values_sink_by : {U : Type 0} (error : ValuesError) → IsValuesCause error stop → ◌≡◌ {A = Result T Stop} (Err stop) (Err SinkFailed) → ◌≡◌ {A = Result U ValuesError} (Err error) (Err values_error.SinkFailed)
    values_sink_by (values_error.Refused broken) cause is = absurd (cc (cause, is))
    values_sink_by values_error.SinkFailed cause is = refl
    values_sink_by values_error.Memory cause is = absurd (cc (cause, is))

    values_no_source : (error : ValuesError) → IsValuesCause error stop → ◌≡◌ {A = Result T Stop} (Err stop) (Err SourceFailed) → ⊥
    values_no_source (values_error.Refused broken) cause is = cc (cause, is)
    values_no_source values_error.SinkFailed cause is = cc (cause, is)
    values_no_source values_error.Memory cause is = cc (cause, is)

    values_no_large : (error : ValuesError) → IsValuesCause error stop → ◌≡◌ {A = Result T Stop} (Err stop) (Err TooLarge) → ⊥
    values_no_large (values_error.Refused broken) cause is = cc (cause, is)
    values_no_large values_error.SinkFailed cause is = cc (cause, is)
    values_no_large values_error.Memory cause is = cc (cause, is)

    pub spells_not : {U : Type 0} (error : ValuesError) → IsValuesCause error stop
        → AtUnwritten error (IsFirstWithout lent places) → AtUnwritten error (λ _. o' ≡ o) → WritesPart lent o o'
        → (◌≡◌ {A = Result U ValuesError} (Err error) (Err values_error.SinkFailed) → Rose o.faults o'.faults) → Writes {T = T} Wkb owned o o' (Err stop)
    spells_not error cause lacks unwritten part failed = record {
      written = tt;
      laid = tt;
      refused = refusal_by stop (IsFirstWithout lent places) (λ broken. (Wkb ≡ Wkb) × IsFirstWithout owned.features.items owned.places.items broken) error cause
          (λ broken p. (refl, subst (λ ps. IsFirstWithout owned.features.items ps broken) stand (subst (λ fs. IsFirstWithout fs places broken) same p)))
          lacks;
      unwritten = refusal_by stop (λ _. o' ≡ o) (λ _. o' ≡ o) error cause (λ broken p. p) unwritten;
      too_large = λ is. absurd (values_no_large error cause is);
      large_none = λ never. absurd (cc never);
      part = values_part owned o o' (subst (λ fs. WritesPart fs o o') same part);
      unfailed = values_no_source error cause;
      sink_failed = λ is. failed (values_sink_by error cause is);
    }
