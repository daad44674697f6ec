-- What a run promises, from what its conversion has left.
use Rattle.std.proofs.Common.{◌≡◌, ◌≢◌, ◌⊎◌, ℕ, Result, Ok, Err, OnOk, IsErrOf, sym, subst, ◌∙◌}
use Rattle.std.specs.Prelude.{IfErr}
use Rattle.std.specs.List.{AllByRecursion}
use Rattle.fgb_outside.specs.Source.{Source, IfTold, Rose}
use Rattle.fgb_outside.specs.Sink.{Sink}
use Rattle.fgb_lay.specs.Laying.{HasNoRoom, IsLaid}
use Rattle.wkb_features.specs.Values.{HasValue}
use Rattle.convert_command.specs.Inputs.{Input, IsAccepted, IsInput}
use Rattle.convert_command.specs.Conversions.{WritesConversion, WritesConversionPart, IsConvertible, IsFault, RefusesConversion}
use Rattle.command_words.specs.declared.format.Format.{Format}
use Rattle.command_words.specs.declared.format.Format.TheVariants.{Fgb, Wkb}
use Rattle.command_words.specs.declared.stop.Stop.{Stop}
use Rattle.command_words.specs.declared.stop.Stop.TheVariants.{Refused, SourceFailed, SinkFailed, Memory, TooLarge}
use Rattle.command_words.specs.Statuses.{IsStatus, IfRefused}
use Rattle.command_words.specs.Words.{Input as Named}
use Rattle.command_words.specs.Requests.{Request, convert}
use Rattle.command_words.proofs.Meanings.{statuses, not_usage, at_done, at_refused, at_source, at_sink, at_memory, at_large, unfailed}
use Rattle.fgb_tool.specs.Runs.{Converts, Does}
use Rattle.fgb_tool.proofs.Running.{done_or_memory, refused_or_memory, large_or_memory}

-- what a conversion leaves
pub record Converted {T : Type 0} (from to : Format) (s s' : Source) (o o' : Sink) (result : Result T Stop) : Type 0 where
  pub done : OnOk result (IfTold s (λ image. IsAccepted from image × ((input : Input) → IsInput from image input → WritesConversion to input o o')))
  pub laid : OnOk result (to ≡ Fgb → IfTold s (λ image. (input : Input) → IsInput from image input → IsLaid input.header input.features))
  pub refused : IfRefused result (λ broken. IfTold s (λ image. RefusesConversion from to image broken))
  pub unwritten : IfRefused result (λ _. o' ≡ o)
  pub too_large : result ≡ Err TooLarge → (to ≡ Fgb) × ((o' ≡ o) × IfTold s (λ image. IsAccepted from image
      × ((input : Input) → IsInput from image input → HasNoRoom input.header input.features)))
  pub large_none : IfTold s (λ image. (input : Input) → IsInput from image input → to ≡ Fgb → HasNoRoom input.header input.features → (o' ≡ o) × OnOk result ⊥)
  pub valueless_none : IfTold s (λ image. (input : Input) → IsInput from image input → to ≡ Wkb → (AllByRecursion HasValue input.features → ⊥)
      → (o' ≡ o) × OnOk result ⊥)
  pub broken : IfTold s (λ image. (IsAccepted from image → ⊥) → (o' ≡ o) × OnOk result ⊥)
  pub part : IfTold s (λ image. (input : Input) → IsInput from image input → WritesConversionPart to input o o')
  pub accepted : IfTold s (λ image. (input : Input) → IsInput from image input → IsConvertible to input → IfErr result IsFault)
  pub unrefused : IfTold s (λ image. (input : Input) → IsInput from image input → to ≡ Fgb → IfRefused result (λ _. ⊥))
  pub failed : IsErrOf result SourceFailed → Rose s.faults s'.faults
  pub sink_failed : IsErrOf result SinkFailed → Rose o.faults o'.faults

-- a fault is no refusal, and nothing that is too large
fault_unrefused : {T : Type 0} (r : Result T Stop) → IfErr r IsFault → IfRefused r (λ _. ⊥)
fault_unrefused (Ok done) fault = tt
fault_unrefused (Err (Refused broken)) fault = fault
fault_unrefused (Err SourceFailed) fault = tt
fault_unrefused (Err SinkFailed) fault = tt
fault_unrefused (Err Memory) fault = tt
fault_unrefused (Err TooLarge) fault = tt

-- one form is not the other
two_forms : Wkb ≢ Fgb
two_forms same = cc

fault_small : {T : Type 0} (r : Result T Stop) → IfErr r IsFault → r ≢ Err TooLarge
fault_small r fault large = subst (λ q. IfErr q IsFault) large fault

module _ {T : Type 0} (s s' : Source) (o o' e e' : Sink) (status : ℕ) (r : Result T Stop) (is : IsStatus r e e' status) where
  converts : (from to : Format) → Converted from to s s' o o' r → Converts from to s s' o o' e e' status
  converts from to q =
      let none : OnOk r ⊥ → status ≢ 0 = λ never zero. (at_done e e' status r ⊥ is never zero).0 in
      let unrefused : IfRefused r (λ _. ⊥) → status ≢ 1 = λ never one. (at_refused e e' status r _ is never one).2 in
      let unfailed_at : (Rose s.faults s'.faults → ⊥) → (Rose o.faults o'.faults → ⊥) → (status ≡ 0) ⊎ (status ≡ 1) ⊎ (status ≡ 5) ⊎ (status ≡ 6) =
      λ source sink. unfailed e e' status r is (λ failed. source (q.failed failed)) (λ failed. sink (q.sink_failed failed)) in
      record {
        done = λ zero. (at_done e e' status r _ is q.done zero).0;
        laid = λ zero. (at_done e e' status r _ is q.laid zero).0;
        quiet = λ zero. (at_done e e' status r _ is q.done zero).1;
        refused = λ one. ((at_refused e e' status r _ is q.unwritten one).2, at_refused e e' status r _ is q.refused one);
        source_failed = λ three. let at = at_source e e' status r is three in (q.failed at.0, at.1);
        sink_failed = λ four. let at = at_sink e e' status r is four in (q.sink_failed at.0, at.1);
        memory = at_memory e e' status r is;
        too_large = λ six. let at = at_large e e' status r is six in let left = q.too_large at.0 in (left.0, left.1.0, (at.1, left.1.1));
        statuses = statuses e e' status r is;
        part = q.part;
        large_none = λ image told input read fgb large. let left = q.large_none image told input read fgb large in (left.0, none left.1);
        valueless_none = λ image told input read wkb lacks. let left = q.valueless_none image told input read wkb lacks in (left.0, none left.1);
        broken_none = λ image told invalid. let left = q.broken image told invalid in (left.0, none left.1);
        valid_done = λ image told input read can source sink.
            let fault = q.accepted image told input read can in
            done_or_memory (unrefused (fault_unrefused r fault)) (λ six. fault_small r fault (at_large e e' status r is six).0) (unfailed_at source sink);
        large_done = λ image told input read fgb large source sink. large_or_memory
            (none (q.large_none image told input read fgb large).1)
            (unrefused (q.unrefused image told input read fgb))
            (unfailed_at source sink);
        valueless_done = λ image told input read wkb lacks source sink. refused_or_memory
            (none (q.valueless_none image told input read wkb lacks).1)
            (λ six. two_forms (sym wkb ∙ (q.too_large (at_large e e' status r is six).0).0))
            (unfailed_at source sink);
        broken_done = λ image told invalid source sink. refused_or_memory
            (none (q.broken image told invalid).1)
            (λ six. invalid ((q.too_large (at_large e e' status r is six).0).1.1 image told).0)
            (unfailed_at source sink);
      }

  -- the promise at what the words ask for
  pub does_convert : (file : Named) (from to : Format) (request : Request) → Converted from to s s' o o' r → convert file from to ≡ request → (status ≢ 2) × Does request s s' o o' e e' status
  does_convert file from to request q same = (not_usage e e' status r is, subst (λ asked. Does asked s s' o o' e e' status) same (converts from to q))
