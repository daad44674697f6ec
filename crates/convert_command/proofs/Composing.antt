-- What a conversion leaves whose input was read.
use Rattle.std.proofs.Common.{◌≡◌, ℕ, List, Result, Ok, Err, refl, sym, subst}
use Rattle.std.specs.Prelude.{IfErr, OnOk}
use Rattle.std.specs.List.{AllByRecursion}
use Rattle.flat_layout.specs.declared.Broken.{Broken}
use Rattle.fgb_schema.specs.Headers.{Header}
use Rattle.fgb_schema.specs.Features.{Feature}
use Rattle.fgb_outside.specs.Source.{Source, IfTold}
use Rattle.fgb_outside.specs.Sink.{Sink}
use Rattle.owned_features.specs.declared.file.OwnedFile.{OwnedFile}
use Rattle.fgb_lay.specs.Laying.{HasNoRoom, IsLaid, laid_file}
use Rattle.wkb_features.specs.Refusals.{IsFirstWithout}
use Rattle.wkb_features.specs.Values.{AreValues, HasValue}
use Rattle.command_words.specs.Statuses.{AtRefusal, IfRefused}
use Rattle.command_words.specs.declared.format.Format.{Format}
use Rattle.command_words.specs.declared.format.Format.TheVariants.{Fgb, Wkb}
use Rattle.command_words.specs.declared.stop.Stop.{Stop}
use Rattle.command_words.specs.declared.stop.Stop.TheVariants.{Refused, SourceFailed, SinkFailed, Memory, TooLarge}
use Rattle.convert_command.specs.Conversions.{WritesConversion, WritesConversionPart, IsConversion, IsConvertible, IsFault, RefusesConversion, front, no_value, nothing}
use Rattle.convert_command.specs.Inputs.{Input, IsAccepted, IsInput}
use Rattle.convert_command.specs.Steps.{IsHeld, Reads, Writes, input_of}
use Rattle.convert_command.proofs.Inputs.{have_values, input_in, none_without}

-- more is known of a result
pub ok_map : {T E : Type 0} (r : Result T E) (P Q : Type 0) → (P → Q) → OnOk r P → OnOk r Q
ok_map (Ok x) P Q f p = f p
ok_map (Err e) P Q f p = tt

at_map : (stop : Stop) (P Q : Broken → Type 0) → ((e : Broken) → P e → Q e) → AtRefusal stop P → AtRefusal stop Q
at_map (Refused e) P Q f p = f e p
at_map SourceFailed P Q f p = tt
at_map SinkFailed P Q f p = tt
at_map Memory P Q f p = tt
at_map TooLarge P Q f p = tt

pub refused_map : {T : Type 0} (r : Result T Stop) (P Q : Broken → Type 0) → ((e : Broken) → P e → Q e) → IfRefused r P → IfRefused r Q
refused_map (Ok x) P Q f p = tt
refused_map (Err stop) P Q f p = at_map stop P Q f p

-- a header and features that are the same
both : (P : Header → List Feature → Type 0) (h k : Header) (fs gs : List Feature) → h ≡ k → fs ≡ gs → P h fs → P k gs
both P h k fs gs e d p = subst (P k) d (subst (λ x. P x fs) e p)

conversion_as : (to : Format) (input : Input) (owned : OwnedFile) (bytes : List ℕ) → owned.header ≡ input.header → owned.features.items ≡ input.features
    → IsConversion to (input_of owned) bytes → IsConversion to input bytes
conversion_as Fgb input owned bytes header features is = both (λ h fs. bytes ≡ laid_file h fs) owned.header input.header owned.features.items input.features header features is
conversion_as Wkb input owned bytes header features is = subst (λ fs. AreValues fs bytes) features is

-- the values of features, where each has one
written_values : (to : Format) (input : Input) (bytes : List ℕ) → to ≡ Wkb → IsConversion to input bytes → AllByRecursion HasValue input.features
written_values Fgb input bytes wkb is = absurd (cc wkb)
written_values Wkb input bytes wkb is = have_values input.features bytes is

convertible_values : (to : Format) (input : Input) → to ≡ Wkb → IsConvertible to input → AllByRecursion HasValue input.features
convertible_values Fgb input wkb is = absurd (cc wkb)
convertible_values Wkb input wkb is = is

convertible_room : (to : Format) (input : Input) → to ≡ Fgb → IsConvertible to input → HasNoRoom input.header input.features → ⊥
convertible_room Fgb input fgb is = is
convertible_room Wkb input fgb is = absurd (cc fgb)

-- a feature without a value is one of a FlatGeobuf file
refuses : (from to : Format) (image : List ℕ) (owned : OwnedFile) (broken : Broken) → IsHeld from image owned → (from ≡ Wkb → AllByRecursion HasValue owned.features.items) → to ≡ Wkb
    → IsFirstWithout owned.features.items owned.places.items broken → RefusesConversion from to image broken
refuses Fgb to image owned broken held valued wkb lacks =
    let found = input_in Fgb image held.accepted in
    let holds = held.holds found.input found.is in
    no_value refl wkb found.is
    (subst (λ places. IsFirstWithout found.input.features places broken) (holds.places refl)
    (subst (λ features. IsFirstWithout features owned.places.items broken) holds.features lacks))
refuses Wkb to image owned broken held valued wkb lacks = absurd (none_without owned.features.items owned.places.items broken lacks (valued refl))

module _ {T : Type 0} (from to : Format) (s s' : Source) (owned : OwnedFile) (o o' : Sink) (r : Result T Stop) (reads : Reads from s s' (Ok owned)) (writes : Writes to owned o o' r) where
  pub done : OnOk r (IfTold s (λ image. IsAccepted from image × ((input : Input) → IsInput from image input → WritesConversion to input o o')))
  done =
      ok_map r (WritesConversion to (input_of owned) o o') (IfTold s (λ image. IsAccepted from image × ((input : Input) → IsInput from image input → WritesConversion to input o o')))
      (λ converts image told.
      let held = reads.held image told in (
        held.accepted,
        λ input is.
            let holds = held.holds input is in
            record { bytes = converts.bytes; conversion = conversion_as to input owned converts.bytes holds.header holds.features converts.conversion; written = converts.written },
      ))
      writes.written

  pub laid : OnOk r (to ≡ Fgb → IfTold s (λ image. (input : Input) → IsInput from image input → IsLaid input.header input.features))
  laid =
      ok_map r (to ≡ Fgb → IsLaid owned.header owned.features.items) (to ≡ Fgb → IfTold s (λ image. (input : Input) → IsInput from image input → IsLaid input.header input.features))
      (λ file fgb image told input is.
      let holds = (reads.held image told).holds input is in
      both IsLaid owned.header input.header owned.features.items input.features holds.header holds.features (file fgb))
      writes.laid

  pub refused : IfRefused r (λ broken. IfTold s (λ image. RefusesConversion from to image broken))
  refused =
      refused_map r (λ broken. (to ≡ Wkb) × IsFirstWithout owned.features.items owned.places.items broken) (λ broken. IfTold s (λ image. RefusesConversion from to image broken))
      (λ broken lacks image told. refuses from to image owned broken (reads.held image told) reads.valued lacks.0 lacks.1)
      writes.refused

  pub too_large : r ≡ Err TooLarge → (to ≡ Fgb) × ((o' ≡ o) × IfTold s (λ image. IsAccepted from image × ((input : Input) → IsInput from image input → HasNoRoom input.header input.features)))
  too_large is =
      let large = writes.too_large is in (
        large.0,
        (
          large.1.1,
          λ image told.
              let held = reads.held image told in (
                held.accepted,
                λ input from_it.
                    let holds = held.holds input from_it in
                    both HasNoRoom owned.header input.header owned.features.items input.features holds.header holds.features large.1.0,
              ),
        ),
      )

  pub large_none : IfTold s (λ image. (input : Input) → IsInput from image input → to ≡ Fgb → HasNoRoom input.header input.features → (o' ≡ o) × OnOk r ⊥)
  large_none image told input is fgb room =
      let holds = (reads.held image told).holds input is in
      writes.large_none fgb (both HasNoRoom input.header owned.header input.features owned.features.items (sym holds.header) (sym holds.features) room)

  pub part : IfTold s (λ image. (input : Input) → IsInput from image input → WritesConversionPart to input o o')
  part image told input is =
      let holds = (reads.held image told).holds input is in
      elim writes.part [
        | nothing same ↦ nothing same
        | front bytes conversion written ↦ front bytes (conversion_as to input owned bytes holds.header holds.features conversion) written
      ]

  pub valueless_none : IfTold s (λ image. (input : Input) → IsInput from image input → to ≡ Wkb → (AllByRecursion HasValue input.features → ⊥) → (o' ≡ o) × OnOk r ⊥)
  valueless_none image told input is wkb none =
      let holds = (reads.held image told).holds input is in (
        elim (part image told input is) [
          | nothing same ↦ same
          | front bytes conversion written ↦ absurd (none (written_values to input bytes wkb conversion))
        ],
        ok_map r (WritesConversion to (input_of owned) o o') ⊥
            (λ converts. none (written_values to input converts.bytes wkb (conversion_as to input owned converts.bytes holds.header holds.features converts.conversion)))
            writes.written,
      )

  pub broken : IfTold s (λ image. (IsAccepted from image → ⊥) → (o' ≡ o) × OnOk r ⊥)
  broken image told none = absurd (none (reads.held image told).accepted)

  pub unrefused : IfTold s (λ image. (input : Input) → IsInput from image input → to ≡ Fgb → IfRefused r (λ _. ⊥))
  unrefused image told input is fgb =
      refused_map r (λ broken. (to ≡ Wkb) × IsFirstWithout owned.features.items owned.places.items broken) (λ _. ⊥)
      (λ broken lacks. cc (fgb, lacks.0))
      writes.refused

-- only faults
at_fault : {T : Type 0} (to : Format) (input : Input) (owned : OwnedFile) (o o' : Sink) (stop : Stop) → owned.header ≡ input.header → owned.features.items ≡ input.features
    → IsConvertible to input → Writes {T = T} to owned o o' (Err stop) → IsFault stop
at_fault to input owned o o' (Refused broken) header features can writes =
    none_without owned.features.items owned.places.items broken writes.refused.1 (subst (AllByRecursion HasValue) (sym features) (convertible_values to input writes.refused.0 can))
at_fault to input owned o o' SourceFailed header features can writes = tt
at_fault to input owned o o' SinkFailed header features can writes = tt
at_fault to input owned o o' Memory header features can writes = tt
at_fault to input owned o o' TooLarge header features can writes =
    let large = writes.too_large refl in
    convertible_room to input large.0 can (both HasNoRoom owned.header input.header owned.features.items input.features header features large.1.0)

pub accepted : {T : Type 0} (from to : Format) (s s' : Source) (owned : OwnedFile) (o o' : Sink) (r : Result T Stop) → Reads from s s' (Ok owned) → Writes to owned o o' r
    → IfTold s (λ image. (input : Input) → IsInput from image input → IsConvertible to input → IfErr r IsFault)
accepted from to s s' owned o o' (Ok x) reads writes image told input is can = tt
accepted from to s s' owned o o' (Err stop) reads writes image told input is can =
    let holds = (reads.held image told).holds input is in
    at_fault to input owned o o' stop holds.header holds.features can writes
