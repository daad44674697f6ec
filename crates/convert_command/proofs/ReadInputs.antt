-- An input that is read.
use Rattle.std.proofs.Common.{◌≡◌, ◌∙◌, ℕ, List, length, Option, Some, Result, Ok, Err, IsErrAnd, sym, ap, subst}
use Rattle.std.specs.Prelude.{IfErr, IfOk, OnOk, IsErrOf}
use Rattle.std.specs.List.{All, AllByRecursion}
use Rattle.std.proofs.lemmas.List.{length-map}
use Rattle.level_bounds.specs.Levels.{Shape as Tree}
use Rattle.flat_layout.specs.declared.Broken.{Broken}
use Rattle.fgb_schema.specs.Shapes.{Shape}
use Rattle.fgb_outside.specs.Source.{Source, IfTold, Rose}
use Rattle.fgb_file.specs.File.{BreaksFirst, IsFile, IsValid}
use Rattle.fgb_file.proofs.Passing.{first_invalid}
use Rattle.feature_tables.specs.Records.{Fits}
use Rattle.feature_info.specs.Records.{bare}
use Rattle.read_stop.specs.Stops.{AtRefusal, IfRefused}
use Rattle.read_stop.specs.declared.stop.ReadStop.{ReadStop}
use Rattle.read_stop.specs.declared.stop.ReadStop.TheVariants.{Refused, SourceFailed, Memory}
use Rattle.owned_features.specs.Owned.{IsSound, Owns}
use Rattle.owned_features.specs.declared.file.OwnedFile.{OwnedFile}
use Rattle.shape_features.specs.Features.{features_over, header_over}
use Rattle.wkb_file.specs.Broken.{BreaksWkbFile}
use Rattle.wkb_file.specs.Reads.{IsFault}
use Rattle.wkb_file.specs.Spellings.{HasWkb}
use Rattle.wkb_file.specs.Values.{IsWkbFile}
use Rattle.wkb_features.specs.Values.{HasValue}
use Rattle.command_words.specs.declared.format.Format.{Format}
use Rattle.command_words.specs.declared.format.Format.TheVariants.{Fgb, Wkb}
use Rattle.convert_command.specs.Inputs.{BreaksInput}
use Rattle.convert_command.specs.Steps.{IsHeld, Reads}
use Rattle.convert_command.proofs.Inputs.{values_over}

-- ## A FlatGeobuf file

held_file : (s : Source) (r : Result OwnedFile ReadStop)
    → IfOk r (λ file. IfTold s (λ image. (index : Option Tree) (pieces : List (List ℕ)) → IsFile image index pieces → Owns image index pieces file))
    → OnOk r (IfTold s IsValid) → IfOk r (λ owned. IfTold s (λ image. IsHeld Fgb image owned))
held_file s (Ok owned) owns valid = λ image told. record {
  accepted = valid image told;
  holds = λ input is.
      let same = owns image told is.index is.pieces is.file in
      record { header = same.header ∙ sym is.header; features = same.features ∙ sym is.features; places = λ _. same.places ∙ sym is.places };
}
held_file s (Err stop) owns valid = tt

file_fault : (image : List ℕ) (stop : ReadStop) → IsValid image → AtRefusal stop (λ broken. BreaksFirst image broken) → IsFault stop
file_fault image (Refused broken) valid breaks = first_invalid image breaks valid
file_fault image SourceFailed valid breaks = tt
file_fault image Memory valid breaks = tt

told_refusal : (s : Source) (P : List ℕ → Broken → Type 0) (stop : ReadStop) (image : List ℕ) → AtRefusal stop (λ broken. IfTold s (λ told. P told broken))
    → s.image ≡ Some image → AtRefusal stop (P image)
told_refusal s P (Refused broken) image refused told = refused image told
told_refusal s P SourceFailed image refused told = tt
told_refusal s P Memory image refused told = tt

accepted_file : (s : Source) (r : Result OwnedFile ReadStop) → IfRefused r (λ broken. IfTold s (λ image. BreaksFirst image broken)) → IfTold s (λ image. IsValid image → IfErr r IsFault)
accepted_file s (Ok owned) refused image told valid = tt
accepted_file s (Err stop) refused image told valid = file_fault image stop valid (told_refusal s BreaksFirst stop image refused told)

no_values : (r : Result OwnedFile ReadStop) → IfOk r (λ owned. Fgb ≡ Wkb → AllByRecursion HasValue owned.features.items)
no_values (Ok owned) = λ never. absurd (cc never)
no_values (Err stop) = tt

pub reads_file : (s s' : Source) (r : Result OwnedFile ReadStop)
    → IfOk r (λ file. IfTold s (λ image. (index : Option Tree) (pieces : List (List ℕ)) → IsFile image index pieces → Owns image index pieces file))
    → OnOk r (IfTold s IsValid) → IfOk r IsSound → IfRefused r (λ broken. IfTold s (λ image. BreaksFirst image broken))
    → (IsErrOf r SourceFailed → Rose s.faults s'.faults) → Reads Fgb s s' r
reads_file s s' r owns valid sound refused failed = record {
  held = held_file s r owns valid;
  sound = sound;
  valued = no_values r;
  refused = refused;
  accepted = accepted_file s r refused;
  failed = failed;
}

-- ## A WKB file

-- there was no memory
pub reads_none : (from : Format) (s s' : Source) (r : Result OwnedFile ReadStop) → IsErrAnd r (λ stop. stop ≡ Memory) → Reads from s s' r
reads_none from s s' (Ok owned) is = absurd is
reads_none from s s' (Err stop) is = record {
  held = tt;
  sound = tt;
  valued = tt;
  refused = subst (λ x. AtRefusal x (λ broken. IfTold s (λ image. BreaksInput from image broken))) (sym is) tt;
  accepted = λ image told accepted. subst IsFault (sym is) tt;
  failed = λ failed. absurd (cc (is, failed));
}

-- it was not read
pub reads_stop : {T : Type 0} (s s' : Source) (r : Result OwnedFile ReadStop) (stop : ReadStop) → IsErrAnd r (λ x. x ≡ stop)
    → AtRefusal stop (λ broken. IfTold s (λ image. BreaksWkbFile image broken.place broken.rule))
    → IfTold s (λ image. (shapes : List Shape) → IsWkbFile shapes image → IsFault stop)
    → (◌≡◌ {A = Result T ReadStop} (Err stop) (Err SourceFailed) → Rose s.faults s'.faults) → Reads Wkb s s' r
reads_stop s s' (Ok owned) stop is refused faults failed = absurd is
reads_stop s s' (Err x) stop is refused faults failed = record {
  held = tt;
  sound = tt;
  valued = tt;
  refused = subst (λ y. AtRefusal y (λ broken. IfTold s (λ image. BreaksWkbFile image broken.place broken.rule))) (sym is) refused;
  accepted = λ image told values. subst IsFault (sym is) (faults image told values.0 values.1);
  failed = λ source. failed (cc (is, source));
}

-- it was read
pub reads_over : (s s' : Source) (owned : OwnedFile) (shapes : List Shape) → ((shapes others : List Shape) (bytes : List ℕ) → IsWkbFile shapes bytes → IsWkbFile others bytes → shapes ≡ others)
    → IfTold s (IsWkbFile shapes) → All HasWkb shapes → owned.header ≡ header_over shapes → owned.features.items ≡ features_over shapes
    → IsSound owned → Reads Wkb s s' (Ok owned)
reads_over s s' owned shapes one are spelled header features sound = record {
  held = λ image told. record {
    accepted = (shapes, are image told);
    holds = λ input is.
        let same : shapes ≡ is.shapes = one shapes is.shapes image (are image told) is.file in
        record {
          header = header ∙ ap header_over same ∙ sym is.header;
          features = features ∙ ap features_over same ∙ sym is.features;
          places = λ never. absurd (cc never);
        };
  };
  sound = sound;
  valued = λ _. subst (AllByRecursion HasValue) (sym features) (values_over shapes spelled);
  refused = tt;
  accepted = λ image told accepted. tt;
  failed = λ failed. absurd (cc failed);
}

-- features over shapes, as many places as shapes, and a header
pub sound_over : (owned : OwnedFile) (shapes : List Shape) → owned.header ≡ header_over shapes → owned.features.items ≡ features_over shapes → length owned.places.items ≡ length shapes
    → AllByRecursion (Fits (header_over shapes)) owned.features.items → IsSound owned
sound_over owned shapes header features places fits = record {
  each = places ∙ sym (ap length features ∙ length-map shapes (λ g. bare (Some g)));
  fits = subst (λ h. AllByRecursion (Fits h) owned.features.items) (sym header) fits;
}
