-- What a fault of a group is to a reader of the whole index.
use Rattle.std.proofs.Common.{◌≡◌, ℕ, List, ◌∷◌, Result, Ok, Err, IsErrAnd, sym, subst}
use Rattle.std.specs.Prelude.{OnOk}
use Rattle.flat_layout.specs.declared.Broken.{Broken}
use Rattle.fgb_outside.specs.Source.{Source, IfTold}
use Rattle.read_stop.specs.Stops.{AtRefusal}
use Rattle.read_stop.specs.declared.stop.ReadStop.{ReadStop}
use Rattle.read_stop.specs.declared.stop.ReadStop.TheVariants.{Refused, SourceFailed, Memory}
use Rattle.index_reader.specs.Parts.{IsFirstRead}

-- the exit of the `?` of a refusal
pub first_exit : {T : Type 0} (r : Result T ReadStop) (broken : Broken) (faults : List Broken) → IsErrAnd r (λ stop. stop ≡ Refused broken) → (rest : List Broken) × (faults ≡ broken ∷ rest) → IsFirstRead faults r
first_exit (Ok x) broken faults is first = absurd is
first_exit (Err stop) broken faults is first = subst (λ s. AtRefusal s (λ e. (rest : List Broken) × (faults ≡ e ∷ rest))) (sym is) first

-- what is said of a refusal where the bytes are told
pub refusal_told : (stop : ReadStop) (s : Source) (P : List ℕ → Broken → Type 0) → IfTold s (λ image. AtRefusal stop (P image)) → AtRefusal stop (λ e. IfTold s (λ image. P image e))
refusal_told (Refused e) s P told = told
refusal_told SourceFailed s P told = tt
refusal_told Memory s P told = tt

-- more is known where it went well
pub on_ok_map : {T E : Type 0} (r : Result T E) (P Q : Type 0) → (P → Q) → OnOk r P → OnOk r Q
on_ok_map (Ok x) P Q f p = f p
on_ok_map (Err e) P Q f p = tt
