-- Why reading stops.
use Rattle.std.specs.Prelude.{◌≡◌, ⊤, Result, IfErr}
use Rattle.flat_layout.specs.declared.Broken.{Broken}
use Rattle.fgb_outside.specs.declared.sources.SourceError.{SourceError}
use Rattle.fgb_outside.specs.declared.sources.SourceError.TheVariants as source_error
use Rattle.read_stop.specs.declared.stop.ReadStop.{ReadStop}
use Rattle.read_stop.specs.declared.stop.ReadStop.TheVariants.{Refused, SourceFailed, Memory}

-- what an error of a source stops reading as
abbrev pub IsCause : SourceError → ReadStop → Type 0
IsCause source_error.Failed stop = stop ≡ SourceFailed
IsCause source_error.Memory stop = stop ≡ Memory

-- P of the refusal, where reading was refused
abbrev pub AtRefusal : ReadStop → (Broken → Type 0) → Type 0
AtRefusal (Refused broken) P = P broken
AtRefusal SourceFailed P = ⊤
AtRefusal Memory P = ⊤

abbrev pub IfRefused : {T : Type 0} → Result T ReadStop → (Broken → Type 0) → Type 0
IfRefused result P = IfErr result (λ stop. AtRefusal stop P)
