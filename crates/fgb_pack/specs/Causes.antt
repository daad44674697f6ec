-- Why packing stops.
use Rattle.std.specs.Prelude.{◌≡◌, ⊤, Result, IfErr}
use Rattle.flat_layout.specs.declared.Broken.{Broken}
use Rattle.flat_builder.specs.declared.error.BuildError.{BuildError}
use Rattle.flat_builder.specs.declared.error.BuildError.TheVariants as build_error
use Rattle.fgb_outside.specs.declared.sinks.SinkError.{SinkError}
use Rattle.fgb_outside.specs.declared.sinks.SinkError.TheVariants as sink_error
use Rattle.read_stop.specs.declared.stop.ReadStop.{ReadStop}
use Rattle.read_stop.specs.declared.stop.ReadStop.TheVariants as read_stop
use Rattle.fgb_check.specs.declared.verdict.CheckError.{CheckError}
use Rattle.fgb_check.specs.declared.verdict.CheckError.TheVariants as check_error
use Rattle.feature_spans.specs.declared.copy.CopyError.{CopyError}
use Rattle.feature_spans.specs.declared.copy.CopyError.TheVariants as copy_error
use Rattle.fgb_pack.specs.declared.done.PackError.{PackError}
use Rattle.fgb_pack.specs.declared.done.PackError.TheVariants.{Refused, SourceFailed, SinkFailed, TooLarge, Memory}

-- what an error of a check, of reading, of laying a header, of a sink and of copying stops it as
abbrev pub IsCheckCause : CheckError → PackError → Type 0
IsCheckCause check_error.SourceFailed error = error ≡ SourceFailed
IsCheckCause check_error.Memory error = error ≡ Memory

abbrev pub IsReadCause : ReadStop → PackError → Type 0
IsReadCause (read_stop.Refused broken) error = error ≡ Refused broken
IsReadCause read_stop.SourceFailed error = error ≡ SourceFailed
IsReadCause read_stop.Memory error = error ≡ Memory

abbrev pub IsBuildCause : BuildError → PackError → Type 0
IsBuildCause build_error.Memory error = error ≡ Memory
IsBuildCause build_error.TooLarge error = error ≡ TooLarge

abbrev pub IsSinkCause : SinkError → PackError → Type 0
IsSinkCause sink_error.Failed error = error ≡ SinkFailed
IsSinkCause sink_error.Memory error = error ≡ Memory

abbrev pub IsCopyCause : CopyError → PackError → Type 0
IsCopyCause copy_error.SourceFailed error = error ≡ SourceFailed
IsCopyCause copy_error.SinkFailed error = error ≡ SinkFailed
IsCopyCause copy_error.Memory error = error ≡ Memory

-- P of the refusal, where it was refused
abbrev pub AtRefusal : PackError → (Broken → Type 0) → Type 0
AtRefusal (Refused broken) P = P broken
AtRefusal SourceFailed P = ⊤
AtRefusal SinkFailed P = ⊤
AtRefusal TooLarge P = ⊤
AtRefusal Memory P = ⊤

abbrev pub IfRefused : {T : Type 0} → Result T PackError → (Broken → Type 0) → Type 0
IfRefused result P = IfErr result (λ error. AtRefusal error P)
