-- Why copying stops.
use Rattle.std.specs.Prelude.{◌≡◌}
use Rattle.fgb_outside.specs.declared.sources.SourceError.{SourceError}
use Rattle.fgb_outside.specs.declared.sources.SourceError.TheVariants as source_error
use Rattle.fgb_outside.specs.declared.sinks.SinkError.{SinkError}
use Rattle.fgb_outside.specs.declared.sinks.SinkError.TheVariants as sink_error
use Rattle.feature_spans.specs.declared.copy.CopyError.{CopyError}
use Rattle.feature_spans.specs.declared.copy.CopyError.TheVariants.{SourceFailed, SinkFailed, Memory}

-- what an error of a source, and of a sink, stops it as
abbrev pub IsSourceCause : SourceError → CopyError → Type 0
IsSourceCause source_error.Failed error = error ≡ SourceFailed
IsSourceCause source_error.Memory error = error ≡ Memory

abbrev pub IsSinkCause : SinkError → CopyError → Type 0
IsSinkCause sink_error.Failed error = error ≡ SinkFailed
IsSinkCause sink_error.Memory error = error ≡ Memory
