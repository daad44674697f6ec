-- What an error of a sink stops writing as.
use Rattle.std.specs.Prelude.{◌≡◌}
use Rattle.fgb_outside.specs.declared.sinks.SinkError.{SinkError}
use Rattle.fgb_outside.specs.declared.sinks.SinkError.TheVariants as sink_error
use Rattle.wkb_features.specs.declared.error.ValuesError.{ValuesError}
use Rattle.wkb_features.specs.declared.error.ValuesError.TheVariants.{Memory, SinkFailed}

abbrev pub IsSinkCause : SinkError → ValuesError → Type 0
IsSinkCause sink_error.Failed error = error ≡ SinkFailed
IsSinkCause sink_error.Memory error = error ≡ Memory
