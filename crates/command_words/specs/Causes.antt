-- Why the work stops.
use Rattle.std.specs.Prelude.{◌≡◌}
use Rattle.text_query.specs.declared.error.TextError.{TextError}
use Rattle.text_query.specs.declared.error.TextError.TheVariants as text_error
use Rattle.fgb_outside.specs.declared.sinks.SinkError.{SinkError}
use Rattle.fgb_outside.specs.declared.sinks.SinkError.TheVariants as sink_error
use Rattle.command_words.specs.declared.stop.Stop.{Stop}
use Rattle.command_words.specs.declared.stop.Stop.TheVariants.{Refused, SourceFailed, SinkFailed, Memory, TooLarge}

-- what an error of a query that writes a text stops the work as
abbrev pub IsTextCause : TextError → Stop → Type 0
IsTextCause (text_error.Refused broken) stop = stop ≡ Refused broken
IsTextCause text_error.SourceFailed stop = stop ≡ SourceFailed
IsTextCause text_error.SinkFailed stop = stop ≡ SinkFailed
IsTextCause text_error.TooLarge stop = stop ≡ TooLarge
IsTextCause text_error.Memory stop = stop ≡ Memory

-- what an error of a sink stops the work as
abbrev pub IsSinkCause : SinkError → Stop → Type 0
IsSinkCause sink_error.Failed stop = stop ≡ SinkFailed
IsSinkCause sink_error.Memory stop = stop ≡ Memory
