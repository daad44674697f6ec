-- Why a conversion stops.
use Rattle.std.specs.Prelude.{◌≡◌}
use Rattle.read_stop.specs.declared.stop.ReadStop.{ReadStop}
use Rattle.read_stop.specs.declared.stop.ReadStop.TheVariants as read_stop
use Rattle.fgb_pack.specs.declared.done.PackError.{PackError}
use Rattle.fgb_pack.specs.declared.done.PackError.TheVariants as pack_error
use Rattle.wkb_features.specs.declared.error.ValuesError.{ValuesError}
use Rattle.wkb_features.specs.declared.error.ValuesError.TheVariants as values_error
use Rattle.command_words.specs.declared.stop.Stop.{Stop}
use Rattle.command_words.specs.declared.stop.Stop.TheVariants.{Refused, SourceFailed, SinkFailed, Memory, TooLarge}

-- what reading, laying a file and writing values stop it as
abbrev pub IsReadCause : ReadStop → Stop → Type 0
IsReadCause (read_stop.Refused broken) stop = stop ≡ Refused broken
IsReadCause read_stop.SourceFailed stop = stop ≡ SourceFailed
IsReadCause read_stop.Memory stop = stop ≡ Memory

abbrev pub IsLayCause : PackError → Stop → Type 0
IsLayCause (pack_error.Refused broken) stop = stop ≡ Refused broken
IsLayCause pack_error.SourceFailed stop = stop ≡ SourceFailed
IsLayCause pack_error.SinkFailed stop = stop ≡ SinkFailed
IsLayCause pack_error.TooLarge stop = stop ≡ TooLarge
IsLayCause pack_error.Memory stop = stop ≡ Memory

abbrev pub IsValuesCause : ValuesError → Stop → Type 0
IsValuesCause (values_error.Refused broken) stop = stop ≡ Refused broken
IsValuesCause values_error.SinkFailed stop = stop ≡ SinkFailed
IsValuesCause values_error.Memory stop = stop ≡ Memory
