-- Why a check and a packing stop.
use Rattle.std.specs.Prelude.{◌≡◌}
use Rattle.fgb_check.specs.declared.verdict.CheckError.{CheckError}
use Rattle.fgb_check.specs.declared.verdict.CheckError.TheVariants as check_error
use Rattle.fgb_pack.specs.declared.done.PackError.{PackError}
use Rattle.fgb_pack.specs.declared.done.PackError.TheVariants as pack_error
use Rattle.command_words.specs.declared.stop.Stop.{Stop}
use Rattle.command_words.specs.declared.stop.Stop.TheVariants.{Refused, SourceFailed, SinkFailed, Memory, TooLarge}

-- what an error of a check stops the work as
abbrev pub IsCheckCause : CheckError → Stop → Type 0
IsCheckCause check_error.SourceFailed stop = stop ≡ SourceFailed
IsCheckCause check_error.Memory stop = stop ≡ Memory

-- what an error of a packer stops the work as
abbrev pub IsPackCause : PackError → Stop → Type 0
IsPackCause (pack_error.Refused broken) stop = stop ≡ Refused broken
IsPackCause pack_error.SourceFailed stop = stop ≡ SourceFailed
IsPackCause pack_error.SinkFailed stop = stop ≡ SinkFailed
IsPackCause pack_error.TooLarge stop = stop ≡ TooLarge
IsPackCause pack_error.Memory stop = stop ≡ Memory
