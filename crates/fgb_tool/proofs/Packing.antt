-- Why a packing stops.
use Rattle.std.proofs.Common.{◌≡◌, Result, Err}
use Rattle.fgb_pack.specs.declared.done.PackError.{PackError}
use Rattle.fgb_pack.specs.declared.done.PackError.TheVariants as pack_error
use Rattle.command_words.specs.declared.stop.Stop.{Stop}
use Rattle.command_words.specs.declared.stop.Stop.TheVariants.{TooLarge}
use Rattle.fgb_tool.specs.Causes.{IsPackCause}

-- it is too large only where the packer says so
pub large_by : {T U : Type 0} (error : PackError) (packed : Result U PackError) (stop : Stop) → packed ≡ Err error → IsPackCause error stop → ◌≡◌ {A = Result T Stop} (Err stop) (Err TooLarge)
    → packed ≡ Err pack_error.TooLarge
large_by (pack_error.Refused broken) packed stop was cause is = cc
large_by pack_error.SourceFailed packed stop was cause is = cc
large_by pack_error.SinkFailed packed stop was cause is = cc
large_by pack_error.TooLarge packed stop was cause is = cc
large_by pack_error.Memory packed stop was cause is = cc
