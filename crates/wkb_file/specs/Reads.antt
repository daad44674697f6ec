-- What is read of bytes, as what is read of a source.
use Rattle.std.specs.Prelude.{◌≡◌, ⊤, Result, Ok, Err}
use Rattle.read_stop.specs.declared.stop.ReadStop.{ReadStop}
use Rattle.read_stop.specs.declared.stop.ReadStop.TheVariants as stop
use Rattle.wkb_writer.specs.declared.error.WkbError.{WkbError}
use Rattle.wkb_writer.specs.declared.error.WkbError.TheVariants.{Memory, Refused}

-- the same was read, or reading stops for the same reason
abbrev pub IsRead : {T : Type 0} → Result T WkbError → Result T ReadStop → Type 0
IsRead (Ok x) result = result ≡ Ok x
IsRead (Err Memory) result = result ≡ Err stop.Memory
IsRead (Err (Refused broken)) result = result ≡ Err (stop.Refused broken)

-- the source failed, or there was no memory
abbrev pub IsFault : ReadStop → Type 0
IsFault (stop.Refused broken) = ⊥
IsFault stop.SourceFailed = ⊤
IsFault stop.Memory = ⊤
