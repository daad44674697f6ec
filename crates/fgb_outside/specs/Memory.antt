-- What the forms in memory hold, as a contract sees them.
use Rattle.std.specs.Prelude.{ℕ, ◌+◌, ◌-◌, ◌^◌, min, List, length, Option, Some, None}
use Rattle.fgb_outside.specs.Source.{Source}
use Rattle.fgb_outside.specs.Sink.{Sink}

-- a count of 64 bits, one higher
abbrev pub counted : ℕ → ℕ
counted n = min (n + 1) (2 ^ 64 - 1)

-- a source in memory: its bytes, the numbers of the calls that fail, and how many calls there were
pub record Served : Type 0 where
  pub image : List ℕ
  pub fail : List ℕ
  pub asked : Option (List (ℕ × ℕ))
  pub calls : ℕ
  pub faults : ℕ

abbrev pub source_of : Served → Source
source_of s = record { image = Some s.image; asked = s.asked; size = length s.image; faults = s.faults }

-- a source that keeps no list and never fails
abbrev pub plain_source : List ℕ → Source
plain_source bytes = record { image = Some bytes; asked = None; size = length bytes; faults = 0 }

-- a sink in memory: what it took, the numbers of the calls that fail, and how many calls there were
pub record Taken : Type 0 where
  pub bytes : List ℕ
  pub fail : List ℕ
  pub calls : ℕ
  pub faults : ℕ
  pub wants : ℕ

abbrev pub sink_of : Taken → Sink
sink_of s = record { written = Some s.bytes; faults = s.faults; wants = s.wants }
