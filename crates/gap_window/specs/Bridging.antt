-- A window over a section that asks for short holes, too.
use Rattle.std.specs.Prelude.{◌≡◌, ℕ, ◌+◌, ◌-◌, ◌≤◌, ◌<◌, ◌&&◌, ◌||◌, nat_le, nat_lt, if◌then◌else◌, Bool, true, length, Option, Some, None}
use Rattle.std.specs.List.{range_with_len}
use Rattle.fgb_outside.specs.Source.{Source}
use Rattle.fgb_outside.specs.Asked.{Reads, ReadsFront}
use Rattle.section_window.specs.Window.{Held, ahead, passed, IsPiece}

-- what it holds, how long a hole must be not to be asked for, and whether a byte was asked for
pub record Bridging : Type 0 where
  pub held : Held
  pub gap : ℕ
  pub begun : Bool

-- n bytes on
abbrev pub gone : Bridging → ℕ → Bridging
gone w n = record { held = passed w.held n; gap = w.gap; begun = w.begun }

-- the place behind the last byte that was asked for
abbrev pub last_asked : Bridging → Option ℕ
last_asked w = if w.begun then Some (ahead w.held) else None

-- no hole that is to stay lies between what was asked for and this place
unfoldable pub is_near : Bridging → ℕ → Bool
is_near w to = nat_le to (ahead w.held) || (w.begun && nat_lt (to - ahead w.held) w.gap)

-- to have the bytes from this place on, it asks from here on: behind what was asked for, or from the place itself
unfoldable pub asks_from : Bridging → ℕ → ℕ
asks_from w to = if is_near w to then ahead w.held else to

-- it went on to this place and asked for what lay between, by requests of 1 MiB, or up to `until`
pub record Reaches (old new : Bridging) (s s' : Source) (to want until : ℕ) : Type 0 where
  pub at : new.held.at ≡ to
  pub end : new.held.end ≡ old.held.end
  pub gap : new.gap ≡ old.gap
  pub begun : new.begun ≡ true
  pub enough : want ≤ length new.held.bytes
  pub on : asks_from old to ≤ ahead new.held
  pub reads : Reads (IsPiece old.held.at until) s s' (range_with_len (asks_from old to) (ahead new.held - asks_from old to))
  pub idle : to + want ≤ ahead old.held → ahead new.held ≡ ahead old.held
  pub before : ahead old.held < to + want → ahead new.held ≤ until

-- it stands where it stood, holding no more
pub record Stays (old new : Bridging) : Type 0 where
  pub at : new.held.at ≡ old.held.at
  pub end : new.held.end ≡ old.held.end
  pub gap : new.gap ≡ old.gap
  pub begun : new.begun ≡ old.begun
  pub no_more : length new.held.bytes ≤ length old.held.bytes

-- a front of what lies up to `until` was asked for
abbrev pub ReachesPart : Bridging → Source → Source → ℕ → ℕ → Type 0
ReachesPart old s s' to until = ReadsFront (IsPiece old.held.at until) s s' (range_with_len (asks_from old to) (until - asks_from old to))
