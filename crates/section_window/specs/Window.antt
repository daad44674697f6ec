-- What a window over a section of a source holds.
use Rattle.std.specs.Prelude.{◌≡◌, ℕ, ◌+◌, ◌-◌, ◌≤◌, ◌<◌, min, List, ◌++◌, length, drop, slice_range}
use Rattle.fgb_outside.specs.Source.{Source, IfTold}

-- the place of the first byte that is held, the bytes held, and where the section ends
pub record Held : Type 0 where
  pub at : ℕ
  pub bytes : List ℕ
  pub end : ℕ

-- the bytes before here were asked for
abbrev pub ahead : Held → ℕ
ahead w = w.at + length w.bytes

-- n bytes on
abbrev pub passed : Held → ℕ → Held
passed w n = record { at = w.at + n; bytes = drop n w.bytes; end = w.end }

-- the bytes held are those of the source at that place, in a section that ends inside the source
pub record Shows (w : Held) (source : Source) : Type 0 where
  pub within : ahead w ≤ w.end
  pub inside : w.end ≤ source.size
  pub bytes : IfTold source (λ image. w.bytes ≡ slice_range image w.at (ahead w))

-- the same bytes, or more behind them
abbrev pub Grows : Held → Held → Type 0
Grows old new = (more : List ℕ) × (new.bytes ≡ old.bytes ++ more)

-- a request between these places that ends after 1 MiB or at the end
abbrev pub IsPiece : ℕ → ℕ → ℕ × ℕ → Type 0
IsPiece from end p = (from ≤ p.0) × (p.0 < end) × (p.1 ≡ min (end - p.0) 1048576)
