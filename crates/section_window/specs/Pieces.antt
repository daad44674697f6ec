-- How far a section was read into a buffer.
use Rattle.std.specs.Prelude.{◌≡◌, ℕ, ◌+◌, ◌-◌, ◌≤◌, List, length, take, slice_range}
use Rattle.std.specs.List.{range_with_len}
use Rattle.fgb_outside.specs.Source.{Source, IfTold}
use Rattle.fgb_outside.specs.Asked.{Reads}
use Rattle.section_window.specs.Window.{IsPiece}

-- the bytes from `at` on, so many of them, stand at the front of the buffer
abbrev pub StandsIn : Source → List ℕ → ℕ → ℕ → Type 0
StandsIn source buffer at n = IfTold source (λ image. take n buffer ≡ slice_range image at (at + n))

-- a buffer held so many of the bytes from `at` on, and holds more of them now, as far as `till`
pub record ReadTo (old new : Source) (was buffer : List ℕ) (held till at end : ℕ) : Type 0 where
  pub reached : held ≤ till
  pub within : at + till ≤ end
  pub room : till ≤ length buffer
  pub front : take held buffer ≡ take held was
  pub bytes : StandsIn new buffer at till
  pub reads : Reads (IsPiece at end) old new (range_with_len (at + held) (till - held))
