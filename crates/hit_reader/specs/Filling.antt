-- What a window over the features asks for where it stays at its place.
use Rattle.std.specs.Prelude.{ℕ, ◌-◌, ◌≤◌}
use Rattle.std.specs.List.{range_with_len}
use Rattle.fgb_outside.specs.Source.{Source}
use Rattle.fgb_outside.specs.Asked.{IsInside, Reads, ReadsFront}
use Rattle.section_window.specs.Window.{Held, ahead}

-- the positions between what it had asked for and what it has asked for now
pub record Fills (w w' : Held) (s s' : Source) : Type 0 where
  pub reads : Reads (IsInside w.at w.end) s s' (range_with_len (ahead w) (ahead w' - ahead w))
  pub onward : ahead w ≤ ahead w'

-- a front of those up to this place
abbrev pub FillsPart : Held → ℕ → Source → Source → Type 0
FillsPart w till s s' = ReadsFront (IsInside w.at w.end) s s' (range_with_len (ahead w) (till - ahead w))
