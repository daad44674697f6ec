-- What a window over the features asks for where it stays at its place.
use Rattle.std.specs.Prelude.{◌-◌, ◌≤◌}
use Rattle.std.specs.List.{range_with_len}
use Rattle.fgb_outside.specs.Source.{Source}
use Rattle.fgb_outside.specs.Asked.{Reads, ReadsFront}
use Rattle.section_window.specs.Window.{Held, IsPiece, ahead}

-- the positions between what it had asked for and what it has asked for now, by pieces of its section
pub record Fills (w w' : Held) (s s' : Source) : Type 0 where
  pub reads : Reads (IsPiece w.at w.end) s s' (range_with_len (ahead w) (ahead w' - ahead w))
  pub onward : ahead w ≤ ahead w'

-- a front of the positions that were left
abbrev pub FillsPart : Held → Source → Source → Type 0
FillsPart w s s' = ReadsFront (IsPiece w.at w.end) s s' (range_with_len (ahead w) (w.end - ahead w))
