-- What a window over the features asks for where it goes on.
use Rattle.std.specs.Prelude.{◌≡◌, ◌⊎◌, ℕ, List, ◌++◌, length}
use Rattle.std.specs.List.{range_with_len}
use Rattle.fgb_outside.specs.Source.{Source}
use Rattle.fgb_outside.specs.Asked.{IsInside, Reads, ReadsFront, Ascends}
use Rattle.section_window.specs.Window.{Held, ahead}
use Rattle.hit_reader.specs.declared.section.Section.{Section}

-- positions that rise, from those on that had not been asked for, and in front of those that have not been asked for now
pub record Rises (section : Section) (w w' : Held) (s s' : Source) : Type 0 where
  pub rising : List ℕ
  pub rises : Ascends (ahead w) (ahead w') rising
  pub reads : Reads (IsInside section.first section.end) s s' rising

-- or a front of some up to the end
pub record RisesPart (section : Section) (w : Held) (s s' : Source) : Type 0 where
  pub rising : List ℕ
  pub rises : Ascends (ahead w) section.end rising
  pub reads : ReadsFront (IsInside section.first section.end) s s' rising

-- the positions of the bytes that are held
abbrev pub held_positions : Held → List ℕ
held_positions w = range_with_len w.at (length w.bytes)

-- no byte that is held is passed over on the way to this place
abbrev pub SkipsNothing : Held → ℕ → Type 0
SkipsNothing w target = (w.at ≡ target) ⊎ (length w.bytes ≡ 0)

-- what was held and what was asked for are these positions, and what is held now
pub record Covers (section : Section) (w w' : Held) (s s' : Source) (due : List ℕ) : Type 0 where
  pub asked : List ℕ
  pub reads : Reads (IsInside section.first section.end) s s' asked
  pub whole : held_positions w ++ asked ≡ due ++ held_positions w'

-- what was held and a front of what was asked for are these positions
pub record CoversPart (section : Section) (w : Held) (s s' : Source) (due : List ℕ) : Type 0 where
  pub asked : List ℕ
  pub reads : ReadsFront (IsInside section.first section.end) s s' asked
  pub whole : held_positions w ++ asked ≡ due
