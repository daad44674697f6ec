-- A file that is made in memory.
use Rattle.std.specs.Prelude.{◌≡◌, ℕ, List, Option, Some}
use Rattle.level_bounds.specs.Levels.{Shape}
use Rattle.fgb_outside.specs.Sink.{Sink}
use Rattle.fgb_file.specs.File.{IsFile, nodes_of}
use Rattle.make_command.specs.Made.{IsMadeFile}

-- what a sink in memory shows that never fails: the bytes that it has, and how often it found no memory for more
abbrev pub kept : List ℕ → ℕ → Sink
kept bytes wants = record { written = Some bytes; faults = 0; wants = wants }

-- the file that is made, which breaks no rule, and has so many nodes
pub record IsPacked (count start : ℕ) (bytes : List ℕ) (nodes : ℕ) : Type 0 where
  pub index : Option Shape
  pub pieces : List (List ℕ)
  pub file : IsMadeFile count start bytes index pieces
  pub sound : IsFile bytes index pieces
  pub counted : nodes ≡ nodes_of index
