-- How a file is asked for: each position once, in order, by few requests inside the sections that may be asked for.
use Rattle.std.specs.Prelude.{◌≡◌, ℕ, ◌+◌, ◌-◌, ◌/◌, ◌≤◌, List, length, Some}
use Rattle.std.specs.List.{range_with_len}
use Rattle.fgb_outside.specs.Source.{Source}
use Rattle.fgb_outside.specs.Asked.{Reads, ReadsFront}
use Rattle.fgb_file.specs.File.{header_size, header_end, IsDeclared}

-- so many requests at most, where what was asked is told
abbrev pub AsksAtMost : ℕ → Source → Source → Type 0
AsksAtMost most old new = (before now : List (ℕ × ℕ)) → old.asked ≡ Some before → new.asked ≡ Some now → length now ≤ length before + most

-- the started MiB of so many bytes
abbrev pub mebibytes : ℕ → ℕ
mebibytes n = (n + 1048575) / 1048576

-- one request for the start, and one for each started MiB of the header and of the features
abbrev pub requests : List ℕ → ℕ
requests image = 1 + mebibytes (header_size image) + mebibytes (length image - header_end image)

-- each position of the file was asked for once, in order, by so many requests inside the sections that may be asked for
pub record AsksAll (image : List ℕ) (s s' : Source) : Type 0 where
  pub reads : Reads (IsDeclared image) s s' (range_with_len 0 (length image))
  pub few : AsksAtMost (requests image) s s'

-- a front of these positions was asked for, by such pairs
abbrev pub AsksFront : List ℕ → Source → Source → Type 0
AsksFront image s s' = ReadsFront (IsDeclared image) s s' (range_with_len 0 (length image))
