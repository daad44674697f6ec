-- What is read before the features.
use Rattle.std.specs.Prelude.{◌≡◌, ℕ, ◌^◌, ◌≤◌, List, Option, MatchOption, take}
use Rattle.fgb_outside.specs.Asked.{IsInside}
use Rattle.fgb_file.specs.File.{magic, Differs}

-- a part of the start of a source of this size, which has a start
pub record IsOfStart (size : ℕ) (pair : ℕ × ℕ) : Type 0 where
  pub short : size ≤ 2 ^ 48
  pub long : 12 ≤ size
  pub inside : IsInside 0 12 pair

-- the first magic byte that differs, if one does
abbrev pub ShowsMagic : List ℕ → Option ℕ → Type 0
ShowsMagic bytes result = MatchOption result (take 7 bytes ≡ magic) (Differs bytes)
