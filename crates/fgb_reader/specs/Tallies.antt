-- Counting features.
use Rattle.std.specs.Prelude.{◌≡◌, ℕ, ◌+◌, ◌<◌, List, length, take}
use Rattle.std.specs.List.{concat}
use Rattle.fgb_file.specs.File.{told_count}
use Rattle.fgb_reader.specs.declared.tally.Tally.{Tally}

-- so many were counted
abbrev pub seen_of : Tally → ℕ
seen_of tally = tally.seen

-- these pieces of the file were counted, from its first feature on
pub record Counts (image : List ℕ) (first : ℕ) (pieces : List (List ℕ)) (tally : Tally) : Type 0 where
  pub told : tally.told ≡ told_count image
  pub seen : tally.seen ≡ length pieces
  -- the first of those that are too many
  pub surplus : told_count image < length pieces → tally.surplus ≡ first + length (concat (take (told_count image) pieces))
