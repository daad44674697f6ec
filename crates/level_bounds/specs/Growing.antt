-- Levels that are counted from the leaves up.
use Rattle.std.specs.Prelude.{◌≡◌, ℕ, ◌-◌, ◌^◌, ◌<◌, ◌≤◌, ◌⊎◌, List, length, slice_index}
use Rattle.std.specs.Int.{div_ceil}
use Rattle.level_bounds.specs.Levels.{node_count}
use Rattle.level_bounds.specs.Cut.{up_to}

-- so many levels are counted, the last of which has so many nodes
pub record IsGrown (leaves node_size count last : ℕ) (through : List ℕ) : Type 0 where
  pub some : 1 ≤ count
  pub few : count ≤ 44
  pub width : last ≡ div_ceil leaves (node_size ^ (count - 1))
  pub wider : (k : ℕ) → 1 ≤ k → k < count - 1 → 1 < div_ceil leaves (node_size ^ k)
  pub sums : (k : ℕ) → k < count → slice_index through k ≡ node_count (up_to leaves node_size k)
  pub long : length through ≡ 49
  pub within : slice_index through (count - 1) ≤ 7036874417766

-- the last of so many levels is that of the leaves, or has two nodes
abbrev pub IsBelowRoot : ℕ → ℕ → Type 0
IsBelowRoot count last = (count ≡ 1) ⊎ (1 < last)
