-- Which positions are asked for where short holes are filled, and by how many requests.
use Rattle.std.specs.Prelude.{ℕ, ◌+◌, ◌-◌, ◌/◌, ◌≤◌, nat_lt, if◌then◌else◌, List, [], ◌∷◌, ◌++◌, length, Option, Some, None}
use Rattle.std.specs.List.{range_with_len}
use Rattle.fgb_outside.specs.Source.{Source}
use Rattle.fgb_outside.specs.Asked.{Reads}

-- the positions between the last one that was asked for, behind which `from` stands, and this one, where they are
-- fewer than `gap`; in front of the first one there is no hole
abbrev pub hole : ℕ → Option ℕ → ℕ → List ℕ
hole gap None to = []
hole gap (Some from) to = if nat_lt (to - from) gap then range_with_len from (to - from) else []

-- rising positions, each behind its hole
abbrev pub bridged_behind : ℕ → Option ℕ → List ℕ → List ℕ
bridged_behind gap last [] = []
bridged_behind gap last (x ∷ xs) = hole gap last x ++ x ∷ bridged_behind gap (Some (x + 1)) xs

-- rising positions with the holes between them that are shorter than `gap`
unfoldable pub bridged : ℕ → List ℕ → List ℕ
bridged gap xs = bridged_behind gap None xs

-- where the next position would stand behind these
abbrev pub behind : Option ℕ → List ℕ → Option ℕ
behind last [] = last
behind last (x ∷ xs) = behind (Some (x + 1)) xs

-- so many requests of 1 MiB take n bytes
unfoldable pub piece_count : ℕ → ℕ
piece_count n = (n + 1048575) / 1048576

-- just these positions were asked for, in this order, by so many pairs at most, each of which has P
pub record ReadsWithin (P : ℕ × ℕ → Type 0) (most : ℕ) (old new : Source) (asked : List ℕ) : Type 0 where
  pub reads : Reads P old new asked
  pub few : length reads.pairs ≤ most
