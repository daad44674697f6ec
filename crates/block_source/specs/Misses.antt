-- Which visits of blocks miss, where the last used blocks are kept.
use Rattle.std.specs.Prelude.{ℕ, Bool, List, [], ◌∷◌, ◌++◌, if◌then◌else◌, take, nat_eq}
use Rattle.std.specs.List.{list_any}
use Rattle.std.specs.Set.{remove_key}

abbrev pub is_kept : ℕ → List ℕ → Bool
is_kept b kept = list_any (nat_eq b) kept

-- the numbers kept after a visit of b: it goes to the front, and where more than n would be kept, the last is dropped
abbrev pub kept_after : List ℕ → ℕ → ℕ → List ℕ
kept_after kept b n = if is_kept b kept then b ∷ remove_key (nat_eq b) kept else take n (b ∷ kept)

-- the visits of numbers that are not kept, where these are kept at first
abbrev pub misses_from : List ℕ → List ℕ → ℕ → List ℕ
misses_from kept [] n = []
misses_from kept (b ∷ visited) n =
    (if is_kept b kept then [] else b ∷ []) ++ misses_from (kept_after kept b n) visited n

-- the numbers kept after all of them
abbrev pub kept_from : List ℕ → List ℕ → ℕ → List ℕ
kept_from kept [] n = kept
kept_from kept (b ∷ visited) n = kept_from (kept_after kept b n) visited n

-- the same where none is kept at first
abbrev pub misses : List ℕ → ℕ → List ℕ
misses visited n = misses_from [] visited n
