-- What several reads ask of a source: which positions, by which pairs.
use Rattle.std.specs.Prelude.{◌≡◌, ℕ, ◌+◌, ◌≤◌, List, [], ◌∷◌, ◌++◌, IsSome}
use Rattle.std.specs.List.{AllByRecursion, flat_map, range_with_len}
use Rattle.fgb_outside.specs.Source.{Source, Keeps, added}

-- the positions that pairs (at, length) stand for, in order
abbrev pub positions : List (ℕ × ℕ) → List ℕ
positions pairs = flat_map (λ p. range_with_len p.0 p.1) pairs

-- the pair lies between these places
abbrev pub IsInside : ℕ → ℕ → ℕ × ℕ → Type 0
IsInside from to p = (from ≤ p.0) × (p.0 + p.1 ≤ to)

-- just these positions were asked for, in this order, by pairs that have P
pub record Reads (P : ℕ × ℕ → Type 0) (old new : Source) (asked : List ℕ) : Type 0 where
  pub keeps : Keeps old new
  pub pairs : List (ℕ × ℕ)
  pub asks : positions pairs ≡ asked
  pub allowed : AllByRecursion P pairs
  pub told : new.asked ≡ added old.asked pairs

-- a front of these positions was asked for, as far as what was asked is still told
pub record ReadsFront (P : ℕ × ℕ → Type 0) (old new : Source) (asked : List ℕ) : Type 0 where
  pub keeps : Keeps old new
  pub pairs : List (ℕ × ℕ)
  pub rest : List ℕ
  pub asks : positions pairs ++ rest ≡ asked
  pub allowed : AllByRecursion P pairs
  pub told : IsSome new.asked → new.asked ≡ added old.asked pairs

-- the positions rise, none twice, from low on and below high
abbrev pub Ascends : ℕ → ℕ → List ℕ → Type 0
Ascends low high [] = low ≤ high
Ascends low high (x ∷ xs) = (low ≤ x) × Ascends (x + 1) high xs
