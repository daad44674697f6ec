-- Nodes between whose children no hole is to stay.
use Rattle.std.specs.Prelude.{◌≡◌, ℕ, ◌-◌, ◌*◌, ◌<◌, ◌==◌, ◌||◌, nat_lt, Bool, true, false, List, [], ◌∷◌, length, slice_index}
use Rattle.level_bounds.specs.Levels.{Shape, first_child, children_end}

-- the bytes between the children of two nodes of level k + 1
abbrev pub hole_between : Shape → ℕ → ℕ → ℕ → ℕ
hole_between t k i j = 40 * (first_child t j - children_end t k i)

-- there are none, or fewer than the gap
abbrev pub is_near : Shape → ℕ → ℕ → ℕ → ℕ → Bool
is_near t k gap i j = hole_between t k i j == 0 || nat_lt (hole_between t k i j) gap

-- so it is between each of these nodes and the next
abbrev pub AreNear : Shape → ℕ → ℕ → List ℕ → Type 0
AreNear t k gap [] = Unit {0}
AreNear t k gap (i ∷ []) = Unit {0}
AreNear t k gap (i ∷ j ∷ rest) = (is_near t k gap i j ≡ true) × AreNear t k gap (j ∷ rest)

-- in front of the n-th a hole stays
abbrev pub StaysBefore : Shape → ℕ → ℕ → List ℕ → ℕ → Type 0
StaysBefore t k gap nodes n = n < length nodes → is_near t k gap (slice_index nodes (n - 1)) (slice_index nodes n) ≡ false

-- where the children of the last of them end
abbrev pub ends_at : Shape → ℕ → List ℕ → ℕ
ends_at t k [] = 0
ends_at t k (i ∷ []) = children_end t k i
ends_at t k (i ∷ j ∷ rest) = ends_at t k (j ∷ rest)
