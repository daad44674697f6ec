-- The Hilbert curve through a square of 2^b by 2^b cells, by its four quarters.
use Rattle.std.specs.Prelude.{◌≡◌, ◌⊎◌, ℕ, zero, suc, ◌+◌, ◌-◌, ◌*◌, ◌^◌, ◌<◌, nat_lt, if◌then◌else◌}

-- a cell of the square
pub record IsCell (b x y : ℕ) : Type 0 where
  pub in_x : x < 2 ^ b
  pub in_y : y < 2 ^ b

-- its number along the curve, from 0 on: the curve goes through the lower left quarter with x and y exchanged, then
-- through the upper left and the upper right as they are, and through the lower right turned about the other diagonal
unfoldable pub hilbert : ℕ → ℕ → ℕ → ℕ
hilbert zero x y = 0
hilbert (suc b) x y =
    if nat_lt x (2 ^ b) then
    (if nat_lt y (2 ^ b) then hilbert b y x else 2 ^ b * 2 ^ b + hilbert b x (y - 2 ^ b))
    else
    (if nat_lt y (2 ^ b) then 3 * (2 ^ b * 2 ^ b) + hilbert b (2 ^ b - 1 - y) (2 ^ b - 1 - (x - 2 ^ b))
    else 2 * (2 ^ b * 2 ^ b) + hilbert b (x - 2 ^ b) (y - 2 ^ b))

-- the cells differ by 1 in x or in y, and not in the other
abbrev pub AreNeighbours : ℕ → ℕ → ℕ → ℕ → Type 0
AreNeighbours x y u v = ((y ≡ v) × ((u ≡ x + 1) ⊎ (x ≡ u + 1))) ⊎ ((x ≡ u) × ((v ≡ y + 1) ⊎ (y ≡ v + 1)))
