-- The cell of the middle of a box, as a share of the way from an extent's min to its max, by keys.
use Rattle.std.specs.Prelude.{◌≡◌, ℕ, ℤ, pos, ◌+ℤ◌, ◌-ℤ◌, ◌*ℤ◌, ◌≤ℤ◌}
use Rattle.std.specs.Int.Signed.{◌<ℤ◌}
use Rattle.order_keys.specs.declared.bounds.Bounds.{Bounds}
use Rattle.order_keys.specs.Keys.{key_of}

-- c is the middle of the keys of two patterns, rounded down
pub record IsMiddle (min max : ℕ) (c : ℤ) : Type 0 where
  pub low : (pos 2 *ℤ c) ≤ℤ (key_of min +ℤ key_of max)
  pub high : (key_of min +ℤ key_of max) <ℤ ((pos 2 *ℤ c) +ℤ pos 2)

-- n is the share of the way at which that middle stands between two patterns, in 65,535ths, rounded down; 0 where they
-- have one key
pub record IsShare (min max from to n : ℕ) : Type 0 where
  pub middle : ℤ
  pub is_middle : IsMiddle min max middle
  pub flat : key_of from ≡ key_of to → n ≡ 0
  pub low : key_of from <ℤ key_of to → (pos n *ℤ (key_of to -ℤ key_of from)) ≤ℤ (pos 65535 *ℤ (middle -ℤ key_of from))
  pub high : key_of from <ℤ key_of to → (pos 65535 *ℤ (middle -ℤ key_of from)) <ℤ ((pos n +ℤ pos 1) *ℤ (key_of to -ℤ key_of from))

abbrev pub IsCellOf : Bounds → Bounds → ℕ × ℕ → Type 0
IsCellOf b extent cell =
    IsShare b.min_x.0 b.max_x.0 extent.min_x.0 extent.max_x.0 cell.0 × IsShare b.min_y.0 b.max_y.0 extent.min_y.0 extent.max_y.0 cell.1
