-- The order of the features in a packed file (FlatGeobuf, "Index"): along the Hilbert curve, from its end to its begin,
-- by the cells of the middles of their boxes.
use Rattle.std.specs.Prelude.{◌≡◌, ◌≢◌, ℕ, ◌+◌, ◌^◌, ◌<◌, List, length, fold, slice_index, slice_index_or, IsPermutation}
use Rattle.std.specs.List.{range_with_len}
use Rattle.order_keys.specs.declared.bounds.Bounds.{Bounds}
use Rattle.order_keys.specs.Boxes.{empty, join}
use Rattle.curve_order.specs.Cells.{IsCellOf}
use Rattle.curve_order.specs.Curve.{hilbert}

-- the box around all boxes; an empty one changes nothing
abbrev pub extent : List Bounds → Bounds
extent boxes = fold join empty boxes

-- where a box stands: the number of its cell, counted back from the curve's last, or behind all cells where it is empty
pub data IsRank (around b : Bounds) : ℕ → Type 0 where
  on_curve : (x y rank : ℕ) → b ≢ empty → IsCellOf b around (x, y) → rank + hilbert 16 x y + 1 ≡ 2 ^ 32 → IsRank around b rank
  nowhere : b ≡ empty → IsRank around b (2 ^ 32)

-- feature k comes before feature l: its box stands before the other's, or at the same rank its number is less
pub data ComesBefore (boxes : List Bounds) (k l : ℕ) : Type 0 where
  by_rank : (m n : ℕ) → IsRank (extent boxes) (slice_index_or boxes k empty) m → IsRank (extent boxes) (slice_index_or boxes l empty) n
      → m < n → ComesBefore boxes k l
  by_number : (m : ℕ) → IsRank (extent boxes) (slice_index_or boxes k empty) m → IsRank (extent boxes) (slice_index_or boxes l empty) m
      → k < l → ComesBefore boxes k l

-- these are the numbers of all features with these boxes, from 0 on, in their order
pub record IsOrder (boxes : List Bounds) (order : List ℕ) : Type 0 where
  pub all : IsPermutation (range_with_len 0 (length boxes)) order
  pub rises : (i : ℕ) → i + 1 < length order → ComesBefore boxes (slice_index order i) (slice_index order (i + 1))
