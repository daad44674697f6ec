-- What the kept sums tell of the places.
use Rattle.std.proofs.Common.{◌≡◌, ℕ, ◌+◌, ◌-◌, ◌*◌, ◌^◌, ◌<◌, ◌≤◌, get_or, ap, ◌∙◌, arith}
use Rattle.level_bounds.specs.Levels.{IsShape, width, place, nodes_above, node_count}
use Rattle.level_bounds.specs.Cut.{up_to}
use Rattle.level_bounds.specs.Shapes.{shape_of}
use Rattle.level_bounds.specs.declared.levels.Levels.{Levels}
use Rattle.level_bounds.proofs.Above.{cut_count}
use Rattle.level_bounds.proofs.Places.{level_follows}

-- the kept levels are those of a tree, of which an index of 2^48 bytes can hold the nodes
pub kept_shape : (l : Levels) → IsShape (shape_of l)
kept_shape l = l.shaped.shaped

pub kept_fits : (l : Levels) → 40 * node_count (shape_of l) ≤ 2 ^ 48
kept_fits l = l.shaped.fits

pub kept_narrow : (l : Levels) → (shape_of l).node_size < 2 ^ 16
kept_narrow l = l.narrow

sums : (x y a n : ℕ) → x ≡ y → y + a ≡ n → x + (a + 0) ≡ n
sums x y a n e f = omega arith

-- the nodes up to a level, and those above it, are all
pub kept_above : (l : Levels) (k : ℕ) → k < (shape_of l).top + 1 → get_or l.through k 0 + place (shape_of l) k 0 ≡ node_count (shape_of l)
kept_above l k under =
    let some : 2 ≤ l.count = l.some in
    sums (get_or l.through k 0) (node_count (up_to l.features l.node_size k)) (nodes_above (shape_of l) k) (node_count (shape_of l)) (l.sums k (omega arith)) (cut_count (shape_of l) k (omega arith))

-- the nodes below a level, its own and those above it are all
pub kept_below : (l : Levels) (k : ℕ) → 0 < k → k < (shape_of l).top + 1 → get_or l.through (k - 1) 0 + place (shape_of l) k (width (shape_of l) k) ≡ node_count (shape_of l)
kept_below l k above under =
    ap (λ n. get_or l.through (k - 1) 0 + n) (level_follows (shape_of l) k above (omega arith)) ∙ kept_above l (k - 1) (omega arith)
