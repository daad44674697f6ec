-- Places in a level from numbers in the tree.
use Rattle.std.proofs.Common.{◌≡◌, ℕ, ◌+◌, ◌-◌, arith}
use Rattle.level_bounds.specs.Levels.{Shape, place, nodes_above}

-- node i of a level that begins with this number
pub number_is : (t : Shape) (k i begins : ℕ) → begins ≡ place t k 0 → begins + i ≡ place t k i
number_is t k i begins e = along (nodes_above t k) e
  where
    along : (a : ℕ) → begins ≡ a + 0 → begins + i ≡ a + i
    along a e = omega arith

-- the place of a node in its level
pub offset_is : (t : Shape) (k i number begins : ℕ) → number ≡ place t k i → begins ≡ place t k 0 → number - begins ≡ i
offset_is t k i number begins e f = back (nodes_above t k) e f
  where
    back : (a : ℕ) → number ≡ a + i → begins ≡ a + 0 → number - begins ≡ i
    back a e f = omega arith

-- how many nodes stand between two of a level
pub count_is : (t : Shape) (k i j from till : ℕ) → from ≡ place t k i → till ≡ place t k j → till - from ≡ j - i
count_is t k i j from till e f = between (nodes_above t k) e f
  where
    between : (a : ℕ) → from ≡ a + i → till ≡ a + j → till - from ≡ j - i
    between a e f = omega arith
