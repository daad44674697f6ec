-- The blocks of a file: block b is the positions from 4096 * b on, 4,096 of them or up to the end of the file.
use Rattle.std.specs.Prelude.{ℕ, ◌*◌, ◌-◌, ◌/◌, ◌+◌, ◌==◌, min, List, [], ◌∷◌, if◌then◌else◌, map, slice_range}
use Rattle.std.specs.List.{range_with_len}

-- how many bytes a block of a file of this size has
abbrev pub block_length : ℕ → ℕ → ℕ
block_length size b = min 4096 (size - 4096 * b)

abbrev pub block_bytes : List ℕ → ℕ → ℕ → List ℕ
block_bytes image size b = slice_range image (4096 * b) (4096 * b + block_length size b)

-- the pair (at, length) that asks for it
abbrev pub block_pair : ℕ → ℕ → ℕ × ℕ
block_pair size b = (4096 * b, block_length size b)

abbrev pub block_pairs : ℕ → List ℕ → List (ℕ × ℕ)
block_pairs size bs = map (block_pair size) bs

-- b in front of numbers of blocks, where it is not their first
abbrev pub led_by : ℕ → List ℕ → List ℕ
led_by b [] = b ∷ []
led_by b (c ∷ cs) = if b == c then c ∷ cs else b ∷ c ∷ cs

-- the numbers of the blocks that hold a position of these, which ascend: each once, ascending
unfoldable pub blocks : List ℕ → List ℕ
blocks [] = []
blocks (p ∷ ps) = led_by (p / 4096) (blocks ps)

-- the blocks that a read visits
abbrev pub visits : ℕ → ℕ → List ℕ
visits at len = blocks (range_with_len at len)
