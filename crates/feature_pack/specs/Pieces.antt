-- Buffers of features, each in memory of its own.
use Rattle.std.specs.Prelude.{ℕ, ◌≤◌, List, length, map, Vec}
use Rattle.std.specs.declared.alloc.Global.{Global}
use Rattle.order_keys.specs.declared.bounds.Bounds.{Bounds}
use Rattle.tree_writer.specs.Packed.{IsStorable}
use Rattle.laid_features.specs.Buffers.{framed}

-- the pieces of a file that they are, each behind its size prefix
abbrev pub pieces_in : List (Vec ℕ Global) → List (List ℕ)
pieces_in buffers = map (λ buffer. framed buffer.items) buffers

-- it is no larger than the format lets it be
abbrev pub HasRoom : Vec ℕ Global → Type 0
HasRoom buffer = length buffer.items ≤ 268435456

-- eight bytes hold each of the numbers of a box
abbrev pub HasPatterns : Bounds → Type 0
HasPatterns b = IsStorable (record { bounds = b; offset = 0 })
