-- The packing of a FlatGeobuf file: the same header but for the number of its features and its node size, a packed tree
-- over the features in their order, and the features, each with its bytes unchanged (FlatGeobuf, "Specification").
use Rattle.std.specs.Prelude.{◌≡◌, ℕ, ◌+◌, ◌*◌, ◌^◌, ◌<◌, List, [], ◌∷◌, ◌++◌, length, map, slice_index_or, Option, Some, None}
use Rattle.std.specs.List.{concat}
use Rattle.byteorder.specs.Endian.{little_bytes}
use Rattle.order_keys.specs.declared.bounds.Bounds.{Bounds}
use Rattle.level_bounds.specs.Levels.{Shape, IsShape}
use Rattle.node_items.specs.declared.item.NodeItem.{NodeItem}
use Rattle.tree_writer.specs.Packed.{packed_bytes}
use Rattle.feature_order.specs.Order.{IsOrder}
use Rattle.flat_builder.specs.Laying.{laid}
use Rattle.fgb_schema.specs.Headers.{Header}
use Rattle.header_tables.specs.Laying.{header_table}
use Rattle.fgb_file.specs.File.{box_of, magic, nodes_of}

-- the own boxes of features under a header, each in a piece with its size prefix
abbrev pub boxes_of : Header → List (List ℕ) → List Bounds
boxes_of header pieces = map (box_of header) pieces

-- the pieces with these numbers
abbrev pub in_order : List (List ℕ) → List ℕ → List (List ℕ)
in_order pieces order = map (λ k. slice_index_or pieces k []) order

-- the leaves over features that stand one behind the other, the first at this offset
unfoldable pub leaves_from : Header → ℕ → List (List ℕ) → List NodeItem
leaves_from header offset [] = []
leaves_from header offset (piece ∷ rest) =
    record { bounds = box_of header piece; offset = offset } ∷ leaves_from header (offset + length piece) rest

-- no index where there are no features, else a tree over so many with nodes of so many children
pub data IsTreeOver (features node_size : ℕ) : Option Shape → Type 0 where
  no_index : features ≡ 0 → IsTreeOver features node_size None
  tree : {t : Shape} → IsShape t → t.leaves ≡ features → t.node_size ≡ node_size → IsTreeOver features node_size (Some t)

abbrev pub index_bytes : Option Shape → List NodeItem → List ℕ
index_bytes None leaves = []
index_bytes (Some t) leaves = packed_bytes t leaves

-- the header of a packing, and its buffer
abbrev pub packed_header : Header → ℕ → ℕ → Header
packed_header header features node_size = record header { features_count = features; node_size = node_size }

abbrev pub header_bytes : Header → ℕ → ℕ → List ℕ
header_bytes header features node_size = laid (header_table (packed_header header features node_size))

-- the magic bytes, the last of which is 1, and the size of the header
abbrev pub start_bytes : List ℕ → List ℕ
start_bytes head = magic ++ 1 ∷ little_bytes 4 (length head)

-- a file with this index over these features, in this order
unfoldable pub packed_file : Header → ℕ → Option Shape → List (List ℕ) → List ℕ
packed_file header node_size index ordered =
    start_bytes (header_bytes header (length ordered) node_size) ++ header_bytes header (length ordered) node_size
    ++ index_bytes index (leaves_from header 0 ordered) ++ concat ordered

-- the packing of the features of a file with this header
pub record IsPacking (header : Header) (pieces : List (List ℕ)) (node_size : ℕ) (bytes : List ℕ) : Type 0 where
  pub order : List ℕ
  pub index : Option Shape
  pub ordered : IsOrder (boxes_of header pieces) order
  pub over : IsTreeOver (length pieces) node_size index
  pub whole : bytes ≡ packed_file header node_size index (in_order pieces order)

-- how many bytes it has
abbrev pub packed_size : Header → List (List ℕ) → ℕ → Option Shape → ℕ
packed_size header pieces node_size index =
    12 + length (header_bytes header (length pieces) node_size) + 40 * nodes_of index + length (concat pieces)

-- it can't be written: its header or the file would be too large for the format
pub data IsTooLarge (header : Header) (pieces : List (List ℕ)) (node_size : ℕ) : Type 0 where
  large_header : 10485760 < length (header_bytes header (length pieces) node_size) → IsTooLarge header pieces node_size
  large_file : {index : Option Shape} → IsTreeOver (length pieces) node_size index → 2 ^ 48 < packed_size header pieces node_size index
      → IsTooLarge header pieces node_size
