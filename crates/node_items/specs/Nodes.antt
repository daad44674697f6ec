-- A node of an index and its 40 bytes (FlatGeobuf, "Index"): the patterns of its box, min x, min y, max x, max y, and
-- then its offset, each little-endian.
use Rattle.std.specs.Prelude.{ℕ, ◌+◌, ◌*◌, List, ◌++◌, slice_range}
use Rattle.byteorder.specs.Endian.{little_bytes}
use Rattle.flat_layout.specs.Layout.{number_at}
use Rattle.node_items.specs.declared.item.NodeItem.{NodeItem}

abbrev pub node_of : List ℕ → NodeItem
node_of b = record {
  bounds = record {
    min_x = record { 0 = number_at 8 b 0 };
    min_y = record { 0 = number_at 8 b 8 };
    max_x = record { 0 = number_at 8 b 16 };
    max_y = record { 0 = number_at 8 b 24 };
  };
  offset = number_at 8 b 32;
}

abbrev pub bytes_of : NodeItem → List ℕ
bytes_of v =
    little_bytes 8 v.bounds.min_x.0 ++ little_bytes 8 v.bounds.min_y.0 ++ little_bytes 8 v.bounds.max_x.0
    ++ little_bytes 8 v.bounds.max_y.0 ++ little_bytes 8 v.offset

-- where a node stands in a file, by its number, in an index that begins at this place
abbrev pub node_place : ℕ → ℕ → ℕ
node_place at number = at + 40 * number

-- the node that stands there
unfoldable pub stored : List ℕ → ℕ → ℕ → NodeItem
stored image at number = node_of (slice_range image (node_place at number) (node_place at number + 40))
