-- A FlatGeobuf file without an index: the start, the header, and the features in order, each with its size prefix
-- (FlatGeobuf, "Specification").
use Rattle.std.specs.Prelude.{ℕ, ◌^◌, ◌<◌, List, ◌++◌, length}
use Rattle.std.specs.List.{concat}
use Rattle.fgb_schema.specs.Headers.{Header}
use Rattle.packed_file.specs.Packing.{header_bytes, packed_header, start_bytes}

-- a header, but for the number of these features, and with no index; and its buffer
abbrev pub plain_header : Header → List (List ℕ) → Header
plain_header header pieces = packed_header header (length pieces) 0

abbrev pub plain_head : Header → List (List ℕ) → List ℕ
plain_head header pieces = header_bytes header (length pieces) 0

-- the file of these features, each of them a piece
unfoldable pub plain_file : Header → List (List ℕ) → List ℕ
plain_file header pieces = start_bytes (plain_head header pieces) ++ plain_head header pieces ++ concat pieces

-- it can't be written: its header or the file would be too large for the format
pub data IsTooLarge (header : Header) (pieces : List (List ℕ)) : Type 0 where
  large_header : 10485760 < length (plain_head header pieces) → IsTooLarge header pieces
  large_file : 2 ^ 48 < length (plain_file header pieces) → IsTooLarge header pieces
