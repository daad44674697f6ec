-- The buffers of features, and the pieces of a file that they are: each behind its size prefix (FlatGeobuf,
-- "Specification").
use Rattle.std.specs.Prelude.{ℕ, ◌<◌, ◌≤◌, List, ◌++◌, length, map, slice_range, Contains}
use Rattle.byteorder.specs.Endian.{little_bytes}
use Rattle.flat_builder.specs.Laying.{laid}
use Rattle.fgb_schema.specs.Headers.{Header}
use Rattle.fgb_schema.specs.Features.{Feature, feature_of}
use Rattle.feature_tables.specs.Laying.{feature_table}

-- the buffer in which a feature is laid
abbrev pub buffer_of : Feature → List ℕ
buffer_of f = laid (feature_table f)

abbrev pub buffers_of : List Feature → List (List ℕ)
buffers_of features = map buffer_of features

-- a buffer behind its size prefix
abbrev pub framed : List ℕ → List ℕ
framed buffer = little_bytes 4 (length buffer) ++ buffer

-- features as they stand in a file
abbrev pub pieces_of : List Feature → List (List ℕ)
pieces_of features = map (λ f. framed (buffer_of f)) features

-- the buffer of a feature is no larger than the format lets it be
abbrev pub HasRoom : Feature → Type 0
HasRoom f = length (buffer_of f) ≤ 268435456

-- that of one of some features is larger
pub record IsTooLarge (features : List Feature) : Type 0 where
  pub feature : Feature
  pub among : Contains features feature
  pub large : 268435456 < length (buffer_of feature)

-- what the buffer in a piece shows under a header
abbrev pub shown_in : Header → List ℕ → Feature
shown_in header piece = feature_of header (slice_range piece 4 (length piece))
