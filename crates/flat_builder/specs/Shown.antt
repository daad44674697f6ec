-- What numbers, vectors and tables show.
use Rattle.std.specs.Prelude.{List, fold}
use Rattle.std.specs.Int.{w32, cast_unsigned}
use Rattle.flat_builder.specs.declared.value.Scalar.{Scalar}
use Rattle.flat_builder.specs.declared.value.Scalar.TheVariants.{U8, U16, I32, U64}
use Rattle.flat_builder.specs.declared.value.FlatVector.{FlatVector}
use Rattle.flat_builder.specs.declared.value.FlatVector.TheVariants.{Bytes, Words, Longs}
use Rattle.flat_builder.specs.Trees.{Item, number, vector, Fields, Tables, empty, push}

-- a number of 1, 2, 4 or 8 bytes, a signed one as its two's complement
abbrev pub scalar_item : Scalar → Item
scalar_item (U8 n) = number 1 n
scalar_item (U16 n) = number 2 n
scalar_item (I32 z) = number 4 (cast_unsigned w32 z)
scalar_item (U64 n) = number 8 n

-- elements of 1, 4 or 8 bytes each
abbrev pub vector_item : FlatVector → Item
vector_item (Bytes v) = vector 1 v.items
vector_item (Words v) = vector 4 v.items
vector_item (Longs v) = vector 8 v.items

-- the tables of a list, in its order
abbrev pub tables_of : List Fields → Tables
tables_of ts = fold push empty ts
