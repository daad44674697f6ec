-- The fields of a table have 8, 4, 2 or 1 bytes.
use Rattle.std.proofs.Common.{List, [], ◌∷◌, fold}
use Rattle.flat_builder.specs.declared.value.Scalar.{Scalar}
use Rattle.flat_builder.specs.declared.value.Scalar.TheVariants.{U8, U16, I32, U64}
use Rattle.flat_builder.specs.declared.value.FlatVector.{FlatVector}
use Rattle.flat_builder.specs.declared.value.FlatVector.TheVariants.{Bytes, Words, Longs}
use Rattle.flat_builder.specs.declared.table.Field.{Field}
use Rattle.flat_builder.specs.declared.table.Value.{Value}
use Rattle.flat_builder.specs.declared.table.Value.TheVariants.{Number, Text, Vector, Table, TableVector}
use Rattle.flat_builder.specs.Trees.{Fields, none}
use Rattle.flat_builder.specs.Laying.{width_of}
use Rattle.flat_builder.specs.Shown.{scalar_item, vector_item}
use Rattle.flat_builder.specs.Fields.{item_of, put_field, fields_of}
use Rattle.flat_builder.proofs.Slots.{IsWidth, eight, four, two, one}
use Rattle.flat_builder.proofs.Lengths.{HasWidths}

IsWidth-scalar : (s : Scalar) → IsWidth (width_of (scalar_item s))
unfolding width_of
IsWidth-scalar (U8 n) = one
IsWidth-scalar (U16 n) = two
IsWidth-scalar (I32 z) = four
IsWidth-scalar (U64 n) = eight

IsWidth-vector : (v : FlatVector) → IsWidth (width_of (vector_item v))
unfolding width_of
IsWidth-vector (Bytes v) = four
IsWidth-vector (Words v) = four
IsWidth-vector (Longs v) = four

pub IsWidth-value : (v : Value) → IsWidth (width_of (item_of v))
unfolding width_of
IsWidth-value (Number s) = IsWidth-scalar s
IsWidth-value (Text s) = four
IsWidth-value (Vector v) = IsWidth-vector v
IsWidth-value (Table t) = four
IsWidth-value (TableVector ts) = four

widths_from : (fs : List Field) (before : Fields) → HasWidths before → HasWidths (fold put_field before fs)
unfolding HasWidths
widths_from [] before h = h
widths_from (f ∷ fs) before h = widths_from fs (put_field before f) (h, IsWidth-value f.value)

pub HasWidths-fields_of : (fs : List Field) → HasWidths (fields_of fs)
unfolding HasWidths
HasWidths-fields_of fs = widths_from fs none tt
