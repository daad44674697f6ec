-- The table as which a feature is laid (FlatGeobuf, feature.fbs, Feature): its geometry where there is one, and its
-- properties and its own columns where there are some.
use Rattle.std.specs.Prelude.{ℕ, ◌==◌, List, [], ◌∷◌, ◌++◌, length, if◌then◌else◌, Option}
use Rattle.std.specs.Option.{option_map}
use Rattle.std.specs.List.{flat_map}
use Rattle.std.specs.Int.{Width, w8, w16, w32, w64, cast_unsigned}
use Rattle.byteorder.specs.Endian.{little_bytes}
use Rattle.fgb_values.specs.Values.{Content, Whole, Truth, Pattern, Bytes, width}
use Rattle.fgb_schema.specs.Properties.{Property}
use Rattle.fgb_schema.specs.Features.{Feature}
use Rattle.flat_builder.specs.Trees.{Item, table, Fields, none}
use Rattle.header_tables.specs.Laying.{columns_item}
use Rattle.shape_tables.specs.Laying.{shape_table, numbers_item, with_fields}

-- the width of a signed number of this type: Byte, Short, Int and Long
abbrev pub signed_width : ℕ → Width
signed_width kind = if kind == 0 then w8 else if kind == 3 then w16 else if kind == 5 then w32 else w64

-- the bytes of a value of a column of this type (FlatGeobuf, header.fbs, ColumnType): a number, a signed one as its
-- two's complement; 1 for yes and 0 for no; or some bytes, with their count in front
unfoldable pub value_bytes : ℕ → Content → List ℕ
value_bytes kind (Whole z) = little_bytes (width kind) (cast_unsigned (signed_width kind) z)
value_bytes kind (Truth y) = (if y then 1 else 0) ∷ []
value_bytes kind (Pattern n) = little_bytes (width kind) n
value_bytes kind (Bytes bytes) = little_bytes 4 (length bytes) ++ bytes

-- of a property: the number of its column, and the value
unfoldable pub pair_bytes : Property → List ℕ
pair_bytes p = little_bytes 2 p.column ++ value_bytes p.kind p.content

-- of some properties, one after another
abbrev pub properties_bytes : List Property → List ℕ
properties_bytes ps = flat_map pair_bytes ps

-- geometry, properties, columns
abbrev pub feature_items : Feature → List (Option Item)
feature_items f =
    option_map (λ s. table (shape_table s)) f.shape ∷ numbers_item 1 (properties_bytes f.properties) ∷ columns_item f.columns ∷ []

unfoldable pub feature_table : Feature → Fields
feature_table f = with_fields none 0 (feature_items f)
