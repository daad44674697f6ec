-- The definitions at worked bytes, computed: two properties and where they fit, a feature with the Point (1, 2), one with
-- a number besides, and one with nothing.
use Rattle.std.proofs.Common.{◌≡◌, pos, negsuc, true, [], ◌∷◌, List, length, Option, Some, None, refl, arith}
use Rattle.fgb_values.specs.Values.{Whole, Truth, Pattern, Bytes, has_length, width}
use Rattle.fgb_schema.specs.Shapes.{Shape, shape, none as no_shapes, no_ordinates}
use Rattle.fgb_schema.specs.Properties.{Property}
use Rattle.fgb_schema.specs.Features.{Feature}
use Rattle.flat_builder.specs.Laying.{laid, lay, round_up, filling, slot_bytes, slots_bytes, of_width, by_width, place_among, width_of, widths, vtable_len, table_len, table_place, children_place, stands, slot_of, vtable_bytes, table_bytes, text_bytes, vector_bytes, whole_table}
use Rattle.shape_tables.specs.Laying.{shape_table, part_tables}
use Rattle.fgb_schema.specs.Headers.{Header}
use Rattle.header_tables.specs.Records.{plain, plain_column}
use Rattle.feature_tables.specs.Records.{text, int, IsRecord, Fits}
use Rattle.feature_tables.specs.Laying.{value_bytes, pair_bytes, properties_bytes, feature_table}

-- a String in column 0, and an Int in column 1
abbrev pairs : List Property
pairs = record { column = 0; kind = 11; content = Bytes (77 ∷ 97 ∷ 108 ∷ 116 ∷ 97 ∷ []) } ∷ record { column = 1; kind = 5; content = Whole (pos 519) } ∷ []

malta : properties_bytes pairs ≡ 0 ∷ 0 ∷ 5 ∷ 0 ∷ 0 ∷ 0 ∷ 77 ∷ 97 ∷ 108 ∷ 116 ∷ 97 ∷ 1 ∷ 0 ∷ 7 ∷ 2 ∷ 0 ∷ 0 ∷ []
unfolding value_bytes pair_bytes width
malta = refl

-- they can stand in a feature, under a header with the columns `name` String and `pop` Int
abbrev island : Feature
island = record { shape = None; properties = pairs; columns = [] }

abbrev named : Header
named = record (plain 0) { columns = plain_column (110 ∷ 97 ∷ 109 ∷ 101 ∷ []) 11 ∷ plain_column (112 ∷ 111 ∷ 112 ∷ []) 5 ∷ [] }

no_shape : (s : Shape) → (let nothing : Option Shape = None in nothing) ≡ Some s → ⊥
no_shape s same = cc

island_is : IsRecord island
island_is = record {
  shape = λ s same. absurd (no_shape s same);
  properties = (record { key = omega arith; value = text (omega arith) }, (record { key = omega arith; value = int (omega arith) }, tt));
  columns = tt;
  few = omega arith;
}

island_fits : Fits named island
island_fits = record {
  shape = λ s same. absurd (no_shape s same);
  properties = (record { there = omega arith; same = refl }, (record { there = omega arith; same = refl }, tt));
}

-- a Short, a Bool and a Float
small : value_bytes 3 (Whole (negsuc 32766)) ≡ 1 ∷ 128 ∷ []
unfolding value_bytes width
small = refl

yes_byte : value_bytes 2 (Truth true) ≡ 1 ∷ []
unfolding value_bytes
yes_byte = refl

one_float : value_bytes 9 (Pattern 1065353216) ≡ 0 ∷ 0 ∷ 128 ∷ 63 ∷ []
unfolding value_bytes width
one_float = refl

abbrev point : List Property → Feature
point properties = record { shape = Some (shape 1 ((4607182418800017408, 4611686018427387904) ∷ []) [] no_ordinates no_shapes); properties = properties; columns = [] }

point_laid : laid (feature_table (point []))
    ≡ 16 ∷ 0 ∷ 0 ∷ 0 ∷ 6 ∷ 0 ∷ 8 ∷ 0 ∷ 4 ∷ 0 ∷ 0 ∷ 0 ∷ 0 ∷ 0 ∷ 0 ∷ 0 ∷ 12 ∷ 0 ∷ 0 ∷ 0 ∷ 28 ∷ 0 ∷ 0 ∷ 0
    ∷ 18 ∷ 0 ∷ 9 ∷ 0 ∷ 0 ∷ 0 ∷ 4 ∷ 0 ∷ 0 ∷ 0 ∷ 0 ∷ 0 ∷ 0 ∷ 0 ∷ 0 ∷ 0 ∷ 8 ∷ 0 ∷ 0 ∷ 0 ∷ 0 ∷ 0 ∷ 0 ∷ 0
    ∷ 24 ∷ 0 ∷ 0 ∷ 0 ∷ 12 ∷ 0 ∷ 0 ∷ 0 ∷ 1 ∷ 0 ∷ 0 ∷ 0 ∷ 0 ∷ 0 ∷ 0 ∷ 0 ∷ 2 ∷ 0 ∷ 0 ∷ 0
    ∷ 0 ∷ 0 ∷ 0 ∷ 0 ∷ 0 ∷ 0 ∷ 240 ∷ 63 ∷ 0 ∷ 0 ∷ 0 ∷ 0 ∷ 0 ∷ 0 ∷ 0 ∷ 64 ∷ []
unfolding laid lay round_up filling slot_bytes slots_bytes of_width by_width place_among width_of widths vtable_len table_len table_place children_place stands slot_of vtable_bytes table_bytes text_bytes vector_bytes whole_table shape_table part_tables feature_table
point_laid = refl

-- with a ULong in column 0
numbered : length (laid (feature_table (point (record { column = 0; kind = 8; content = Whole (pos 7) } ∷ [])))) ≡ 100
unfolding laid lay round_up filling slot_bytes slots_bytes of_width by_width place_among width_of widths vtable_len table_len table_place children_place stands slot_of vtable_bytes table_bytes text_bytes vector_bytes whole_table shape_table part_tables feature_table value_bytes pair_bytes width has_length
numbered = refl

nothing : laid (feature_table (record { shape = None; properties = []; columns = [] })) ≡ 8 ∷ 0 ∷ 0 ∷ 0 ∷ 4 ∷ 0 ∷ 4 ∷ 0 ∷ 4 ∷ 0 ∷ 0 ∷ 0 ∷ []
unfolding laid lay round_up filling slot_bytes slots_bytes of_width by_width place_among width_of widths vtable_len table_len table_place children_place stands slot_of vtable_bytes table_bytes text_bytes vector_bytes whole_table feature_table
nothing = refl
