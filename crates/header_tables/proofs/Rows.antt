-- The definitions at worked bytes, computed: a header of type Point, one that says 179 features, and how long one is
-- that has a column `id` of type ULong.
use Rattle.std.proofs.Common.{◌≡◌, [], ◌∷◌, length, refl}
use Rattle.flat_builder.specs.Laying.{laid, lay, round_up, filling, slot_bytes, slots_bytes, of_width, by_width, place_among, width_of, widths, vtable_len, table_len, table_place, children_place, stands, slot_of, vtable_bytes, table_bytes, text_bytes, vector_bytes, whole_table}
use Rattle.header_tables.specs.Laying.{header_table, column_table, column_tables}
use Rattle.header_tables.specs.Records.{plain, plain_column}

point : laid (header_table (plain 1)) ≡ 16 ∷ 0 ∷ 0 ∷ 0 ∷ 10 ∷ 0 ∷ 5 ∷ 0 ∷ 0 ∷ 0 ∷ 0 ∷ 0 ∷ 4 ∷ 0 ∷ 0 ∷ 0 ∷ 12 ∷ 0 ∷ 0 ∷ 0 ∷ 1 ∷ 0 ∷ 0 ∷ 0 ∷ []
unfolding laid lay round_up filling slot_bytes slots_bytes of_width by_width place_among width_of widths vtable_len table_len table_place children_place stands slot_of vtable_bytes table_bytes text_bytes vector_bytes whole_table header_table
point = refl

counted : laid (header_table (record (plain 1) { features_count = 179 })) ≡ 32 ∷ 0 ∷ 0 ∷ 0 ∷ 22 ∷ 0 ∷ 13 ∷ 0 ∷ 0 ∷ 0 ∷ 0 ∷ 0 ∷ 12 ∷ 0 ∷ 0 ∷ 0 ∷ 0 ∷ 0 ∷ 0 ∷ 0 ∷ 0 ∷ 0 ∷ 0 ∷ 0 ∷ 4 ∷ 0 ∷ 0 ∷ 0 ∷ 0 ∷ 0 ∷ 0 ∷ 0 ∷ 28 ∷ 0 ∷ 0 ∷ 0 ∷ 179 ∷ 0 ∷ 0 ∷ 0 ∷ 0 ∷ 0 ∷ 0 ∷ 0 ∷ 1 ∷ 0 ∷ 0 ∷ 0 ∷ []
unfolding laid lay round_up filling slot_bytes slots_bytes of_width by_width place_among width_of widths vtable_len table_len table_place children_place stands slot_of vtable_bytes table_bytes text_bytes vector_bytes whole_table header_table
counted = refl

identified : length (laid (header_table (record (plain 1) { columns = plain_column (105 ∷ 100 ∷ []) 8 ∷ [] }))) ≡ 76
unfolding laid lay round_up filling slot_bytes slots_bytes of_width by_width place_among width_of widths vtable_len table_len table_place children_place stands slot_of vtable_bytes table_bytes text_bytes vector_bytes whole_table header_table column_table column_tables
identified = refl

both : length (laid (header_table (record (plain 1) { columns = plain_column (105 ∷ 100 ∷ []) 8 ∷ []; features_count = 179 }))) ≡ 92
unfolding laid lay round_up filling slot_bytes slots_bytes of_width by_width place_among width_of widths vtable_len table_len table_place children_place stands slot_of vtable_bytes table_bytes text_bytes vector_bytes whole_table header_table column_table column_tables
both = refl
