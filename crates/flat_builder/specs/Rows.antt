-- Tables and their bytes, by computation.
use Rattle.std.proofs.Common.{◌≡◌, ◌∷◌, [], refl}
use Rattle.flat_builder.specs.Trees.{number, string, vector, table, tables, none, put, empty, push}
use Rattle.flat_builder.specs.Laying.{laid, lay, round_up, filling, slot_bytes, slots_bytes, of_width, by_width, place_among, width_of, widths, vtable_len, table_len, table_place, children_place, stands, slot_of, vtable_bytes, table_bytes, text_bytes, vector_bytes, whole_table}

-- no fields
pub without_fields : laid none ≡
    8 ∷ 0 ∷ 0 ∷ 0 ∷ 4 ∷ 0 ∷ 4 ∷ 0 ∷ 4 ∷ 0 ∷ 0 ∷ 0 ∷ []
unfolding laid lay round_up filling slot_bytes slots_bytes of_width by_width place_among width_of widths vtable_len table_len table_place children_place stands slot_of vtable_bytes table_bytes text_bytes vector_bytes whole_table
without_fields = refl

-- one field of one byte, before which two ids are absent
pub one_field : laid (put none 2 (number 1 1)) ≡
    16 ∷ 0 ∷ 0 ∷ 0 ∷ 10 ∷ 0 ∷ 5 ∷ 0 ∷ 0 ∷ 0 ∷ 0 ∷ 0 ∷ 4 ∷ 0 ∷ 0 ∷ 0 ∷ 12 ∷ 0 ∷ 0 ∷ 0 ∷ 1 ∷ 0 ∷ 0 ∷ 0 ∷
    []
unfolding laid lay round_up filling slot_bytes slots_bytes of_width by_width place_among width_of widths vtable_len table_len table_place children_place stands slot_of vtable_bytes table_bytes text_bytes vector_bytes whole_table
one_field = refl

-- a table that holds a vector of two numbers of 8 bytes and a byte
pub a_table_inside : laid (put none 0 (table (put (put none 1 (vector 8 (4607182418800017408 ∷ 4611686018427387904 ∷ []))) 6 (number 1 1)))) ≡
    16 ∷ 0 ∷ 0 ∷ 0 ∷ 6 ∷ 0 ∷ 8 ∷ 0 ∷ 4 ∷ 0 ∷ 0 ∷ 0 ∷ 0 ∷ 0 ∷ 0 ∷ 0 ∷ 12 ∷ 0 ∷ 0 ∷ 0 ∷ 28 ∷ 0 ∷ 0 ∷ 0 ∷
    18 ∷ 0 ∷ 9 ∷ 0 ∷ 0 ∷ 0 ∷ 4 ∷ 0 ∷ 0 ∷ 0 ∷ 0 ∷ 0 ∷ 0 ∷ 0 ∷ 0 ∷ 0 ∷ 8 ∷ 0 ∷ 0 ∷ 0 ∷ 0 ∷ 0 ∷ 0 ∷ 0 ∷
    24 ∷ 0 ∷ 0 ∷ 0 ∷ 12 ∷ 0 ∷ 0 ∷ 0 ∷ 1 ∷ 0 ∷ 0 ∷ 0 ∷ 0 ∷ 0 ∷ 0 ∷ 0 ∷ 2 ∷ 0 ∷ 0 ∷ 0 ∷ 0 ∷ 0 ∷ 0 ∷ 0 ∷
    0 ∷ 0 ∷ 240 ∷ 63 ∷ 0 ∷ 0 ∷ 0 ∷ 0 ∷ 0 ∷ 0 ∷ 0 ∷ 64 ∷ []
unfolding laid lay round_up filling slot_bytes slots_bytes of_width by_width place_among width_of widths vtable_len table_len table_place children_place stands slot_of vtable_bytes table_bytes text_bytes vector_bytes whole_table
a_table_inside = refl

-- a number of 8 bytes stands before one of 1 byte
pub wider_first : laid (put (put none 2 (number 1 1)) 8 (number 8 179)) ≡
    32 ∷ 0 ∷ 0 ∷ 0 ∷ 22 ∷ 0 ∷ 13 ∷ 0 ∷ 0 ∷ 0 ∷ 0 ∷ 0 ∷ 12 ∷ 0 ∷ 0 ∷ 0 ∷ 0 ∷ 0 ∷ 0 ∷ 0 ∷ 0 ∷ 0 ∷ 0 ∷ 0 ∷
    4 ∷ 0 ∷ 0 ∷ 0 ∷ 0 ∷ 0 ∷ 0 ∷ 0 ∷ 28 ∷ 0 ∷ 0 ∷ 0 ∷ 179 ∷ 0 ∷ 0 ∷ 0 ∷ 0 ∷ 0 ∷ 0 ∷ 0 ∷ 1 ∷ 0 ∷ 0 ∷ 0 ∷
    []
unfolding laid lay round_up filling slot_bytes slots_bytes of_width by_width place_among width_of widths vtable_len table_len table_place children_place stands slot_of vtable_bytes table_bytes text_bytes vector_bytes whole_table
wider_first = refl

-- a string, a vector of numbers of 8 bytes, a table and a vector of two tables
pub each_kind : laid (put (put (put (put (put none 0 (number 1 7)) 2 (string (97 ∷ 98 ∷ 99 ∷ []))) 3 (vector 8 (9 ∷ []))) 4 (table none)) 5 (tables (push (push empty none) none))) ≡
    24 ∷ 0 ∷ 0 ∷ 0 ∷ 16 ∷ 0 ∷ 21 ∷ 0 ∷ 20 ∷ 0 ∷ 0 ∷ 0 ∷ 4 ∷ 0 ∷ 8 ∷ 0 ∷ 12 ∷ 0 ∷ 16 ∷ 0 ∷ 0 ∷ 0 ∷ 0 ∷ 0 ∷
    20 ∷ 0 ∷ 0 ∷ 0 ∷ 20 ∷ 0 ∷ 0 ∷ 0 ∷ 24 ∷ 0 ∷ 0 ∷ 0 ∷ 36 ∷ 0 ∷ 0 ∷ 0 ∷ 36 ∷ 0 ∷ 0 ∷ 0 ∷ 7 ∷ 0 ∷ 0 ∷ 0 ∷
    3 ∷ 0 ∷ 0 ∷ 0 ∷ 97 ∷ 98 ∷ 99 ∷ 0 ∷ 1 ∷ 0 ∷ 0 ∷ 0 ∷ 9 ∷ 0 ∷ 0 ∷ 0 ∷ 0 ∷ 0 ∷ 0 ∷ 0 ∷ 4 ∷ 0 ∷ 4 ∷ 0 ∷
    4 ∷ 0 ∷ 0 ∷ 0 ∷ 2 ∷ 0 ∷ 0 ∷ 0 ∷ 16 ∷ 0 ∷ 0 ∷ 0 ∷ 20 ∷ 0 ∷ 0 ∷ 0 ∷ 4 ∷ 0 ∷ 4 ∷ 0 ∷ 0 ∷ 0 ∷ 0 ∷ 0 ∷
    8 ∷ 0 ∷ 0 ∷ 0 ∷ 4 ∷ 0 ∷ 4 ∷ 0 ∷ 4 ∷ 0 ∷ 0 ∷ 0 ∷ []
unfolding laid lay round_up filling slot_bytes slots_bytes of_width by_width place_among width_of widths vtable_len table_len table_place children_place stands slot_of vtable_bytes table_bytes text_bytes vector_bytes whole_table
each_kind = refl
