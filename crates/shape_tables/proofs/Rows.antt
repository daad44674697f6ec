-- The definitions at worked bytes, computed: a feature with the Point (1, 2) and nothing else.
use Rattle.std.proofs.Common.{◌≡◌, [], ◌∷◌, refl}
use Rattle.fgb_schema.specs.Shapes.{Shape, shape, none as no_shapes, more, no_ordinates}
use Rattle.flat_builder.specs.Trees.{number, vector, table, tables, none, put, empty, push}
use Rattle.flat_builder.specs.Laying.{laid, lay, round_up, filling, slot_bytes, slots_bytes, of_width, by_width, place_among, width_of, widths, vtable_len, table_len, table_place, children_place, stands, slot_of, vtable_bytes, table_bytes, text_bytes, vector_bytes, whole_table}
use Rattle.shape_tables.specs.Laying.{shape_table, part_tables}

abbrev point : Shape
point = shape 1 ((4607182418800017408, 4611686018427387904) ∷ []) [] no_ordinates no_shapes

point_laid : laid (put none 0 (table (shape_table point)))
    ≡ 16 ∷ 0 ∷ 0 ∷ 0 ∷ 6 ∷ 0 ∷ 8 ∷ 0 ∷ 4 ∷ 0 ∷ 0 ∷ 0 ∷ 0 ∷ 0 ∷ 0 ∷ 0 ∷ 12 ∷ 0 ∷ 0 ∷ 0 ∷ 28 ∷ 0 ∷ 0 ∷ 0
    ∷ 18 ∷ 0 ∷ 9 ∷ 0 ∷ 0 ∷ 0 ∷ 4 ∷ 0 ∷ 0 ∷ 0 ∷ 0 ∷ 0 ∷ 0 ∷ 0 ∷ 0 ∷ 0 ∷ 8 ∷ 0 ∷ 0 ∷ 0 ∷ 0 ∷ 0 ∷ 0 ∷ 0
    ∷ 24 ∷ 0 ∷ 0 ∷ 0 ∷ 12 ∷ 0 ∷ 0 ∷ 0 ∷ 1 ∷ 0 ∷ 0 ∷ 0 ∷ 0 ∷ 0 ∷ 0 ∷ 0 ∷ 2 ∷ 0 ∷ 0 ∷ 0
    ∷ 0 ∷ 0 ∷ 0 ∷ 0 ∷ 0 ∷ 0 ∷ 240 ∷ 63 ∷ 0 ∷ 0 ∷ 0 ∷ 0 ∷ 0 ∷ 0 ∷ 0 ∷ 64 ∷ []
unfolding laid lay round_up filling slot_bytes slots_bytes of_width by_width place_among width_of widths vtable_len table_len table_place children_place stands slot_of vtable_bytes table_bytes text_bytes vector_bytes whole_table shape_table part_tables
point_laid = refl

-- one ring of all points has no ends, two have, and so has one without points
ring_laid : shape_table (shape 3 ((0, 1) ∷ (2, 3) ∷ []) ((0, 2) ∷ []) no_ordinates no_shapes) ≡ put (put none 1 (vector 8 (0 ∷ 1 ∷ 2 ∷ 3 ∷ []))) 6 (number 1 3)
unfolding shape_table part_tables
ring_laid = refl

rings_laid : shape_table (shape 3 ((0, 1) ∷ (2, 3) ∷ []) ((0, 1) ∷ (1, 2) ∷ []) no_ordinates no_shapes)
    ≡ put (put (put none 0 (vector 4 (1 ∷ 2 ∷ []))) 1 (vector 8 (0 ∷ 1 ∷ 2 ∷ 3 ∷ []))) 6 (number 1 3)
unfolding shape_table part_tables
rings_laid = refl

empty_ring_laid : shape_table (shape 3 [] ((0, 0) ∷ []) no_ordinates no_shapes) ≡ put (put none 0 (vector 4 (0 ∷ []))) 6 (number 1 3)
unfolding shape_table part_tables
empty_ring_laid = refl

-- a collection of an empty Point and an empty LineString, in this order
collection_laid : shape_table (shape 7 [] [] no_ordinates (more (shape 1 [] [] no_ordinates no_shapes) (more (shape 2 [] [] no_ordinates no_shapes) no_shapes)))
    ≡ put (put none 6 (number 1 7)) 7 (tables (push (push empty (put none 6 (number 1 1))) (put none 6 (number 1 2))))
unfolding shape_table part_tables
collection_laid = refl
