-- What the bytes of a FlatBuffers buffer mean. `b` is the buffer, `p` a place in it, `t` the place of
-- a table, `f` the number of a field in its schema, `v` the place of a vector. The sections named are
-- those of "FlatBuffer Internals".
use Rattle.std.specs.Prelude.{ℕ, ℤ, ◌+◌, ◌*◌, ◌-◌, ◌^◌, ◌%◌, Bool, ◌&&◌, ◌||◌, ◌==◌, nat_lt, nat_le, if◌then◌else◌, List, length, drop, map, slice_range, Option, Some, None}
use Rattle.std.specs.Int.{w32, cast_signed}
use Rattle.std.specs.List.{range_with_len}
use Rattle.byteorder.specs.Endian.{little_number}

-- "Format components": the scalar in the n bytes at p, little-endian
unfoldable pub number_at : ℕ → List ℕ → ℕ → ℕ
number_at n b p = little_number n (drop p b)

-- "Offsets": the place to which the offset at p leads
unfoldable pub target : List ℕ → ℕ → ℕ
target b p = p + number_at 4 b p

-- "Offsets": an offset stands at p, is at least 4, and leads to four bytes of the buffer
unfoldable pub is_offset : List ℕ → ℕ → Bool
is_offset b p = nat_le (p + 4) (length b) && nat_le 4 (number_at 4 b p) && nat_le (target b p + 4) (length b)

-- "Tables": the vtable of the table at t, which begins with the signed distance back to it
unfoldable pub vtable_place : List ℕ → ℕ → ℕ
vtable_place b t =
    if nat_lt (number_at 4 b t) (2 ^ 31) then t - number_at 4 b t else t + (2 ^ 32 - number_at 4 b t)

-- "Tables": the vtable of the table at t does not begin before the buffer
unfoldable pub is_vtable_inside : List ℕ → ℕ → Bool
is_vtable_inside b t = nat_le (2 ^ 31) (number_at 4 b t) || nat_le (number_at 4 b t) t

-- "Tables": the bytes of the vtable, its first number
unfoldable pub vtable_size : List ℕ → ℕ → ℕ
vtable_size b t = number_at 2 b (vtable_place b t)

-- "Tables": the bytes of the table, the vtable's second number
unfoldable pub table_size : List ℕ → ℕ → ℕ
table_size b t = number_at 2 b (vtable_place b t + 2)

-- "Tables": the vtable of t and the table are in the buffer, and their sizes can be
unfoldable pub is_table : List ℕ → ℕ → Bool
is_table b t =
    is_vtable_inside b t
    && nat_le (vtable_place b t + 4) (length b)
    && (vtable_size b t % 2 == 0)
    && nat_le 4 (vtable_size b t)
    && nat_le (vtable_place b t + vtable_size b t) (length b)
    && nat_le 4 (table_size b t)
    && nat_le (t + table_size b t) (length b)

-- "Tables": the place in the vtable of the entry of field f
unfoldable pub entry : List ℕ → ℕ → ℕ → ℕ
entry b t f = vtable_place b t + 4 + 2 * f

-- "Tables": the entry of field f, which is 0 past the vtable's end
unfoldable pub slot : List ℕ → ℕ → ℕ → ℕ
slot b t f = if nat_lt (4 + 2 * f) (vtable_size b t) then number_at 2 b (entry b t f) else 0

-- "Tables": the table has no field f
unfoldable pub is_absent : List ℕ → ℕ → ℕ → Bool
is_absent b t f = slot b t f == 0

-- "Tables": a field f of w bytes begins behind the distance to the vtable, and ends in the table
unfoldable pub is_field : ℕ → List ℕ → ℕ → ℕ → Bool
is_field w b t f = nat_le 4 (slot b t f) && nat_le (slot b t f + w) (table_size b t)

-- "Tables": the place of field f
unfoldable pub field_place : List ℕ → ℕ → ℕ → ℕ
field_place b t f = t + slot b t f

-- "Offsets": the place to which the offset in field f leads
unfoldable pub led_to : List ℕ → ℕ → ℕ → ℕ
led_to b t f = target b (field_place b t f)

-- "Strings and Vectors": how many elements the vector at v has
unfoldable pub count : List ℕ → ℕ → ℕ
count b v = number_at 4 b v

-- "Strings and Vectors": the elements of w bytes each end in the buffer
unfoldable pub is_vector : ℕ → List ℕ → ℕ → Bool
is_vector w b v = nat_le (v + 4 + w * count b v) (length b)

-- "Tables": the scalar of w bytes in field f, or the schema's default where the field is absent
unfoldable pub number_in : ℕ → List ℕ → ℕ → ℕ → ℕ → ℕ
number_in w b t f otherwise = if is_absent b t f then otherwise else number_at w b (field_place b t f)

-- "Tables": the same for a signed scalar of 4 bytes
unfoldable pub signed_in : List ℕ → ℕ → ℕ → ℤ → ℤ
signed_in b t f otherwise =
    if is_absent b t f then otherwise else cast_signed w32 (number_at 4 b (field_place b t f))

-- "Tables": the table, vector or string of field f, where the field is there
unfoldable pub place_in : List ℕ → ℕ → ℕ → Option ℕ
place_in b t f = if is_absent b t f then None else Some (led_to b t f)

-- "Strings and Vectors": the bytes of the elements of w bytes each
unfoldable pub elements : ℕ → List ℕ → ℕ → List ℕ
elements w b v = slice_range b (v + 4) (v + 4 + w * count b v)

-- "Strings and Vectors": the bytes of the string at p, without the zero behind them
unfoldable pub text : List ℕ → ℕ → List ℕ
text b p = slice_range b (p + 4) (p + 4 + count b p)

-- "Strings and Vectors": a zero byte of the buffer stands right behind the string's bytes
unfoldable pub is_ended : List ℕ → ℕ → Bool
is_ended b p = nat_lt (p + 4 + count b p) (length b) && (number_at 1 b (p + 4 + count b p) == 0)

-- "Tables": the string of field f, where the field is there
unfoldable pub text_in : List ℕ → ℕ → ℕ → Option (List ℕ)
text_in b t f = if is_absent b t f then None else Some (text b (led_to b t f))

-- "Strings and Vectors": the place of the i-th offset in the vector of tables at v
unfoldable pub entry_place : List ℕ → ℕ → ℕ → ℕ
entry_place _ v i = v + 4 + 4 * i

-- "Strings and Vectors": the numbers of 4 bytes of the vector at v
unfoldable pub words : List ℕ → ℕ → List ℕ
words b v = map (λ i. number_at 4 b (v + 4 + 4 * i)) (range_with_len 0 (count b v))

-- "Strings and Vectors": the numbers of 8 bytes of the vector at v
unfoldable pub longs : List ℕ → ℕ → List ℕ
longs b v = map (λ i. number_at 8 b (v + 4 + 8 * i)) (range_with_len 0 (count b v))
