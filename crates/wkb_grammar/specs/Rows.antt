-- Some values byte by byte (OGC 06-103r4, section 8.2).
use Rattle.std.specs.Prelude.{ℕ, List, [], ◌∷◌, ◌++◌}
use Rattle.fgb_schema.specs.Shapes.{Shape, shape, none, no_ordinates}

-- the patterns of the numbers 1 and 2
abbrev pub one : ℕ
one = 0x3ff0000000000000

abbrev pub two : ℕ
two = 0x4000000000000000

-- the Point (1, 2), and a MultiPoint of it twice
abbrev pub one_two : Shape
one_two = shape 1 ((one, two) ∷ []) [] no_ordinates none

abbrev pub one_two_twice : Shape
one_two_twice = shape 4 ((one, two) ∷ (one, two) ∷ []) [] no_ordinates none

-- the Point (1, 2) with the z 1, and the Point that is empty
abbrev pub one_two_one : Shape
one_two_one = shape 1 ((one, two) ∷ []) [] (record { z = one ∷ []; m = []; t = []; tm = [] }) none

abbrev pub no_point : Shape
no_point = shape 1 [] [] no_ordinates none

-- 1 and 2, the lowest byte first
abbrev pub little_one : List ℕ
little_one = 0x00 ∷ 0x00 ∷ 0x00 ∷ 0x00 ∷ 0x00 ∷ 0x00 ∷ 0xf0 ∷ 0x3f ∷ []

abbrev pub little_two : List ℕ
little_two = 0x00 ∷ 0x00 ∷ 0x00 ∷ 0x00 ∷ 0x00 ∷ 0x00 ∷ 0x00 ∷ 0x40 ∷ []

-- 1 and 2, the highest byte first
abbrev pub big_one : List ℕ
big_one = 0x3f ∷ 0xf0 ∷ 0x00 ∷ 0x00 ∷ 0x00 ∷ 0x00 ∷ 0x00 ∷ 0x00 ∷ []

abbrev pub big_two : List ℕ
big_two = 0x40 ∷ 0x00 ∷ 0x00 ∷ 0x00 ∷ 0x00 ∷ 0x00 ∷ 0x00 ∷ 0x00 ∷ []

-- the Point in either order
abbrev pub little_point : List ℕ
little_point = (0x01 ∷ 0x01 ∷ 0x00 ∷ 0x00 ∷ 0x00 ∷ []) ++ little_one ++ little_two

abbrev pub big_point : List ℕ
big_point = (0x00 ∷ 0x00 ∷ 0x00 ∷ 0x00 ∷ 0x01 ∷ []) ++ big_one ++ big_two

-- a MultiPoint, the highest byte first, with a member in either order
abbrev pub mixed_points : List ℕ
mixed_points = (0x00 ∷ 0x00 ∷ 0x00 ∷ 0x00 ∷ 0x04 ∷ 0x00 ∷ 0x00 ∷ 0x00 ∷ 0x02 ∷ []) ++ little_point ++ big_point

-- a Point with z, whose type is 1001
abbrev pub point_with_z : List ℕ
point_with_z = (0x01 ∷ 0xe9 ∷ 0x03 ∷ 0x00 ∷ 0x00 ∷ []) ++ little_one ++ little_two ++ little_one

-- a Point both of whose ordinates are the NaN 7ff8000000000000
abbrev pub nan_point : List ℕ
nan_point = (0x01 ∷ 0x01 ∷ 0x00 ∷ 0x00 ∷ 0x00 ∷ []) ++ little_nan ++ little_nan
  where
    little_nan : List ℕ
    little_nan = 0x00 ∷ 0x00 ∷ 0x00 ∷ 0x00 ∷ 0x00 ∷ 0x00 ∷ 0xf8 ∷ 0x7f ∷ []

-- the Point in the reference system 4326, and the Point with z, whose type says so by a flag
abbrev pub point_with_srid : List ℕ
point_with_srid = (0x01 ∷ 0x01 ∷ 0x00 ∷ 0x00 ∷ 0x20 ∷ 0xe6 ∷ 0x10 ∷ 0x00 ∷ 0x00 ∷ []) ++ little_one ++ little_two

abbrev pub point_with_flag : List ℕ
point_with_flag = (0x01 ∷ 0x01 ∷ 0x00 ∷ 0x00 ∷ 0x80 ∷ []) ++ little_one ++ little_two ++ little_one
