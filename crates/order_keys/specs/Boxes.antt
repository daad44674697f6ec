-- Boxes of four patterns, compared by their keys.
use Rattle.std.specs.Prelude.{◌≡◌, ◌==◌, ◌⊎◌, ◌&&◌, ◌||◌, Bool, IsTrue, if◌then◌else◌}
use Rattle.order_keys.specs.declared.coord.Coord.{Coord}
use Rattle.order_keys.specs.declared.bounds.Bounds.{Bounds}
use Rattle.order_keys.specs.Keys.{key_of, IsAtMost, at_most, same_key, is_finite}

-- the box of no point: from positive infinity to negative infinity
abbrev pub empty : Bounds
empty = record {
  min_x = record { 0 = 0x7FF0_0000_0000_0000 };
  min_y = record { 0 = 0x7FF0_0000_0000_0000 };
  max_x = record { 0 = 0xFFF0_0000_0000_0000 };
  max_y = record { 0 = 0xFFF0_0000_0000_0000 };
}

-- the box of one point
abbrev pub of_point : Coord → Coord → Bounds
of_point x y = record { min_x = x; min_y = y; max_x = x; max_y = y }

-- the boxes have a point in common; edges meet
pub record Meets (a b : Bounds) : Type 0 where
  pub left : IsAtMost a.min_x.0 b.max_x.0
  pub right : IsAtMost b.min_x.0 a.max_x.0
  pub below : IsAtMost a.min_y.0 b.max_y.0
  pub above : IsAtMost b.min_y.0 a.max_y.0

-- the same as a test, which lists of found features are filtered by
abbrev pub meets : Bounds → Bounds → Bool
meets a b =
    at_most a.min_x.0 b.max_x.0 && at_most b.min_x.0 a.max_x.0
    && at_most a.min_y.0 b.max_y.0 && at_most b.min_y.0 a.max_y.0

-- a's edges lie outside b's, or on them
pub record Contains (a b : Bounds) : Type 0 where
  pub left : IsAtMost a.min_x.0 b.min_x.0
  pub below : IsAtMost a.min_y.0 b.min_y.0
  pub right : IsAtMost b.max_x.0 a.max_x.0
  pub above : IsAtMost b.max_y.0 a.max_y.0

-- the same as a test
abbrev pub contains : Bounds → Bounds → Bool
contains a b =
    at_most a.min_x.0 b.min_x.0 && at_most a.min_y.0 b.min_y.0
    && at_most b.max_x.0 a.max_x.0 && at_most b.max_y.0 a.max_y.0

-- the one whose key is smaller, the first where they are equal
abbrev pub lesser : Coord → Coord → Coord
lesser a b = if at_most a.0 b.0 then a else b

-- the one whose key is greater, the first where they are equal
abbrev pub greater : Coord → Coord → Coord
greater a b = if at_most b.0 a.0 then a else b

-- the least box that contains both
abbrev pub join : Bounds → Bounds → Bounds
join a b = record {
  min_x = lesser a.min_x b.min_x;
  min_y = lesser a.min_y b.min_y;
  max_x = greater a.max_x b.max_x;
  max_y = greater a.max_y b.max_y;
}

-- the four keys are equal
pub record IsSame (a b : Bounds) : Type 0 where
  pub min_x : key_of a.min_x.0 ≡ key_of b.min_x.0
  pub min_y : key_of a.min_y.0 ≡ key_of b.min_y.0
  pub max_x : key_of a.max_x.0 ≡ key_of b.max_x.0
  pub max_y : key_of a.max_y.0 ≡ key_of b.max_y.0

-- the same as a test
abbrev pub same : Bounds → Bounds → Bool
same a b =
    same_key a.min_x.0 b.min_x.0 && same_key a.min_y.0 b.min_y.0
    && same_key a.max_x.0 b.max_x.0 && same_key a.max_y.0 b.max_y.0

-- no min comes after its max
pub record IsOrdered (a : Bounds) : Type 0 where
  pub in_x : IsAtMost a.min_x.0 a.max_x.0
  pub in_y : IsAtMost a.min_y.0 a.max_y.0

abbrev pub is_ordered : Bounds → Bool
is_ordered a = at_most a.min_x.0 a.max_x.0 && at_most a.min_y.0 a.max_y.0

-- no infinity and no NaN
pub record AreFinite (a : Bounds) : Type 0 where
  pub min_x : IsTrue (is_finite a.min_x.0)
  pub min_y : IsTrue (is_finite a.min_y.0)
  pub max_x : IsTrue (is_finite a.max_x.0)
  pub max_y : IsTrue (is_finite a.max_y.0)

abbrev pub are_finite : Bounds → Bool
are_finite a = is_finite a.min_x.0 && is_finite a.min_y.0 && is_finite a.max_x.0 && is_finite a.max_y.0

-- the empty box, or four finite patterns with no min after its max
abbrev pub IsBox : Bounds → Type 0
IsBox a = (a ≡ empty) ⊎ (AreFinite a × IsOrdered a)

-- the four patterns are equal
abbrev pub same_patterns : Bounds → Bounds → Bool
same_patterns a b = a.min_x.0 == b.min_x.0 && a.min_y.0 == b.min_y.0 && a.max_x.0 == b.max_x.0 && a.max_y.0 == b.max_y.0

-- the same as a test
abbrev pub is_box : Bounds → Bool
is_box a = same_patterns a empty || (are_finite a && is_ordered a)
