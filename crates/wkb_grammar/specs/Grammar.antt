-- The values of WKB (OGC 06-103r4, section 8.2) and of EWKB (PostGIS, "Extended WKB") in either byte order, and the bytes of
-- each. A value of WKB is one of EWKB of whose types none has a flag.
use Rattle.std.specs.Prelude.{◌≡◌, ◌⊎◌, ℕ, ◌+◌, ◌==◌, ◌^◌, ◌<◌, ◌&&◌, ◌||◌, not, nat_le, Bool, true, false, IsTrue, List, [], ◌∷◌, ◌++◌, map, length, Option, Some, None, if◌then◌else◌, ⊤}
use Rattle.std.specs.List.{All, list_all, concat, flat_map}
use Rattle.byteorder.specs.Endian.{big_bytes, little_bytes}
use Rattle.order_keys.specs.Keys.{is_finite}
use Rattle.wkb_writer.specs.declared.dialect.Dialect.{Dialect}
use Rattle.wkb_writer.specs.declared.dialect.Dialect.TheVariants.{Iso, Extended}
use Rattle.wkb_writer.specs.declared.dimension.Dimension.{Dimension}
use Rattle.wkb_writer.specs.Dimensions.{flat}
use Rattle.wkb_writer.specs.Wkb.{nowhere, type_number, z_flag, m_flag, srid_flag}

-- the byte order of a value: the highest byte first, or the lowest
pub data Order : Type 0 where
  big : Order
  little : Order

-- how the head of a value is spelled: its byte order, what the thousands and what the flags of its type say of z and m, and
-- the number of a reference system (SRID), if there is one
pub record Spelling : Type 0 where
  pub order : Order
  pub thousands : Dimension
  pub flags : Dimension
  pub srid : Option ℕ

-- the ordinates of a point: x, y, and beside them z and m, where the dimension has them
pub record Position : Type 0 where
  pub x : ℕ
  pub y : ℕ
  pub beside : List ℕ

-- a value: how its head is spelled, its dimension, and a point, a line, rings, or members of a type from 4 on
mutual
  pub data Value : Type 0 where
    value : Spelling → Dimension → Body → Value

  pub data Body : Type 0 where
    point : Position → Body
    line : List Position → Body
    polygon : List (List Position) → Body
    multi : ℕ → Values → Body

  pub data Values : Type 0 where
    nothing : Values
    also : Value → Values → Values

-- the number of the kind of a body
abbrev pub kind_in : Body → ℕ
kind_in (point p) = 1
kind_in (line ps) = 2
kind_in (polygon rings) = 3
kind_in (multi kind members) = kind

-- the body of a value
abbrev pub body_in : Value → Body
body_in (value s d body) = body

abbrev pub order_byte : Order → ℕ
order_byte big = 0
order_byte little = 1

-- a number of so many bytes
abbrev pub number_bytes : Order → ℕ → ℕ → List ℕ
number_bytes big width x = big_bytes width x
number_bytes little width x = little_bytes width x

abbrev pub ordinates_of : Position → List ℕ
ordinates_of p = p.x ∷ p.y ∷ p.beside

abbrev pub position_bytes : Order → Position → List ℕ
position_bytes order p = flat_map (number_bytes order 8) (ordinates_of p)

-- some things in front of which stands how many they are
abbrev pub counted_in : Order → List (List ℕ) → List ℕ
counted_in order things = number_bytes order 4 (length things) ++ concat things

abbrev pub line_bytes_in : Order → List Position → List ℕ
line_bytes_in order ps = counted_in order (map (position_bytes order) ps)

abbrev pub has_srid : Option ℕ → Bool
has_srid None = false
has_srid (Some n) = true

-- the number of a type: that of its kind with thousands, and flags
abbrev pub type_in : Spelling → ℕ → ℕ
type_in s kind =
    type_number kind s.thousands + (if has_srid s.srid then srid_flag else 0) + (if s.flags.m then m_flag else 0) + (if s.flags.z then z_flag else 0)

-- the byte order and the type in front of a value
abbrev pub head_in : Spelling → ℕ → List ℕ
head_in s kind = order_byte s.order ∷ number_bytes s.order 4 (type_in s kind)

-- the number of a reference system, behind the type
abbrev pub srid_bytes : Order → Option ℕ → List ℕ
srid_bytes order None = []
srid_bytes order (Some n) = number_bytes order 4 n

abbrev pub srid_in : Spelling → List ℕ
srid_in s = srid_bytes s.order s.srid

-- the bytes of a value; each member has a head of its own
abbrev mutual
  pub bytes_of : Value → List ℕ
  bytes_of (value s d body) = head_in s (kind_in body) ++ (srid_in s ++ body_bytes s.order body)

  pub body_bytes : Order → Body → List ℕ
  body_bytes order (point p) = position_bytes order p
  body_bytes order (line ps) = line_bytes_in order ps
  body_bytes order (polygon rings) = counted_in order (map (line_bytes_in order) rings)
  body_bytes order (multi kind members) = counted_in order (each_bytes members)

  pub each_bytes : Values → List (List ℕ)
  each_bytes nothing = []
  each_bytes (also first rest) = bytes_of first ∷ each_bytes rest

-- how many ordinates a point has beside x and y
abbrev pub beside_of : Dimension → ℕ
beside_of d = (if d.z then 1 else 0) + (if d.m then 1 else 0)

-- the point of an empty Point
abbrev pub is_nowhere : Position → Bool
is_nowhere p = list_all (λ x. x == nowhere) (ordinates_of p)

-- patterns, as many as the dimension says
pub record IsSpelled (d : Dimension) (p : Position) : Type 0 where
  pub patterns : All (λ x. x < 2 ^ 64) (ordinates_of p)
  pub enough : length p.beside ≡ beside_of d

-- a point with a finite x and y
pub record IsPosition (d : Dimension) (p : Position) : Type 0 where
  pub spelled : IsSpelled d p
  pub finite_x : IsTrue (is_finite p.x)
  pub finite_y : IsTrue (is_finite p.y)

-- so many that a count of four bytes says it
abbrev pub AreCounted : {A : Type 0} → List A → Type 0
AreCounted things = length things < 2 ^ 32

abbrev pub IsLine : Dimension → List Position → Type 0
IsLine d ps = All (IsPosition d) ps × AreCounted ps

-- whether a value of this kind is made of members
abbrev pub is_multi : ℕ → Bool
is_multi kind = nat_le 4 kind && nat_le kind 7

-- whether this body can be that of a member of a value of this kind: a point that is somewhere, a line, rings, any
abbrev pub is_member : ℕ → Body → Bool
is_member kind (point p) = (kind == 7) || ((kind == 4) && not (is_nowhere p))
is_member kind (line ps) = (kind == 7) || (kind == 5)
is_member kind (polygon rings) = (kind == 7) || (kind == 6)
is_member kind (multi inner members) = kind == 7

-- the dimension that flags or thousands say
abbrev pub dimension_by : Spelling → Dimension
dimension_by s = record { z = s.flags.z || s.thousands.z; m = s.flags.m || s.thousands.m }

-- a number of four bytes, if there is one
abbrev pub IsSrid : Option ℕ → Type 0
IsSrid None = ⊤
IsSrid (Some n) = n < 2 ^ 32

-- the head of a value of this dimension
pub record IsHead (s : Spelling) (d : Dimension) : Type 0 where
  pub says : dimension_by s ≡ d
  pub srid : IsSrid s.srid

-- a value of this dimension
abbrev mutual
  pub IsValue : Dimension → Value → Type 0
  IsValue d (value s own body) = (own ≡ d) × IsBody d body × IsHead s own

  pub IsBody : Dimension → Body → Type 0
  IsBody d (point p) = IsPosition d p ⊎ (IsSpelled d p × IsTrue (is_nowhere p))
  IsBody d (line ps) = IsLine d ps
  IsBody d (polygon rings) = All (IsLine d) rings × AreCounted rings
  IsBody d (multi kind members) = IsTrue (is_multi kind) × AreMembers kind d members × AreCounted (each_bytes members)

  pub AreMembers : ℕ → Dimension → Values → Type 0
  AreMembers kind d nothing = ⊤
  AreMembers kind d (also first rest) = IsTrue (is_member kind (body_in first)) × IsValue d first × AreMembers kind d rest

-- the heads of a dialect: in WKB there are no flags
abbrev pub IsHeadIn : Dialect → Spelling → Type 0
IsHeadIn Iso s = (s.flags ≡ flat) × (s.srid ≡ None)
IsHeadIn Extended s = ⊤

-- a value of a dialect, by its heads at every depth
abbrev mutual
  pub IsIn : Dialect → Value → Type 0
  IsIn dialect (value s d body) = IsHeadIn dialect s × IsBodyIn dialect body

  pub IsBodyIn : Dialect → Body → Type 0
  IsBodyIn dialect (point p) = ⊤
  IsBodyIn dialect (line ps) = ⊤
  IsBodyIn dialect (polygon rings) = ⊤
  IsBodyIn dialect (multi kind members) = AreIn dialect members

  pub AreIn : Dialect → Values → Type 0
  AreIn dialect nothing = ⊤
  AreIn dialect (also first rest) = IsIn dialect first × AreIn dialect rest
