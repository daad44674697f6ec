-- The one little-endian spelling of a shape, as WKB (OGC 06-103r4, section 8.2) and as EWKB (PostGIS, "Extended WKB").
use Rattle.std.specs.Prelude.{◌≡◌, ℕ, ◌+◌, ◌-◌, ◌==◌, List, [], ◌∷◌, ◌++◌, map, take, drop, length, if◌then◌else◌}
use Rattle.std.specs.List.{concat, flat_map}
use Rattle.byteorder.specs.Endian.{little_bytes}
use Rattle.fgb_schema.specs.Shapes.{Shape, shape, Shapes, none, more, type_in, points_in, rings_in, ordinates_in, parts_in}
use Rattle.wkb_writer.specs.declared.dialect.Dialect.{Dialect}
use Rattle.wkb_writer.specs.declared.dialect.Dialect.TheVariants.{Iso, Extended}
use Rattle.wkb_writer.specs.Dimensions.{Dimension, IsDimension}

-- the number of a type: that of its kind, with 1000 more for z and 2000 more for m
abbrev pub type_number : ℕ → Dimension → ℕ
type_number kind d = kind + (if d.z then 1000 else 0) + (if d.m then 2000 else 0)

-- the bits of a type of EWKB that say that a value has z, m and the number of a reference system (SRID)
abbrev pub z_flag : ℕ
z_flag = 0x80000000

abbrev pub m_flag : ℕ
m_flag = 0x40000000

abbrev pub srid_flag : ℕ
srid_flag = 0x20000000

-- the number of a type in a dialect: in EWKB the flags say z and m
abbrev pub number_in : Dialect → ℕ → Dimension → ℕ
number_in Iso kind d = type_number kind d
number_in Extended kind d = kind + (if d.z then z_flag else 0) + (if d.m then m_flag else 0)

-- the byte order and the type in front of a value
abbrev pub head : Dialect → ℕ → Dimension → List ℕ
head dialect kind d = 1 ∷ little_bytes 4 (number_in dialect kind d)

-- some things in front of which stands how many they are
abbrev pub counted : List (List ℕ) → List ℕ
counted things = little_bytes 4 (length things) ++ concat things

-- the ordinates of each point: x, y, then its z and its m where there are such lists
abbrev pub rows : List (ℕ × ℕ) → List ℕ → List ℕ → List (List ℕ)
rows [] z m = []
rows (p ∷ points) z m = (p.0 ∷ p.1 ∷ take 1 z ++ take 1 m) ∷ rows points (drop 1 z) (drop 1 m)

-- the bytes of a point's ordinates
abbrev pub row_bytes : List ℕ → List ℕ
row_bytes row = flat_map (little_bytes 8) row

-- the points of a line, in front of which stands how many they are
abbrev pub line_bytes : List (List ℕ) → List ℕ
line_bytes line = counted (map row_bytes line)

-- the ordinate of a Point without points, a NaN
abbrev pub nowhere : ℕ
nowhere = 9221120237041090560

-- the bytes of the ordinates of a Point without points
abbrev pub nowhere_bytes : Dimension → List ℕ
nowhere_bytes d = row_bytes (nowhere ∷ nowhere ∷ (if d.z then nowhere ∷ [] else []) ++ (if d.m then nowhere ∷ [] else []))

-- the body of a Point
abbrev pub point_body : Dimension → List (List ℕ) → List ℕ
point_body d [] = nowhere_bytes d
point_body d (row ∷ rest) = row_bytes row

-- the points of a ring, of those of the shape
abbrev pub ring_of : List (List ℕ) → ℕ × ℕ → List (List ℕ)
ring_of points ring = take (ring.1 - ring.0) (drop ring.0 points)

-- what follows the head of a value: one point; points; rings; Points; LineStrings; else whole values
unfoldable pub body : Dialect → Dimension → ℕ → List (List ℕ) → List (ℕ × ℕ) → List (List ℕ) → List ℕ
body dialect d kind points rings parts =
    if kind == 1 then point_body d points
    else if kind == 2 then line_bytes points
    else if kind == 3 then counted (map (λ ring. line_bytes (ring_of points ring)) rings)
    else if kind == 4 then counted (map (λ row. head dialect 1 d ++ row_bytes row) points)
    else if kind == 5 then counted (map (λ ring. head dialect 2 d ++ line_bytes (ring_of points ring)) rings)
    else counted parts

-- the value of a shape all of whose points have this dimension, and the values of some shapes
abbrev mutual
  pub value_in : Dialect → Dimension → Shape → List ℕ
  value_in dialect d (shape kind own rings ordinates parts) =
      head dialect kind d ++ body dialect d kind (rows own ordinates.z ordinates.m) rings (values_in dialect d parts)

  pub values_in : Dialect → Dimension → Shapes → List (List ℕ)
  values_in dialect d none = []
  values_in dialect d (more first rest) = value_in dialect d first ∷ values_in dialect d rest

-- the value as WKB
abbrev pub value : Dimension → Shape → List ℕ
value d g = value_in Iso d g

-- what follows the head of the value of a shape
abbrev pub body_of : Dialect → Dimension → Shape → List ℕ
body_of dialect d g = body dialect d (type_in g) (rows (points_in g) (ordinates_in g).z (ordinates_in g).m) (rings_in g) (map (value_in dialect d) (parts_in g))

-- the value as EWKB: of its heads the outermost alone says the number of a reference system, behind its type
abbrev pub value_with_srid : ℕ → Dimension → Shape → List ℕ
value_with_srid srid d g = (1 ∷ little_bytes 4 (number_in Extended (type_in g) d + srid_flag) ++ little_bytes 4 srid) ++ body_of Extended d g

-- the bytes are the spelling of the shape
pub record IsWkb (g : Shape) (bytes : List ℕ) : Type 0 where
  pub dimension : Dimension
  pub is : IsDimension g dimension
  pub spelled : bytes ≡ value dimension g

-- the bytes are the spelling of the shape as EWKB, with the number of this reference system
pub record IsEwkb (srid : ℕ) (g : Shape) (bytes : List ℕ) : Type 0 where
  pub dimension : Dimension
  pub is : IsDimension g dimension
  pub spelled : bytes ≡ value_with_srid srid dimension g

-- the spelling of the shape has so many bytes
pub record IsWkbSize (g : Shape) (size : ℕ) : Type 0 where
  pub bytes : List ℕ
  pub is : IsWkb g bytes
  pub long : size ≡ length bytes
