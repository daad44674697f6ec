-- The tables of a FlatGeobuf file and what is read of each (FlatGeobuf, header.fbs and feature.fbs).
use Rattle.std.specs.Prelude.{ℕ, ◌+◌, ◌==◌, nat_le, ◌&&◌, ◌||◌, not, Bool, List, [], ◌∷◌, ◌++◌, if◌then◌else◌}
use Rattle.flat_layout.specs.Layout.{is_absent, is_field, number_in}

-- a table by its name: a header, a column, a coordinate reference system; a feature under a header of this geometry
-- type, whose columns have these types; a geometry to which this type is given from outside, 0 where its own field
-- decides, and which stands at this depth, the first at 1
pub data Name : Type 0 where
  header : Name
  column : Name
  crs : Name
  feature : ℕ → List ℕ → Name
  geometry : ℕ → ℕ → Name

-- what an offset leads to: a table, a vector of tables, a string, a vector of numbers of so many bytes each, or the
-- vector of x and y by turns of a geometry of this type
pub data Thing : Type 0 where
  table : Name → Thing
  tables : Name → Thing
  string : Thing
  numbers : ℕ → Thing
  pairs : ℕ → Thing

-- what a field holds: a number of so many bytes, or an offset
pub data Content : Type 0 where
  scalar : ℕ → Content
  link : Thing → Content

-- the type that holds for a geometry: the one given from outside, else that of its own field
unfoldable pub type_of : ℕ → List ℕ → ℕ → ℕ
type_of outer b t = if outer == 0 then number_in 1 b t 6 0 else outer

-- a field is absent or sound, so that what it holds is known
abbrev pub is_readable : ℕ → List ℕ → ℕ → ℕ → Bool
is_readable width b t id = is_absent b t id || is_field width b t id

-- whether a type holds at all: where its own field decides, that field has to be readable
unfoldable pub is_typed : ℕ → List ℕ → ℕ → Bool
is_typed outer b t = not (outer == 0) || is_readable 1 b t 6

-- the own type field of a geometry, which is read only where it decides
abbrev pub own_type : ℕ → List (ℕ × Content)
own_type outer = if outer == 0 then (6, scalar 1) ∷ [] else []

-- the same type, 0 where none holds
abbrev pub kind_of : ℕ → List ℕ → ℕ → ℕ
kind_of outer b t = if is_typed outer b t then type_of outer b t else 0

-- Point, LineString, Polygon, MultiPoint, MultiLineString, MultiPolygon, GeometryCollection
abbrev pub is_kind : ℕ → Bool
is_kind kind = nat_le 1 kind && nat_le kind 7

-- all but the last two have points of their own
abbrev pub has_points : ℕ → Bool
has_points kind = nat_le 1 kind && nat_le kind 5

-- of these, Polygon and MultiLineString have rings
abbrev pub has_rings : ℕ → Bool
has_rings kind = kind == 3 || kind == 5

-- the last two have parts
abbrev pub has_parts : ℕ → Bool
has_parts kind = kind == 6 || kind == 7

-- the type that is given to a part from outside: those of a MultiPolygon are Polygons
abbrev pub part_type : ℕ → ℕ
part_type kind = if kind == 6 then 3 else 0

-- ends
abbrev pub ring_fields : ℕ → List (ℕ × Content)
ring_fields kind = if has_rings kind then (0, link (numbers 4)) ∷ [] else []

-- xy, z, m, t, tm
abbrev pub point_fields : ℕ → List (ℕ × Content)
point_fields kind =
    if has_points kind then (1, link (pairs kind)) ∷ (2, link (numbers 8)) ∷ (3, link (numbers 8)) ∷ (4, link (numbers 8)) ∷ (5, link (numbers 8)) ∷ []
    else []

-- parts
abbrev pub part_fields : ℕ → ℕ → List (ℕ × Content)
part_fields depth kind = if has_parts kind then (7, link (tables (geometry (part_type kind) (depth + 1)))) ∷ [] else []

-- name, envelope, geometry_type, has_z, has_m, has_t, has_tm, columns, features_count, index_node_size, crs, title,
-- description, metadata
abbrev pub header_fields : List (ℕ × Content)
header_fields =
    (0, link string) ∷ (1, link (numbers 8)) ∷ (2, scalar 1) ∷ (3, scalar 1) ∷ (4, scalar 1) ∷ (5, scalar 1) ∷ (6, scalar 1)
    ∷ (7, link (tables column)) ∷ (8, scalar 8) ∷ (9, scalar 2) ∷ (10, link (table crs))
    ∷ (11, link string) ∷ (12, link string) ∷ (13, link string) ∷ []

-- name, type, title, description, width, precision, scale, nullable, unique, primary_key, metadata
abbrev pub column_fields : List (ℕ × Content)
column_fields =
    (0, link string) ∷ (1, scalar 1) ∷ (2, link string) ∷ (3, link string) ∷ (4, scalar 4) ∷ (5, scalar 4) ∷ (6, scalar 4)
    ∷ (7, scalar 1) ∷ (8, scalar 1) ∷ (9, scalar 1) ∷ (10, link string) ∷ []

-- org, code, name, description, wkt, code_string
abbrev pub crs_fields : List (ℕ × Content)
crs_fields =
    (0, link string) ∷ (1, scalar 4) ∷ (2, link string) ∷ (3, link string) ∷ (4, link string) ∷ (5, link string) ∷ []

-- geometry, properties, columns
abbrev pub feature_fields : ℕ → List (ℕ × Content)
feature_fields outer = (0, link (table (geometry outer 1))) ∷ (1, link (numbers 1)) ∷ (2, link (tables column)) ∷ []

-- the fields that are read of a table at t: their numbers in the schema, and what each holds
unfoldable pub fields : Name → List ℕ → ℕ → List (ℕ × Content)
fields header b t = header_fields
fields column b t = column_fields
fields crs b t = crs_fields
fields (feature outer kinds) b t = feature_fields outer
fields (geometry outer depth) b t =
    own_type outer ++ ring_fields (kind_of outer b t) ++ point_fields (kind_of outer b t) ++ part_fields depth (kind_of outer b t)
