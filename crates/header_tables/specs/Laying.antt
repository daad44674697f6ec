-- The tables as which a header is laid (FlatGeobuf, header.fbs): a number where it differs from its default, a text
-- and a table where there is one, a vector where it is not empty.
use Rattle.std.specs.Prelude.{ℕ, ℤ, negsuc, pos, ◌+◌, ◌==◌, Bool, true, false, List, [], ◌∷◌, fold, if◌then◌else◌, Option, Some, None}
use Rattle.std.specs.Option.{option_map}
use Rattle.std.specs.Int.{w32, cast_unsigned}
use Rattle.fgb_schema.specs.Headers.{Header, Column, Crs}
use Rattle.flat_builder.specs.Trees.{Item, number, string, vector, table, tables, Fields, none, put, Tables, empty, push}

abbrev pub text : Option (List ℕ) → Option Item
text t = option_map string t

-- a number of w bytes, and its default
abbrev pub scalar : ℕ → ℕ → ℕ → Option Item
scalar w otherwise v = if v == otherwise then None else Some (number w v)

-- a signed number of 4 bytes, by its two's complement
abbrev pub signed : ℤ → ℤ → Option Item
signed otherwise z = scalar 4 (cast_unsigned w32 otherwise) (cast_unsigned w32 z)

abbrev pub flag : Bool → Bool → Option Item
flag otherwise b = scalar 1 (if otherwise then 1 else 0) (if b then 1 else 0)

abbrev pub doubles : List ℕ → Option Item
doubles [] = None
doubles (first ∷ rest) = Some (vector 8 (first ∷ rest))

-- the table with those of these fields that are there, whose ids go from this one on
abbrev pub with_fields : Fields → ℕ → List (Option Item) → Fields
with_fields fs id [] = fs
with_fields fs id (None ∷ rest) = with_fields fs (id + 1) rest
with_fields fs id (Some it ∷ rest) = with_fields (put fs id it) (id + 1) rest

-- name, type, title, description, width, precision, scale, nullable, unique, primary_key, metadata
abbrev pub column_items : Column → List (Option Item)
column_items c =
    Some (string c.name) ∷ scalar 1 0 c.kind ∷ text c.title ∷ text c.description
    ∷ signed (negsuc 0) c.width ∷ signed (negsuc 0) c.precision ∷ signed (negsuc 0) c.scale
    ∷ flag true c.nullable ∷ flag false c.unique ∷ flag false c.primary_key ∷ text c.metadata ∷ []

unfoldable pub column_table : Column → Fields
column_table c = with_fields none 0 (column_items c)

-- org, code, name, description, wkt, code_string
abbrev pub crs_items : Crs → List (Option Item)
crs_items c =
    text c.org ∷ signed (pos 0) c.code ∷ text c.name ∷ text c.description ∷ text c.wkt ∷ text c.code_string ∷ []

unfoldable pub crs_table : Crs → Fields
crs_table c = with_fields none 0 (crs_items c)

unfoldable pub column_tables : List Column → Tables
column_tables columns = fold (λ before c. push before (column_table c)) empty columns

abbrev pub columns_item : List Column → Option Item
columns_item [] = None
columns_item (first ∷ rest) = Some (tables (column_tables (first ∷ rest)))

-- name, envelope, geometry_type, has_z, has_m, has_t, has_tm, columns, features_count, index_node_size, crs, title,
-- description, metadata
abbrev pub header_items : Header → List (Option Item)
header_items h =
    text h.name ∷ doubles h.envelope ∷ scalar 1 0 h.geometry_type
    ∷ flag false h.has_z ∷ flag false h.has_m ∷ flag false h.has_t ∷ flag false h.has_tm
    ∷ columns_item h.columns ∷ scalar 8 0 h.features_count ∷ scalar 2 16 h.node_size
    ∷ option_map (λ c. table (crs_table c)) h.crs ∷ text h.title ∷ text h.description ∷ text h.metadata ∷ []

unfoldable pub header_table : Header → Fields
header_table h = with_fields none 0 (header_items h)
