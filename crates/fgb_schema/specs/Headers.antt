-- The record that a header's buffer shows: each field is its default where it is absent, and else the number, the text
-- or the list that stands at its place. A byte of a bool is true where it is not 0 (FlatGeobuf, header.fbs).
use Rattle.std.specs.Prelude.{ℕ, ℤ, negsuc, pos, ◌==◌, ◌&&◌, not, nat_lt, Bool, List, [], ◌∷◌, map, if◌then◌else◌, Option}
use Rattle.std.specs.Option.{option_map}
use Rattle.std.specs.List.{range_with_len}
use Rattle.flat_layout.specs.Layout.{target, is_absent, led_to, number_in, signed_in, text, text_in, place_in, longs, count, entry_place}

-- the bool in field f
abbrev pub flag_in : List ℕ → ℕ → ℕ → ℕ → Bool
flag_in b t f otherwise = not (number_in 1 b t f otherwise == 0)

-- a column of the features' properties
pub record Column : Type 0 where
  pub name : List ℕ
  pub kind : ℕ
  pub title : Option (List ℕ)
  pub description : Option (List ℕ)
  pub width : ℤ
  pub precision : ℤ
  pub scale : ℤ
  pub nullable : Bool
  pub unique : Bool
  pub primary_key : Bool
  pub metadata : Option (List ℕ)

unfoldable pub column_at : List ℕ → ℕ → Column
column_at b t = record {
  name = text b (led_to b t 0);
  kind = number_in 1 b t 1 0;
  title = text_in b t 2;
  description = text_in b t 3;
  width = signed_in b t 4 (negsuc 0);
  precision = signed_in b t 5 (negsuc 0);
  scale = signed_in b t 6 (negsuc 0);
  nullable = flag_in b t 7 1;
  unique = flag_in b t 8 0;
  primary_key = flag_in b t 9 0;
  metadata = text_in b t 10;
}

-- the columns of the vector of tables at v
unfoldable pub columns_at : List ℕ → ℕ → List Column
columns_at b v = map (λ i. column_at b (target b (entry_place b v i))) (range_with_len 0 (count b v))

-- the columns in field f, none where it is absent
abbrev pub columns_in : List ℕ → ℕ → ℕ → List Column
columns_in b t f = if is_absent b t f then [] else columns_at b (led_to b t f)

-- the coordinate reference system
pub record Crs : Type 0 where
  pub org : Option (List ℕ)
  pub code : ℤ
  pub name : Option (List ℕ)
  pub description : Option (List ℕ)
  pub wkt : Option (List ℕ)
  pub code_string : Option (List ℕ)

unfoldable pub crs_at : List ℕ → ℕ → Crs
crs_at b t = record {
  org = text_in b t 0;
  code = signed_in b t 1 (pos 0);
  name = text_in b t 2;
  description = text_in b t 3;
  wkt = text_in b t 4;
  code_string = text_in b t 5;
}

pub record Header : Type 0 where
  pub name : Option (List ℕ)
  pub envelope : List ℕ
  pub geometry_type : ℕ
  pub has_z : Bool
  pub has_m : Bool
  pub has_t : Bool
  pub has_tm : Bool
  pub columns : List Column
  pub features_count : ℕ
  pub node_size : ℕ
  pub crs : Option Crs
  pub title : Option (List ℕ)
  pub description : Option (List ℕ)
  pub metadata : Option (List ℕ)

unfoldable pub header_at : List ℕ → ℕ → Header
header_at b t = record {
  name = text_in b t 0;
  envelope = if is_absent b t 1 then [] else longs b (led_to b t 1);
  geometry_type = number_in 1 b t 2 0;
  has_z = flag_in b t 3 0;
  has_m = flag_in b t 4 0;
  has_t = flag_in b t 5 0;
  has_tm = flag_in b t 6 0;
  columns = columns_in b t 7;
  features_count = number_in 8 b t 8 0;
  node_size = number_in 2 b t 9 16;
  crs = option_map (crs_at b) (place_in b t 10);
  title = text_in b t 11;
  description = text_in b t 12;
  metadata = text_in b t 13;
}

-- their types
abbrev pub types : List Column → List ℕ
types columns = map (λ (c : Column). c.kind) columns

-- of two lists of columns, or of their types, the one that holds: a feature's own where it has some, else the header's
abbrev pub holding : {A : Type 0} → List A → List A → List A
holding [] outer = outer
holding (first ∷ rest) outer = first ∷ rest

-- the header that a buffer shows
abbrev pub header_of : List ℕ → Header
header_of b = header_at b (target b 0)

-- the file has an index exactly where both are above 0
abbrev pub has_index : Header → Bool
has_index h = nat_lt 0 h.features_count && nat_lt 0 h.node_size
