-- Header records that can be written (FlatGeobuf, header.fbs).
use Rattle.std.specs.Prelude.{◌≢◌, ℕ, negsuc, ◌^◌, ◌<◌, ◌≤◌, true, false, List, [], length, None, IsUtf8}
use Rattle.std.specs.Option.{ForSome}
use Rattle.std.specs.List.{AllByRecursion}
use Rattle.std.specs.Int.{w32}
use Rattle.std.specs.Int.RustNames.{FitsSigned}
use Rattle.fgb_schema.specs.Headers.{Header, Column, Crs}

-- a column has a known type, and texts and numbers that have room
pub record IsColumn (c : Column) : Type 0 where
  pub name : IsUtf8 c.name
  pub kind : c.kind ≤ 14
  pub title : ForSome c.title IsUtf8
  pub description : ForSome c.description IsUtf8
  pub metadata : ForSome c.metadata IsUtf8
  pub width : FitsSigned w32 c.width
  pub precision : FitsSigned w32 c.precision
  pub scale : FitsSigned w32 c.scale

pub record IsCrs (c : Crs) : Type 0 where
  pub org : ForSome c.org IsUtf8
  pub code : FitsSigned w32 c.code
  pub name : ForSome c.name IsUtf8
  pub description : ForSome c.description IsUtf8
  pub wkt : ForSome c.wkt IsUtf8
  pub code_string : ForSome c.code_string IsUtf8

-- a header has a known type, an index of no or of more than one child a node, and few columns
pub record IsRecord (h : Header) : Type 0 where
  pub kind : h.geometry_type ≤ 7
  pub wide : h.node_size ≢ 1
  pub few : length h.columns ≤ 65536
  pub columns : AllByRecursion IsColumn h.columns
  pub crs : ForSome h.crs IsCrs
  pub envelope : AllByRecursion (λ x. x < 2 ^ 64) h.envelope
  pub count : h.features_count < 2 ^ 64
  pub size : h.node_size < 2 ^ 16
  pub name : ForSome h.name IsUtf8
  pub title : ForSome h.title IsUtf8
  pub description : ForSome h.description IsUtf8
  pub metadata : ForSome h.metadata IsUtf8

-- every field at its default but the type
abbrev pub plain : ℕ → Header
plain geometry_type = record {
  name = None;
  envelope = [];
  geometry_type = geometry_type;
  has_z = false;
  has_m = false;
  has_t = false;
  has_tm = false;
  columns = [];
  features_count = 0;
  node_size = 16;
  crs = None;
  title = None;
  description = None;
  metadata = None;
}

-- the same of a column but for its name and its type
abbrev pub plain_column : List ℕ → ℕ → Column
plain_column name kind = record {
  name = name;
  kind = kind;
  title = None;
  description = None;
  width = negsuc 0;
  precision = negsuc 0;
  scale = negsuc 0;
  nullable = true;
  unique = false;
  primary_key = false;
  metadata = None;
}
