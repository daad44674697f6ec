-- Feature records that can be written, and under which headers (FlatGeobuf, feature.fbs, Feature).
use Rattle.std.specs.Prelude.{◌≡◌, ℕ, ℤ, pos, ◌^◌, ◌<◌, ◌≤◌, Bool, List, length, slice_index}
use Rattle.std.specs.Option.{ForSome}
use Rattle.std.specs.List.{AllByRecursion}
use Rattle.std.specs.Int.{w8, w16, w32, w64}
use Rattle.std.specs.Int.RustNames.{FitsSigned}
use Rattle.fgb_values.specs.Values.{Content, Whole, Truth, Pattern, Bytes}
use Rattle.fgb_schema.specs.Headers.{Header, types}
use Rattle.fgb_schema.specs.Properties.{Property}
use Rattle.fgb_schema.specs.Features.{Feature, columns_holding}
use Rattle.header_tables.specs.Records.{IsColumn}
use Rattle.shape_tables.specs.Records.{IsRecord as IsShape, Suits}

-- bytes are numbers below 256
abbrev pub AreBytes : List ℕ → Type 0
AreBytes bytes = AllByRecursion (λ x. x < 256) bytes

-- a value of a column of this type (FlatGeobuf, header.fbs, ColumnType); texts are bytes, and are not judged
pub data IsValue : ℕ → Content → Type 0 where
  byte : {z : ℤ} → FitsSigned w8 z → IsValue 0 (Whole z)
  ubyte : {n : ℕ} → n < 2 ^ 8 → IsValue 1 (Whole (pos n))
  truth : {y : Bool} → IsValue 2 (Truth y)
  short : {z : ℤ} → FitsSigned w16 z → IsValue 3 (Whole z)
  ushort : {n : ℕ} → n < 2 ^ 16 → IsValue 4 (Whole (pos n))
  int : {z : ℤ} → FitsSigned w32 z → IsValue 5 (Whole z)
  uint : {n : ℕ} → n < 2 ^ 32 → IsValue 6 (Whole (pos n))
  long : {z : ℤ} → FitsSigned w64 z → IsValue 7 (Whole z)
  ulong : {n : ℕ} → n < 2 ^ 64 → IsValue 8 (Whole (pos n))
  float : {n : ℕ} → n < 2 ^ 32 → IsValue 9 (Pattern n)
  double : {n : ℕ} → n < 2 ^ 64 → IsValue 10 (Pattern n)
  text : {bytes : List ℕ} → AreBytes bytes → IsValue 11 (Bytes bytes)
  json : {bytes : List ℕ} → AreBytes bytes → IsValue 12 (Bytes bytes)
  date_time : {bytes : List ℕ} → AreBytes bytes → IsValue 13 (Bytes bytes)
  binary : {bytes : List ℕ} → AreBytes bytes → IsValue 14 (Bytes bytes)

-- a property has a key of 2 bytes, and a value of its type
pub record IsProperty (p : Property) : Type 0 where
  pub key : p.column < 2 ^ 16
  pub value : IsValue p.kind p.content

-- the parts of a feature can stand in a file
pub record IsRecord (f : Feature) : Type 0 where
  pub shape : ForSome f.shape IsShape
  pub properties : AllByRecursion IsProperty f.properties
  pub columns : AllByRecursion IsColumn f.columns
  pub few : length f.columns ≤ 65536

-- a property names one of some columns, and is of its type
pub record NamesColumn (kinds : List ℕ) (p : Property) : Type 0 where
  pub there : p.column < length kinds
  pub same : slice_index kinds p.column ≡ p.kind

-- a feature may stand under a header: its geometry has the header's type, where that is known, and each of its
-- properties names a column that holds, and is of its type
pub record Fits (h : Header) (f : Feature) : Type 0 where
  pub shape : ForSome f.shape (Suits h.geometry_type)
  pub properties : AllByRecursion (NamesColumn (types (columns_holding h f))) f.properties
