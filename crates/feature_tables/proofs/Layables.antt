-- The table of a feature record that can be written can be laid.
use Rattle.std.proofs.Common.{◌≡◌, ◌⊎◌, inl, inr, ℕ, ℤ, negsuc, zero, suc, ◌*◌, ◌^◌, ◌<◌, Bool, true, false, List, [], ◌∷◌, length, Option, Some, None, if◌then◌else◌, refl, sym, subst, arith}
use Rattle.std.specs.Prelude.{IsUtf8}
use Rattle.std.specs.Option.{ForSome, option_map}
use Rattle.std.specs.List.{AllByRecursion}
use Rattle.std.specs.Int.{w32, cast_unsigned, byte_at, bytes_low_first}
use Rattle.std.specs.Int.RustNames.{FitsSigned}
use Rattle.std.proofs.Math.Facts.{Fits-of_z}
use Rattle.fgb_values.specs.Values.{Content, width}
use Rattle.fgb_schema.specs.Headers.{Column}
use Rattle.fgb_schema.specs.Properties.{Property}
use Rattle.fgb_schema.specs.Shapes.{Shape}
use Rattle.fgb_schema.specs.Features.{Feature}
use Rattle.flat_builder.specs.Trees.{number, table, none, Tables, empty, push}
use Rattle.flat_laid.specs.Trees.{AreLayable, EachLayable}
use Rattle.header_tables.specs.Laying.{text, signed, flag, column_items, column_table, column_tables, columns_item}
use Rattle.header_tables.specs.Records.{IsColumn}
use Rattle.shape_tables.specs.Laying.{shape_table}
use Rattle.shape_tables.specs.Records.{IsRecord as IsShape}
use Rattle.shape_tables.proofs.Layables.{MayLay, ◌&◌, from_list, may_numbers, shape_layable}
use Rattle.feature_tables.specs.Laying.{value_bytes, pair_bytes, properties_bytes, feature_items, feature_table}
use Rattle.feature_tables.specs.Records.{AreBytes, IsValue, byte, ubyte, truth, short, ushort, int, uint, long, ulong, float, double, text as text_value, json, date_time, binary, IsProperty, IsRecord}
use Rattle.feature_tables.proofs.Bytes.{bytes-append, text_bytes}
use Rattle.feature_tables.proofs.ColumnTables.{as_listed}
use Rattle.feature_tables.proofs.ColumnLists.{pushed}

-- the bytes of properties
one_byte : (i x : ℕ) → byte_at i x < 256
one_byte zero x = omega arith
one_byte (suc i) x = omega arith

low_bytes : (i n x : ℕ) → AreBytes (bytes_low_first i n x)
low_bytes i zero x = tt
low_bytes i (suc n) x = (one_byte i x, low_bytes (suc i) n x)

value_low : (kind : ℕ) (content : Content) → IsValue kind content → AreBytes (value_bytes kind content)
unfolding value_bytes
value_low kind content (byte room) = low_bytes 0 (width 0) _
value_low kind content (ubyte room) = low_bytes 0 (width 1) _
value_low kind content (truth {y = true}) = omega arith
value_low kind content (truth {y = false}) = omega arith
value_low kind content (short room) = low_bytes 0 (width 3) _
value_low kind content (ushort room) = low_bytes 0 (width 4) _
value_low kind content (int room) = low_bytes 0 (width 5) _
value_low kind content (uint room) = low_bytes 0 (width 6) _
value_low kind content (long room) = low_bytes 0 (width 7) _
value_low kind content (ulong room) = low_bytes 0 (width 8) _
value_low kind content (float room) = low_bytes 0 (width 9) _
value_low kind content (double room) = low_bytes 0 (width 10) _
value_low kind content (text_value {bytes} each) = bytes-append (bytes_low_first 0 4 (length bytes)) bytes (low_bytes 0 4 (length bytes)) each
value_low kind content (json {bytes} each) = bytes-append (bytes_low_first 0 4 (length bytes)) bytes (low_bytes 0 4 (length bytes)) each
value_low kind content (date_time {bytes} each) = bytes-append (bytes_low_first 0 4 (length bytes)) bytes (low_bytes 0 4 (length bytes)) each
value_low kind content (binary {bytes} each) = bytes-append (bytes_low_first 0 4 (length bytes)) bytes (low_bytes 0 4 (length bytes)) each

pair_low : (p : Property) → IsProperty p → AreBytes (pair_bytes p)
unfolding pair_bytes
pair_low p is = bytes-append (bytes_low_first 0 2 p.column) (value_bytes p.kind p.content) (low_bytes 0 2 p.column) (value_low p.kind p.content is.value)

properties_low : (ps : List Property) → AllByRecursion IsProperty ps → AreBytes (properties_bytes ps)
properties_low [] are = tt
properties_low (p ∷ rest) are = bytes-append (pair_bytes p) (properties_bytes rest) (pair_low p are.0) (properties_low rest are.1)

-- columns
may_text : (o : Option (List ℕ)) → ForSome o IsUtf8 → MayLay (text o)
may_text None utf8 = tt
may_text (Some s) utf8 = text_bytes s (utf8 s refl)

may_number : (same : Bool) (w v : ℕ) → (w ≡ 1) ⊎ (w ≡ 2) ⊎ (w ≡ 4) ⊎ (w ≡ 8) → v < 2 ^ (8 * w) → MayLay (if same then None else Some (number w v))
may_number true w v width room = tt
may_number false w v width room = (width, room)

may_flag : (otherwise x : Bool) → MayLay (flag otherwise x)
may_flag otherwise x = may_number _ 1 (if x then 1 else 0) (inl refl) (small x)
  where
    small : (x : Bool) → (if x then 1 else 0) < 256
    small true = omega arith
    small false = omega arith

may_signed : (otherwise z : ℤ) → FitsSigned w32 z → MayLay (signed otherwise z)
may_signed otherwise z fits = may_number _ 4 (cast_unsigned w32 z) (inr (inr (inl refl))) (omega (arith, Fits-of_z fits))

column_layable : (c : Column) → IsColumn c → AreLayable (column_table c)
column_layable c is = subst AreLayable (sym (as_listed c)) (from_list (column_items c) none 0 tt (omega arith) (omega arith) (
    text_bytes c.name is.name
    & may_number _ 1 c.kind (inl refl) (omega (arith, is.kind))
    & may_text c.title is.title
    & may_text c.description is.description
    & may_signed (negsuc 0) c.width is.width
    & may_signed (negsuc 0) c.precision is.precision
    & may_signed (negsuc 0) c.scale is.scale
    & may_flag true c.nullable
    & may_flag false c.unique
    & may_flag false c.primary_key
    & may_text c.metadata is.metadata
    & tt))

each_layable : (columns : List Column) (ts : Tables) → EachLayable ts → AllByRecursion IsColumn columns → EachLayable (pushed ts columns)
each_layable [] ts before is = before
each_layable (c ∷ rest) ts before is = each_layable rest (push ts (column_table c)) (before, column_layable c is.0) is.1

may_columns : (columns : List Column) → AllByRecursion IsColumn columns → MayLay (columns_item columns)
unfolding column_tables
may_columns [] is = tt
may_columns (c ∷ rest) is = each_layable (c ∷ rest) empty tt is

-- the geometry
may_shape : (o : Option Shape) → ForSome o IsShape → MayLay (option_map (λ s. table (shape_table s)) o)
may_shape None is = tt
may_shape (Some s) is = shape_layable s (is s refl).sound

pub feature_layable : (f : Feature) → IsRecord f → AreLayable (feature_table f)
unfolding feature_table
feature_layable f is = from_list (feature_items f) none 0 tt (omega arith) (omega arith) (
    may_shape f.shape is.shape
    & may_numbers 1 (inl refl) (properties_bytes f.properties) (properties_low f.properties is.properties)
    & may_columns f.columns is.columns
    & tt)
