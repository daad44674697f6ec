-- The tables of a header record that can be written can be laid.
use Rattle.std.proofs.Common.{◌≡◌, ◌⊎◌, inl, inr, ℕ, ℤ, pos, negsuc, ◌+◌, ◌*◌, ◌^◌, ◌<◌, ◌≤◌, Bool, true, false, List, [], ◌∷◌, length, Option, Some, None, if◌then◌else◌, refl, arith}
use Rattle.std.specs.Prelude.{⊤, IsUtf8}
use Rattle.std.specs.Option.{ForSome}
use Rattle.std.specs.List.{AllByRecursion}
use Rattle.std.specs.Int.{w32, cast_unsigned}
use Rattle.std.specs.Int.RustNames.{FitsSigned}
use Rattle.std.proofs.Math.Facts.{Fits-of_z}
use Rattle.fgb_schema.specs.Headers.{Header, Column, Crs}
use Rattle.flat_builder.specs.Trees.{Item, number, Fields, none, put, entry_count, Tables, empty, push}
use Rattle.flat_laid.specs.Trees.{IsLayable, AreLayable, EachLayable}
use Rattle.header_tables.specs.Laying.{text, signed, flag, doubles, with_fields, column_items, column_table, crs_items, crs_table, column_tables, columns_item, header_items, header_table}
use Rattle.header_tables.specs.Records.{IsColumn, IsCrs, IsRecord}
use Rattle.header_tables.proofs.Bytes.{text_bytes}
use Rattle.header_tables.proofs.ColumnLists.{pushed}
use Rattle.header_tables.proofs.CrsTables.{crs_item}

-- an item, if there is one, can be laid
abbrev MayLay : Option Item → Type 0
MayLay None = ⊤
MayLay (Some it) = IsLayable it

infixr 10 ◌&◌
◌&◌ : {A B : Type 0} → A → B → A × B
x & rest = (x, rest)

from_list : (items : List (Option Item)) (fs : Fields) (n : ℕ) → AreLayable fs → entry_count fs ≤ n → n + length items ≤ 1000 → AllByRecursion MayLay items → AreLayable (with_fields fs n items)
from_list [] fs n before ascends few all = before
from_list (None ∷ rest) fs n before ascends few all = from_list rest fs (n + 1) before (omega (arith, ascends)) (omega (arith, few)) all.1
from_list (Some it ∷ rest) fs n before ascends few all =
    from_list rest (put fs n it) (n + 1) (before, ascends, omega (arith, few), all.0) (omega arith) (omega (arith, few)) all.1

may_text : (o : Option (List ℕ)) → ForSome o IsUtf8 → MayLay (text o)
may_text None utf8 = tt
may_text (Some s) utf8 = text_bytes s (utf8 s refl)

may_number : (same : Bool) (w v : ℕ) → (w ≡ 1) ⊎ (w ≡ 2) ⊎ (w ≡ 4) ⊎ (w ≡ 8) → v < 2 ^ (8 * w) → MayLay (if same then None else Some (number w v))
may_number true w v width room = tt
may_number false w v width room = (width, room)

may_flag : (otherwise x : Bool) → MayLay (flag otherwise x)
may_flag otherwise x = may_number _ 1 (if x then 1 else 0) (inl refl) (small x)
  where
    small : (x : Bool) → (if x then 1 else 0) < 256
    small true = omega arith
    small false = omega arith

may_signed : (otherwise z : ℤ) → FitsSigned w32 z → MayLay (signed otherwise z)
may_signed otherwise z fits = may_number _ 4 (cast_unsigned w32 z) (inr (inr (inl refl))) (omega (arith, Fits-of_z fits))

may_doubles : (xs : List ℕ) → AllByRecursion (λ x. x < 2 ^ 64) xs → MayLay (doubles xs)
may_doubles [] all = tt
may_doubles (x ∷ xs) all = (inr (inr refl), all)

column_layable : (c : Column) → IsColumn c → AreLayable (column_table c)
unfolding column_table
column_layable c is = from_list (column_items c) none 0 tt (omega arith) (omega arith) (
    text_bytes c.name is.name
    & may_number _ 1 c.kind (inl refl) (omega (arith, is.kind))
    & may_text c.title is.title
    & may_text c.description is.description
    & may_signed (negsuc 0) c.width is.width
    & may_signed (negsuc 0) c.precision is.precision
    & may_signed (negsuc 0) c.scale is.scale
    & may_flag true c.nullable
    & may_flag false c.unique
    & may_flag false c.primary_key
    & may_text c.metadata is.metadata
    & tt)

crs_layable : (c : Crs) → IsCrs c → AreLayable (crs_table c)
unfolding crs_table
crs_layable c is = from_list (crs_items c) none 0 tt (omega arith) (omega arith) (
    may_text c.org is.org
    & may_signed (pos 0) c.code is.code
    & may_text c.name is.name
    & may_text c.description is.description
    & may_text c.wkt is.wkt
    & may_text c.code_string is.code_string
    & tt)

may_crs : (o : Option Crs) → ForSome o IsCrs → MayLay (crs_item o)
may_crs None is = tt
may_crs (Some c) is = crs_layable c (is c refl)

each_layable : (columns : List Column) (ts : Tables) → EachLayable ts → AllByRecursion IsColumn columns → EachLayable (pushed ts columns)
each_layable [] ts before is = before
each_layable (c ∷ rest) ts before is = each_layable rest (push ts (column_table c)) (before, column_layable c is.0) is.1

may_columns : (columns : List Column) → AllByRecursion IsColumn columns → MayLay (columns_item columns)
unfolding column_tables
may_columns [] is = tt
may_columns (c ∷ rest) is = each_layable (c ∷ rest) empty tt is

pub header_layable : (h : Header) → IsRecord h → AreLayable (header_table h)
unfolding header_table
header_layable h is = from_list (header_items h) none 0 tt (omega arith) (omega arith) (
    may_text h.name is.name
    & may_doubles h.envelope is.envelope
    & may_number _ 1 h.geometry_type (inl refl) (omega (arith, is.kind))
    & may_flag false h.has_z
    & may_flag false h.has_m
    & may_flag false h.has_t
    & may_flag false h.has_tm
    & may_columns h.columns is.columns
    & may_number _ 8 h.features_count (inr (inr (inr refl))) is.count
    & may_number _ 2 h.node_size (inr (inl refl)) is.size
    & may_crs h.crs is.crs
    & may_text h.title is.title
    & may_text h.description is.description
    & may_text h.metadata is.metadata
    & tt)
