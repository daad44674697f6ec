-- The fields of a table, put one by one.
use Rattle.std.proofs.Common.{◌≡◌, ◌∙◌, ℕ, ◌+◌, pos, negsuc, List, [], ◌∷◌, true, false, Option, Some, None, refl, ap, sym}
use Rattle.std.specs.Option.{option_map}
use Rattle.fgb_schema.specs.Headers.{Header, Column, Crs}
use Rattle.flat_builder.specs.Trees.{Item, string, table, Fields, none, put}
use Rattle.header_tables.specs.Laying.{text, scalar, signed, flag, doubles, columns_item, with_fields, column_table, crs_table, header_table}
use Rattle.header_info.specs.Puts.{put_some}

-- the table with those of these fields that are there, whose ids go from this one on
abbrev puts : Fields → ℕ → List (Option Item) → Fields
puts fs id [] = fs
puts fs id (o ∷ rest) = puts (put_some fs id o) (id + 1) rest

with_fields-puts : (fs : Fields) (id : ℕ) (items : List (Option Item)) → with_fields fs id items ≡ puts fs id items
with_fields-puts fs id [] = refl
with_fields-puts fs id (None ∷ rest) = with_fields-puts fs (id + 1) rest
with_fields-puts fs id (Some it ∷ rest) = with_fields-puts (put_some fs id (Some it)) (id + 1) rest

-- a field more
put_on : (before so_far : Fields) (id : ℕ) (o : Option Item) (after : Fields) → after ≡ put_some before id o → before ≡ so_far → after ≡ put_some so_far id o
put_on before so_far id o after step before_is = step ∙ ap (λ fs. put_some fs id o) before_is

pub column_laid : (c : Column) (t0 t1 t2 t3 t4 t5 t6 t7 t8 t9 t10 t11 : Fields) → t0 ≡ none
    → t1 ≡ put t0 0 (string c.name) → t2 ≡ put_some t1 1 (scalar 1 0 c.kind) → t3 ≡ put_some t2 2 (text c.title) → t4 ≡ put_some t3 3 (text c.description)
    → t5 ≡ put_some t4 4 (signed (negsuc 0) c.width) → t6 ≡ put_some t5 5 (signed (negsuc 0) c.precision) → t7 ≡ put_some t6 6 (signed (negsuc 0) c.scale)
    → t8 ≡ put_some t7 7 (flag true c.nullable) → t9 ≡ put_some t8 8 (flag false c.unique) → t10 ≡ put_some t9 9 (flag false c.primary_key)
    → t11 ≡ put_some t10 10 (text c.metadata) → t11 ≡ column_table c
unfolding column_table
column_laid c t0 t1 t2 t3 t4 t5 t6 t7 t8 t9 t10 t11 e0 e1 e2 e3 e4 e5 e6 e7 e8 e9 e10 e11 =
    put_on _ _ 10 (text c.metadata) t11 e11 (
    put_on _ _ 9 (flag false c.primary_key) t10 e10 (
    put_on _ _ 8 (flag false c.unique) t9 e9 (
    put_on _ _ 7 (flag true c.nullable) t8 e8 (
    put_on _ _ 6 (signed (negsuc 0) c.scale) t7 e7 (
    put_on _ _ 5 (signed (negsuc 0) c.precision) t6 e6 (
    put_on _ _ 4 (signed (negsuc 0) c.width) t5 e5 (
    put_on _ _ 3 (text c.description) t4 e4 (
    put_on _ _ 2 (text c.title) t3 e3 (
    put_on _ _ 1 (scalar 1 0 c.kind) t2 e2 (
    put_on _ _ 0 (Some (string c.name)) t1 e1 e0))))))))))
    ∙ sym (with_fields-puts none 0 (
    Some (string c.name) ∷ scalar 1 0 c.kind ∷ text c.title ∷ text c.description
    ∷ signed (negsuc 0) c.width ∷ signed (negsuc 0) c.precision ∷ signed (negsuc 0) c.scale
    ∷ flag true c.nullable ∷ flag false c.unique ∷ flag false c.primary_key ∷ text c.metadata ∷ []))

pub crs_laid : (c : Crs) (t0 t1 t2 t3 t4 t5 t6 : Fields) → t0 ≡ none
    → t1 ≡ put_some t0 0 (text c.org) → t2 ≡ put_some t1 1 (signed (pos 0) c.code) → t3 ≡ put_some t2 2 (text c.name)
    → t4 ≡ put_some t3 3 (text c.description) → t5 ≡ put_some t4 4 (text c.wkt) → t6 ≡ put_some t5 5 (text c.code_string) → t6 ≡ crs_table c
unfolding crs_table
crs_laid c t0 t1 t2 t3 t4 t5 t6 e0 e1 e2 e3 e4 e5 e6 =
    put_on _ _ 5 (text c.code_string) t6 e6 (
    put_on _ _ 4 (text c.wkt) t5 e5 (
    put_on _ _ 3 (text c.description) t4 e4 (
    put_on _ _ 2 (text c.name) t3 e3 (
    put_on _ _ 1 (signed (pos 0) c.code) t2 e2 (
    put_on _ _ 0 (text c.org) t1 e1 e0)))))
    ∙ sym (with_fields-puts none 0 (
    text c.org ∷ signed (pos 0) c.code ∷ text c.name ∷ text c.description ∷ text c.wkt ∷ text c.code_string ∷ []))

pub header_laid : (h : Header) (t0 t1 t2 t3 t4 t5 t6 t7 t8 t9 t10 t11 t12 t13 t14 : Fields) → t0 ≡ none
    → t1 ≡ put_some t0 0 (text h.name) → t2 ≡ put_some t1 1 (doubles h.envelope) → t3 ≡ put_some t2 2 (scalar 1 0 h.geometry_type)
    → t4 ≡ put_some t3 3 (flag false h.has_z) → t5 ≡ put_some t4 4 (flag false h.has_m) → t6 ≡ put_some t5 5 (flag false h.has_t) → t7 ≡ put_some t6 6 (flag false h.has_tm)
    → t8 ≡ put_some t7 7 (columns_item h.columns) → t9 ≡ put_some t8 8 (scalar 8 0 h.features_count) → t10 ≡ put_some t9 9 (scalar 2 16 h.node_size)
    → t11 ≡ put_some t10 10 (option_map (λ c. table (crs_table c)) h.crs) → t12 ≡ put_some t11 11 (text h.title) → t13 ≡ put_some t12 12 (text h.description)
    → t14 ≡ put_some t13 13 (text h.metadata) → t14 ≡ header_table h
unfolding header_table
header_laid h t0 t1 t2 t3 t4 t5 t6 t7 t8 t9 t10 t11 t12 t13 t14 e0 e1 e2 e3 e4 e5 e6 e7 e8 e9 e10 e11 e12 e13 e14 =
    put_on _ _ 13 (text h.metadata) t14 e14 (
    put_on _ _ 12 (text h.description) t13 e13 (
    put_on _ _ 11 (text h.title) t12 e12 (
    put_on _ _ 10 (option_map (λ c. table (crs_table c)) h.crs) t11 e11 (
    put_on _ _ 9 (scalar 2 16 h.node_size) t10 e10 (
    put_on _ _ 8 (scalar 8 0 h.features_count) t9 e9 (
    put_on _ _ 7 (columns_item h.columns) t8 e8 (
    put_on _ _ 6 (flag false h.has_tm) t7 e7 (
    put_on _ _ 5 (flag false h.has_t) t6 e6 (
    put_on _ _ 4 (flag false h.has_m) t5 e5 (
    put_on _ _ 3 (flag false h.has_z) t4 e4 (
    put_on _ _ 2 (scalar 1 0 h.geometry_type) t3 e3 (
    put_on _ _ 1 (doubles h.envelope) t2 e2 (
    put_on _ _ 0 (text h.name) t1 e1 e0)))))))))))))
    ∙ sym (with_fields-puts none 0 (
    text h.name ∷ doubles h.envelope ∷ scalar 1 0 h.geometry_type
    ∷ flag false h.has_z ∷ flag false h.has_m ∷ flag false h.has_t ∷ flag false h.has_tm
    ∷ columns_item h.columns ∷ scalar 8 0 h.features_count ∷ scalar 2 16 h.node_size
    ∷ option_map (λ c. table (crs_table c)) h.crs ∷ text h.title ∷ text h.description ∷ text h.metadata ∷ []))
