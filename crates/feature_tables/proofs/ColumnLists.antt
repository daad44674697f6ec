-- The columns of a header that were laid: they are shown, and break nothing.
use Rattle.std.proofs.Common.{◌≡◌, ℕ, ◌+◌, ◌*◌, ◌≤◌, true, List, [], ◌∷◌, map, fold, length, refl, ap, sym, subst, ◌∙◌, arith}
use Rattle.std.specs.Prelude.{⊤}
use Rattle.std.specs.List.{AllByRecursion, range_with_len}
use Rattle.std.proofs.lemmas.Bool.{both_ways}
use Rattle.flat_layout.specs.Layout.{is_absent, is_offset, is_vector, count, led_to, target, entry_place}
use Rattle.flat_layout.specs.Promises.{BreaksVector}
use Rattle.flat_layout.proofs.Judging.{clean-vector, clean-to_absent}
use Rattle.fgb_schema.specs.Headers.{Column, column_at, columns_at, columns_in}
use Rattle.fgb_schema.specs.Tables.{column, table as table_thing, tables as tables_thing}
use Rattle.fgb_schema.specs.Paths.{thing, columns_part, columns_field}
use Rattle.fgb_schema.specs.Weights.{Weighs}
use Rattle.fgb_schema.proofs.Roots.{offset_clean}
use Rattle.fgb_schema.proofs.FieldParts.{to_tables_clean}
use Rattle.fgb_schema.proofs.TablesParts.{entry_part, entry_parts, tables_clean}
use Rattle.fgb_schema.proofs.Weighing.{weigh_absent, weigh_link, weigh_offset, weigh_tables}
use Rattle.flat_builder.specs.Trees.{Tables, empty, push, tables, table_count}
use Rattle.flat_laid.specs.Trees.{item_weight, fields_weight, tables_weight}
use Rattle.flat_laid.specs.Lies.{IsTable, HasFields, HasTables}
use Rattle.header_tables.specs.Laying.{column_table, column_tables, columns_item}
use Rattle.header_tables.specs.Records.{IsColumn}
use Rattle.shape_tables.proofs.Held.{IsHeld}
use Rattle.shape_tables.proofs.Unbroken.{IsUnbroken, AreUnbroken, ◌◁◌, unbroken_none, held_weight}
use Rattle.feature_tables.proofs.Links.{link_of, link_unbroken}
use Rattle.feature_tables.proofs.ColumnTables.{column_shown, column_unbroken, within}

-- the tables of these columns behind some others
abbrev pub pushed : Tables → List Column → Tables
pushed ts columns = fold (λ before c. push before (column_table c)) ts columns

-- the tables alone, without the entries of their vector
abbrev columns_weight : List Column → ℕ
columns_weight [] = 0
columns_weight (c ∷ rest) = (4 + fields_weight (column_table c)) + columns_weight rest

weight-pushed : (columns : List Column) (ts : Tables) → tables_weight (pushed ts columns) ≡ tables_weight ts + columns_weight columns
weight-pushed [] ts = omega arith
weight-pushed (c ∷ rest) ts = omega (arith, weight-pushed rest (push ts (column_table c)))

count-pushed : (columns : List Column) (ts : Tables) → table_count (pushed ts columns) ≡ table_count ts + length columns
count-pushed [] ts = omega arith
count-pushed (c ∷ rest) ts = omega (arith, count-pushed rest (push ts (column_table c)))

module _ (b : List ℕ) (v : ℕ) where
  abbrev place : ℕ → ℕ
  place i = target b (entry_place b v i)

  -- from entry i of the vector on, each leads to the table of a column
  abbrev EachLies : ℕ → List Column → Type 0
  EachLies i [] = ⊤
  EachLies i (c ∷ rest) = (is_offset b (entry_place b v i) ≡ true) × IsTable b (column_table c) (place i) (HasFields b (column_table c) (place i)) × EachLies (i + 1) rest

  front : (columns : List Column) (ts : Tables) → HasTables b (pushed ts columns) v → HasTables b ts v
  front [] ts has = has
  front (c ∷ rest) ts has = (front rest (push ts (column_table c)) has).0

  each_lies : (columns : List Column) (ts : Tables) → HasTables b (pushed ts columns) v → EachLies (table_count ts) columns
  each_lies [] ts has = tt
  each_lies (c ∷ rest) ts has =
      let here = front rest (push ts (column_table c)) has in
      (here.1, here.2, each_lies rest (push ts (column_table c)) has)

  each_shown : (columns : List Column) (i : ℕ) → AllByRecursion IsColumn columns → EachLies i columns → map (λ k. column_at b (place k)) (range_with_len i (length columns)) ≡ columns
  each_shown [] i is has = refl
  each_shown (c ∷ rest) i is has = rw (column_shown b (place i) c is.0 has.1, each_shown rest (i + 1) is.1 has.2) refl

  each_unbroken : (columns : List Column) (i : ℕ) → AllByRecursion IsColumn columns → EachLies i columns
      → AreUnbroken b (map (entry_part b column v) (range_with_len i (length columns))) (columns_weight columns)
  each_unbroken [] i is has = unbroken_none b
  each_unbroken (c ∷ rest) i is has = entry (column_unbroken b (place i) c is.0 has.1) ◁ each_unbroken rest (i + 1) is.1 has.2
    where
      entry : IsUnbroken b (thing (table_thing column) (place i)) (4 + fields_weight (column_table c)) → IsUnbroken b (entry_part b column v i) (4 + fields_weight (column_table c))
      entry behind = record {
        clean = offset_clean b (table_thing column) (entry_place b v i) has.0 behind.clean;
        weighs = weigh_offset b (table_thing column) (entry_place b v i) (4 + fields_weight (column_table c)) has.0 behind.weighs;
      }

  -- the whole vector
  module _ (columns : List Column) (is : AllByRecursion IsColumn columns) (few : length columns ≤ 65536)
      (inside : is_vector 4 b v ≡ true) (counted : count b v ≡ table_count (column_tables columns)) (has : HasTables b (column_tables columns) v) where
    lie : EachLies 0 columns
    unfolding column_tables
    lie = each_lies columns empty has

    as_many : count b v ≡ length columns
    unfolding column_tables
    as_many = omega (arith, counted, count-pushed columns empty)

    columns_shown : columns_at b v ≡ columns
    unfolding columns_at
    columns_shown = ap (λ n. map (λ k. column_at b (place k)) (range_with_len 0 n)) as_many ∙ each_shown columns 0 is lie

    entries : AreUnbroken b (entry_parts b column v (count b v)) (columns_weight columns)
    entries = subst (λ n. AreUnbroken b (entry_parts b column v n) (columns_weight columns)) (sym as_many) (each_unbroken columns 0 is lie)

    weight_is : 4 * count b v + columns_weight columns ≡ item_weight (tables (column_tables columns))
    unfolding column_tables
    weight_is = omega (arith, counted, weight-pushed columns empty)

    columns_unbroken : IsUnbroken b (columns_part v) (item_weight (tables (column_tables columns)))
    columns_unbroken = record {
      clean = tables_clean b column v inside (within (count b v) 65536 (omega (arith, as_many, few))) entries.clean;
      weighs = subst (Weighs b (columns_part v)) weight_is (weigh_tables b column v (columns_weight columns) inside entries.weigh);
    }

-- the field of a header that leads to them, if there are any
module _ (b : List ℕ) (t id : ℕ) where
  pub columns_field_shown : (columns : List Column) → AllByRecursion IsColumn columns → length columns ≤ 65536 → IsHeld b t id (columns_item columns) → columns_in b t id ≡ columns
  columns_field_shown [] is few held = rw held refl
  columns_field_shown (c ∷ rest) is few held =
      rw held.present (columns_shown b (led_to b t id) (c ∷ rest) is few held.item.0 held.item.1 held.item.2)

  pub columns_field_unbroken : (columns : List Column) → AllByRecursion IsColumn columns → length columns ≤ 65536 → IsHeld b t id (columns_item columns) → IsUnbroken b (columns_field t id) (held_weight (columns_item columns))
  columns_field_unbroken [] is few held = record {
    clean = to_tables_clean b t id column (clean-to_absent (BreaksVector 4) b t id held) (λ l. absurd (both_ways (is_absent b t id) l.present held));
    weighs = weigh_absent b (tables_thing column) t id held;
  }
  columns_field_unbroken (c ∷ rest) is few held =
      let sound = columns_unbroken b (led_to b t id) (c ∷ rest) is few held.item.0 held.item.1 held.item.2 in
      let l = link_of b t id (tables (column_tables (c ∷ rest))) tt held in
      record {
        clean = to_tables_clean b t id column (link_unbroken b t id (BreaksVector 4) l (clean-vector 4 b (led_to b t id) held.item.0)) (λ l. sound.clean);
        weighs = weigh_link b (tables_thing column) t id (item_weight (tables (column_tables (c ∷ rest)))) l sound.weighs;
      }
