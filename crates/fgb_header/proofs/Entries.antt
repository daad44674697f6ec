-- A column that is read of an entry, and the list of columns: what these weigh and show.
use Rattle.std.proofs.Common.{◌≡◌, inr, ℕ, ◌+◌, ◌*◌, ◌<◌, true, List, length, Option, Some, Result, Ok, Err, OnOk, OnErr, IfErr, ap, sym, subst, ◌∙◌, arith}
use Rattle.std.proofs.lemmas.List.FromFn.{length-map-range_with_len}
use Rattle.std.specs.Prelude.{⊤, slice_get}
use Rattle.std.specs.Option.{ForSome}
use Rattle.flat_layout.specs.declared.Broken.{Broken}
use Rattle.flat_layout.specs.Layout.{is_vector, count, entry_place, target}
use Rattle.flat_layout.specs.Promises.{IsClean, BreaksTable, BreaksThrough}
use Rattle.flat_layout.proofs.Judging.{through-clean_offset, through-clean, table-clean}
use Rattle.flat_views.specs.declared.meter.Meter.{Meter}
use Rattle.flat_views.specs.declared.tables.Table.{Table}
use Rattle.flat_views.specs.declared.vectors.TableVec.{TableVec}
use Rattle.flat_views.specs.TableVecs.{tables_bytes, tables_place}
use Rattle.flat_views.specs.Meters.{left_of, meter_place, TakesOff, IsTooHeavy}
use Rattle.flat_views.specs.Tables.{IsTableAt, bytes_of, place_of}
use Rattle.flat_views.proofs.Placed.{at_table}
use Rattle.fgb_schema.specs.Tables.{column, table as table_thing}
use Rattle.fgb_schema.specs.Paths.{offset, Breaks, column_part, columns_part}
use Rattle.fgb_schema.specs.Headers.{column_at, columns_at}
use Rattle.fgb_schema.specs.Weights.{Weighs, Goes}
use Rattle.fgb_schema.proofs.CleanEntries.{made_at}
use Rattle.fgb_schema.proofs.TablesParts.{entry_parts}
use Rattle.fgb_schema.proofs.TablesRead.{Refuses, behind_clean}
use Rattle.fgb_schema.proofs.Weighing.{least_none, least_of, heavier, least_tables, weigh_offset}
use Rattle.fgb_header.specs.declared.column.ColumnView.{ColumnView}
use Rattle.fgb_header.specs.Parts.{column_shown, column_weight, listed}
use Rattle.fgb_header.proofs.RecordWeights.{column_weighs}

-- the column of an entry was read, and then its weight is spent
module _ (base : ℕ) (b : List ℕ) (p : ℕ) (clean : IsClean (BreaksThrough BreaksTable b p)) (table : Table) (at : IsTableAt b base (target b p) table)
    (view : ColumnView) (amount : ℕ) (before after : Meter)
    (shows : column_shown view ≡ column_at (bytes_of table) (place_of table)) (sound : IsClean (Breaks (bytes_of table) (column_part (place_of table))))
    (weight : amount ≡ column_weight (column_shown view)) where
  is_clean : IsClean (Breaks b (column_part (target b p)))
  is_clean = at_table base b (target b p) table at (λ _ s t. IsClean (Breaks s (column_part t))) sound

  weighed : Weighs b (offset (table_thing column) p) amount
  weighed =
      let at_place : column_shown view ≡ column_at b (target b p) = at_table base b (target b p) table at (λ _ s t. column_shown view ≡ column_at s t) shows in
      subst (Weighs b (offset (table_thing column) p)) (sym (weight ∙ ap column_weight at_place))
      (weigh_offset b (table_thing column) p (column_weight (column_at b (target b p))) (through-clean_offset BreaksTable b p clean)
      (column_weighs b (target b p) (table-clean b (target b p) (through-clean BreaksTable b p clean)) is_clean))

  pub spend_column : (r : Result ⊤ Broken) → OnOk r (TakesOff amount before after) → IfErr r (IsTooHeavy amount before) → OnErr r (after ≡ before)
      → Goes base b (offset (table_thing column) p) (meter_place before) (left_of before) (left_of after) (λ u. ⊤) r
  spend_column (Ok x) taken none same = (tt, behind_clean b column p clean is_clean, record { amount = amount; weighs = weighed; taken = taken.taken })
  spend_column (Err e) none heavy same = (
    inr (record {
      heavier = heavier b (offset (table_thing column) p) amount (left_of before) (least_of b (offset (table_thing column) p) amount weighed) heavy.less;
      at_place = heavy.at_place;
      by_weight = heavy.by_weight;
    }),
    let e : left_of after ≡ left_of before = ap left_of same in omega arith,
  )

-- the entries of a list alone weigh more than there was
pub refuse_list : (b : List ℕ) (v : ℕ) → is_vector 4 b v ≡ true → (base amount : ℕ) (before after : Meter) (e : Broken) → amount ≡ 4 * count b v → IsTooHeavy amount before e → after ≡ before
    → Refuses base b (columns_part v) (meter_place before) (left_of before) (left_of after) e
refuse_list b v sound base amount before after e is heavy same = (
  inr (record {
    heavier = heavier b (columns_part v) (4 * count b v + 0) (left_of before) (least_tables b column v 0 sound (least_none b (entry_parts b column v (count b v)))) (let l : left_of before < amount = heavy.less in omega arith);
    at_place = heavy.at_place;
    by_weight = heavy.by_weight;
  }),
  let e : left_of after ≡ left_of before = ap left_of same in omega arith,
)

-- what is clean of a list that is there is clean of each that may be
pub some_clean : (tables : TableVec) → IsClean (Breaks (tables_bytes tables) (columns_part (tables_place tables)))
    → ForSome (Some tables) (λ list. IsClean (Breaks (tables_bytes list) (columns_part (tables_place list))))
some_clean tables clean list same = let e : tables ≡ list = cc in
    subst (λ t. IsClean (Breaks (tables_bytes t) (columns_part (tables_place t)))) e clean

-- how many columns it has, and the i-th
pub listed_length : (list : Option TableVec) (tables : TableVec) → list ≡ Some tables → length (listed list) ≡ count (tables_bytes tables) (tables_place tables)
unfolding columns_at
listed_length list tables is = let b = tables_bytes tables in let v = tables_place tables in
    ap (λ o. length (listed o)) is ∙ length-map-range_with_len (λ i. column_at b (target b (entry_place b v i))) 0 (count b v)

pub listed_at : (list : Option TableVec) (tables : TableVec) (i : ℕ) → list ≡ Some tables → i < count (tables_bytes tables) (tables_place tables)
    → slice_get (listed list) i ≡ Some (column_at (tables_bytes tables) (target (tables_bytes tables) (entry_place (tables_bytes tables) (tables_place tables) i)))
unfolding columns_at
listed_at list tables i is early =
    let b = tables_bytes tables in let v = tables_place tables in
    ap (λ o. slice_get (listed o) i) is ∙ made_at (λ i. column_at b (target b (entry_place b v i))) (count b v) i early
