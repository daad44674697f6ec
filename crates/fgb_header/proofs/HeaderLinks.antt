-- The fields of a header that lead to its coordinate reference system and to its columns: from what is judged there to
-- what the field shows and breaks.
use Rattle.std.proofs.Common.{◌≡◌, inl, inr, ℕ, ◌+◌, true, false, List, [], Result, Ok, Err, Option, Some, None, IsOkAnd, MatchOption, refl, ap, sym, ◌∙◌, subst, arith}
use Rattle.std.specs.Prelude.{⊤}
use Rattle.std.specs.Option.{option_map}
use Rattle.std.proofs.lemmas.Bool.{true≢false}
use Rattle.flat_layout.specs.declared.Broken.{Broken}
use Rattle.flat_layout.specs.Layout.{is_absent, led_to, place_in}
use Rattle.flat_layout.specs.Promises.{IsClean, BreaksTable, BreaksVector, BreaksTo, Judges}
use Rattle.flat_layout.proofs.Judging.{names-weaker}
use Rattle.flat_layout.proofs.Numbers.{place_in-absent, place_in-present}
use Rattle.flat_views.specs.declared.tables.Table.{Table}
use Rattle.flat_views.specs.declared.vectors.TableVec.{TableVec}
use Rattle.flat_views.specs.Tables.{IsTableAt, base_of, bytes_of, place_of}
use Rattle.flat_views.specs.TableVecs.{ShowsTables, tables_base, tables_bytes, tables_place}
use Rattle.flat_views.proofs.Placed.{at_list}
use Rattle.fgb_schema.specs.Tables.{column, crs, table as table_thing, tables as tables_thing}
use Rattle.fgb_schema.specs.Paths.{Breaks, columns_part, crs_part, columns_field}
use Rattle.fgb_schema.specs.Headers.{crs_at, columns_at, columns_in}
use Rattle.fgb_schema.specs.Weights.{Goes}
use Rattle.fgb_schema.proofs.Links.{IsLink, linked}
use Rattle.fgb_schema.proofs.FieldParts.{from_linked_table, to_table_clean, from_linked_tables, to_tables_clean}
use Rattle.fgb_schema.proofs.Weighing.{weigh_absent, weigh_link, least_link, least_heavier, heavier}
use Rattle.fgb_header.specs.declared.crs.CrsView.{CrsView}
use Rattle.fgb_header.specs.declared.columns.Columns.{Columns}
use Rattle.fgb_header.specs.Parts.{crs_shown, columns_shown}
use Rattle.fgb_header.specs.Groups.{crs_field}

module _ (b : List ℕ) (t : ℕ) where
  no_link : (id : ℕ) → is_absent b t id ≡ true → IsLink b t id → ⊥
  no_link id absent l = let e : true ≡ false = cc (absent, l.present) in true≢false e

  -- no coordinate reference system
  pub crs_absent : IsClean (BreaksTo BreaksTable b t 10) → is_absent b t 10 ≡ true → (None ≡ option_map (crs_at b) (place_in b t 10)) × IsClean (Breaks b (crs_field t))
  crs_absent clean absent = (
    ap (option_map (crs_at b)) (sym (place_in-absent b t 10 absent)),
    to_table_clean b t 10 crs clean (λ l. absurd (no_link 10 absent l)),
  )

  judge_crs : (base : ℕ) (r : Result CrsView Broken) → IsClean (BreaksTo BreaksTable b t 10) → is_absent b t 10 ≡ false
      → Judges base (Breaks b (crs_part (led_to b t 10))) (λ c. crs_shown c ≡ crs_at b (led_to b t 10)) r
      → Judges base (Breaks b (crs_field t)) (λ c. Some (crs_shown c) ≡ option_map (crs_at b) (place_in b t 10)) r
  judge_crs base (Ok c) clean present judged = (
    ap (λ x. Some x) judged.0 ∙ ap (option_map (crs_at b)) (sym (place_in-present b t 10 present)),
    to_table_clean b t 10 crs clean (λ l. judged.1),
  )
  judge_crs base (Err e) clean present judged =
      names-weaker base (Breaks b (crs_part (led_to b t 10))) (Breaks b (crs_field t)) e
      (from_linked_table b t 10 crs (linked b (table_thing crs) BreaksTable t 10 clean present)) judged

  -- what is judged of the table that the field leads to
  pub crs_present : (base : ℕ) (table : Table) (r : Result CrsView Broken) → IsClean (BreaksTo BreaksTable b t 10) → is_absent b t 10 ≡ false → IsTableAt b base (led_to b t 10) table
      → Judges (base_of table) (Breaks (bytes_of table) (crs_part (place_of table))) (λ c. crs_shown c ≡ crs_at (bytes_of table) (place_of table)) r
      → Judges base (Breaks b (crs_field t)) (λ c. Some (crs_shown c) ≡ option_map (crs_at b) (place_in b t 10)) r
  crs_present base table r clean present at judged = judge_crs base r clean present
      (subst (λ p. Judges base (Breaks b (crs_part p)) (λ c. crs_shown c ≡ crs_at b p) r) at.same_place
      (subst (λ s. Judges base (Breaks s (crs_part (place_of table))) (λ c. crs_shown c ≡ crs_at s (place_of table)) r) at.same_bytes
      (subst (λ k. Judges k (Breaks (bytes_of table) (crs_part (place_of table))) (λ c. crs_shown c ≡ crs_at (bytes_of table) (place_of table)) r) at.same_base judged)))

  module _ (f : ℕ) where
    columns-absent : is_absent b t f ≡ true → columns_in b t f ≡ []
    columns-absent absent = rw absent refl

    columns-present : is_absent b t f ≡ false → columns_in b t f ≡ columns_at b (led_to b t f)
    columns-present present = rw present refl

    columns_none : (base at before after : ℕ) (r : Result Columns Broken) → IsClean (BreaksTo (BreaksVector 4) b t f) → is_absent b t f ≡ true
        → IsOkAnd r (λ columns. columns_shown columns ≡ []) → after ≡ before
        → Goes base b (columns_field t f) at before after (λ columns. columns_shown columns ≡ columns_in b t f) r
    columns_none base at before after (Ok columns) clean absent none same = (
      none ∙ sym (columns-absent absent),
      to_tables_clean b t f column clean (λ l. absurd (no_link f absent l)),
      record { amount = 0; weighs = weigh_absent b (tables_thing column) t f absent; taken = omega (arith, same) },
    )
    columns_none base at before after (Err e) clean absent none same = absurd none

    columns_some : (base at before after : ℕ) (r : Result Columns Broken) → IsClean (BreaksTo (BreaksVector 4) b t f) → is_absent b t f ≡ false
        → Goes base b (columns_part (led_to b t f)) at before after (λ columns. columns_shown columns ≡ columns_at b (led_to b t f)) r
        → Goes base b (columns_field t f) at before after (λ columns. columns_shown columns ≡ columns_in b t f) r
    columns_some base at before after (Ok columns) clean present goes =
        let l = linked b (tables_thing column) (BreaksVector 4) t f clean present in (
          goes.0 ∙ sym (columns-present present),
          to_tables_clean b t f column clean (λ l. goes.1),
          record { amount = goes.2.amount; weighs = weigh_link b (tables_thing column) t f goes.2.amount l goes.2.weighs; taken = goes.2.taken },
        )
    columns_some base at before after (Err e) clean present (inl named, less) =
        let l = linked b (tables_thing column) (BreaksVector 4) t f clean present in
        (inl (names-weaker base (Breaks b (columns_part (led_to b t f))) (Breaks b (columns_field t f)) e (from_linked_tables b t f column l) named), less)
    columns_some base at before after (Err e) clean present (inr over, less) =
        let l = linked b (tables_thing column) (BreaksVector 4) t f clean present in (
          inr (record {
            heavier = heavier b (columns_field t f) (before + 1) before (least_link b (tables_thing column) t f (before + 1) l (least_heavier b (columns_part (led_to b t f)) before over.heavier)) (omega arith);
            at_place = over.at_place;
            by_weight = over.by_weight;
          }),
          less,
        )

    -- what is read of the columns that the field leads to, if it is there
    pub columns_go : (base at before after : ℕ) (list : Option TableVec) (r : Result Columns Broken) → IsClean (BreaksTo (BreaksVector 4) b t f) → ShowsTables b base t f list
        → MatchOption list (IsOkAnd r (λ columns. columns_shown columns ≡ []) × (after ≡ before)) (λ tables. ⊤)
        → MatchOption list ⊤ (λ tables. Goes (tables_base tables) (tables_bytes tables) (columns_part (tables_place tables)) at before after (λ columns. columns_shown columns ≡ columns_at (tables_bytes tables) (tables_place tables)) r)
        → Goes base b (columns_field t f) at before after (λ columns. columns_shown columns ≡ columns_in b t f) r
    columns_go base at before after None r clean shows none some = columns_none base at before after r clean shows none.0 none.1
    columns_go base at before after (Some list) r clean shows none some = columns_some base at before after r clean shows.0
        (at_list base b (led_to b t f) list shows.1 (λ k s p. Goes k s (columns_part p) at before after (λ columns. columns_shown columns ≡ columns_at s p) r) some)
