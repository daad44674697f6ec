-- The header that a buffer shows which breaks no rule can be written.
use Rattle.std.proofs.Common.{◌≡◌, ◌≢◌, ◌∙◌, ◌==◌, inl, inr, ℕ, ◌≤◌, ◌<◌, ◌^◌, nat_le, not, pos, negsuc, true, false, true≢false, if◌then◌else◌, List, [], length, refl, ap, sym, subst, arith}
use Rattle.std.specs.Prelude.{option_map}
use Rattle.std.specs.Option.{ForSome}
use Rattle.std.specs.List.{AllByRecursion}
use Rattle.std.specs.Int.{w32}
use Rattle.std.specs.Int.RustNames.{FitsSigned}
use Rattle.std.proofs.lemmas.Bool.{cases_Bool}
use Rattle.std.proofs.lemmas.Bool.Decides.{nat_tests}
use Rattle.std.proofs.lemmas.List.FromFn.{length-map-range_with_len}
use Rattle.std.proofs.lemmas.Option.{same_Some, none-some}
use Rattle.flat_layout.specs.declared.Rule.TheVariants.{Required, Kind, NodeSize, ColumnType, ColumnCount}
use Rattle.flat_layout.specs.Layout.{is_table, is_absent, is_vector, count, entry_place, led_to, longs, number_in, place_in, target}
use Rattle.flat_layout.specs.Promises.{IsClean}
use Rattle.flat_layout.proofs.Numbers.{place_in-absent, place_in-present}
use Rattle.fgb_schema.specs.Tables.{header, column, crs, table, tables, string, scalar, link, fields, is_readable}
use Rattle.fgb_schema.specs.Headers.{Column, column_at, columns_at, columns_in, crs_at, header_at, header_of}
use Rattle.fgb_schema.specs.Paths.{BreaksByTable, BreaksMore, Breaks, header_root, header_part, column_part, crs_part, columns_part, columns_field, field}
use Rattle.fgb_schema.specs.Weights.{BreaksBuffer}
use Rattle.fgb_schema.proofs.Along.{breaks_more}
use Rattle.fgb_schema.proofs.CleanEntries.{entry_table, entry_target}
use Rattle.header_tables.specs.Records.{IsColumn, IsCrs, IsRecord}
use Rattle.packed_file.proofs.Alls.{all_made}
use Rattle.packed_file.proofs.Numbers.{AreBytes, longs_small, number_in_small, signed_in_fits}
use Rattle.packed_file.proofs.CleanParts.{is_allowed, root_sound, root_clean, own_clean, clean_at, scalar_readable, text_utf8, text_fits, led_sound, led_clean, list_sound, list_clean}

up_to : (n most : ℕ) → nat_le n most ≡ true → n ≤ most
up_to n most few = grind (arith, nat_tests)

other_than : (n : ℕ) → not (n == 1) ≡ true → n ≢ 1
other_than n other one = let e : not (n == 1) ≡ false = rw one refl in true≢false (sym other ∙ e)

minus_one : FitsSigned w32 (negsuc 0)
minus_one = omega arith

nothing : FitsSigned w32 (pos 0)
nothing = omega arith

module _ (b : List ℕ) (bytes : AreBytes b) where
  module _ (t : ℕ) (sound : is_table b t ≡ true) (clean : IsClean (Breaks b (column_part t))) where
    column_name : is_absent b t 0 ≡ false
    unfolding BreaksByTable
    column_name = elim (cases_Bool (is_absent b t 0)) [
      | inl absent ↦ absurd (own_clean b column t sound clean t Required (inl (record { known = sound; other = ap not absent; place = refl; rule = refl })))
      | inr present ↦ present
    ]

    column_kind : is_readable 1 b t 1 ≡ true → nat_le (number_in 1 b t 1 0) 14 ≡ true
    unfolding BreaksByTable
    column_kind read = is_allowed ColumnType _ _ t (λ q r broken. own_clean b column t sound clean q r (inr broken)) (rw (sound, read) refl)

    column_writable : IsColumn (column_at b t)
    unfolding column_at fields
    column_writable = record {
      name = text_utf8 b t 0 (clean_at b column t sound clean 0 (0, link string) refl) column_name;
      kind = up_to _ 14 (column_kind (scalar_readable b t 1 1 (clean_at b column t sound clean 1 (1, scalar 1) refl)));
      title = text_fits b t 2 (clean_at b column t sound clean 2 (2, link string) refl);
      description = text_fits b t 3 (clean_at b column t sound clean 3 (3, link string) refl);
      metadata = text_fits b t 10 (clean_at b column t sound clean 10 (10, link string) refl);
      width = signed_in_fits b bytes t 4 (negsuc 0) minus_one;
      precision = signed_in_fits b bytes t 5 (negsuc 0) minus_one;
      scale = signed_in_fits b bytes t 6 (negsuc 0) minus_one;
    }

  crs_writable : (t : ℕ) → is_table b t ≡ true → IsClean (Breaks b (crs_part t)) → IsCrs (crs_at b t)
  unfolding crs_at fields
  crs_writable t sound clean = record {
    org = text_fits b t 0 (clean_at b crs t sound clean 0 (0, link string) refl);
    code = signed_in_fits b bytes t 1 (pos 0) nothing;
    name = text_fits b t 2 (clean_at b crs t sound clean 2 (2, link string) refl);
    description = text_fits b t 3 (clean_at b crs t sound clean 3 (3, link string) refl);
    wkt = text_fits b t 4 (clean_at b crs t sound clean 4 (4, link string) refl);
    code_string = text_fits b t 5 (clean_at b crs t sound clean 5 (5, link string) refl);
  }

  -- the list of columns at v
  module _ (v : ℕ) (room : is_vector 4 b v ≡ true) (clean : IsClean (Breaks b (columns_part v))) where
    columns_writable : AllByRecursion IsColumn (columns_at b v)
    unfolding columns_at
    columns_writable = all_made IsColumn (λ i. column_at b (target b (entry_place b v i))) 0 (count b v) (λ i first last.
        column_writable (target b (entry_place b v i)) (entry_table b column v room clean i (omega (arith, last))) (entry_target b column v room clean i (omega (arith, last))))

    few_counted : nat_le (count b v) 65536 ≡ true
    unfolding BreaksMore
    few_counted = is_allowed ColumnCount (is_vector 4 b v) _ v (λ q r broken. clean q r (breaks_more b (columns_part v) q r broken)) room

    columns_few : length (columns_at b v) ≤ 65536
    unfolding columns_at
    columns_few = omega (arith, up_to (count b v) 65536 few_counted, length-map-range_with_len (λ i. column_at b (target b (entry_place b v i))) 0 (count b v))

  module _ (t : ℕ) (sound : is_table b t ≡ true) (clean : IsClean (Breaks b (header_part t))) where
    columns_clean : IsClean (Breaks b (columns_field t 7))
    unfolding fields
    columns_clean = clean_at b header t sound clean 7 (7, link (tables column)) refl

    columns_hold : (P : List Column → Type 0) → P [] → ((v : ℕ) → is_vector 4 b v ≡ true → IsClean (Breaks b (columns_part v)) → P (columns_at b v)) → P (columns_in b t 7)
    columns_hold P none some = elim (cases_Bool (is_absent b t 7)) [
      | inl absent ↦ rw absent none
      | inr present ↦ rw present (some (led_to b t 7) (list_sound b t 7 column columns_clean present) (list_clean b t 7 column columns_clean present))
    ]

    crs_clean : IsClean (Breaks b (field (link (table crs)) t 10))
    unfolding fields
    crs_clean = clean_at b header t sound clean 10 (10, link (table crs)) refl

    crs_holds : ForSome (option_map (crs_at b) (place_in b t 10)) IsCrs
    crs_holds c is = elim (cases_Bool (is_absent b t 10)) [
      | inl absent ↦ absurd (none-some c (ap (option_map (crs_at b)) (sym (place_in-absent b t 10 absent)) ∙ is))
      | inr present ↦
          subst IsCrs (same_Some (crs_at b (led_to b t 10)) c (ap (option_map (crs_at b)) (sym (place_in-present b t 10 present)) ∙ is))
          (crs_writable (led_to b t 10) (led_sound b t 10 crs crs_clean present) (led_clean b t 10 crs crs_clean present))
    ]

    header_kind : is_readable 1 b t 2 ≡ true → nat_le (number_in 1 b t 2 0) 7 ≡ true
    unfolding BreaksByTable
    header_kind read = is_allowed Kind _ _ t (λ q r broken. own_clean b header t sound clean q r (inl broken)) (rw (sound, read) refl)

    header_wide : is_readable 2 b t 9 ≡ true → not (number_in 2 b t 9 16 == 1) ≡ true
    unfolding BreaksByTable
    header_wide read = is_allowed NodeSize _ _ t (λ q r broken. own_clean b header t sound clean q r (inr broken)) (rw (sound, read) refl)

    envelope_small : AllByRecursion (λ x. x < 2 ^ 64) (if is_absent b t 1 then [] else longs b (led_to b t 1))
    envelope_small = elim (cases_Bool (is_absent b t 1)) [
      | inl absent ↦ rw absent tt
      | inr present ↦ rw present (longs_small b bytes (led_to b t 1))
    ]

    header_writable : IsRecord (header_at b t)
    unfolding header_at fields
    header_writable = record {
      kind = up_to _ 7 (header_kind (scalar_readable b t 2 1 (clean_at b header t sound clean 2 (2, scalar 1) refl)));
      wide = other_than _ (header_wide (scalar_readable b t 9 2 (clean_at b header t sound clean 9 (9, scalar 2) refl)));
      few = columns_hold (λ cs. length cs ≤ 65536) (omega arith) columns_few;
      columns = columns_hold (AllByRecursion IsColumn) tt columns_writable;
      crs = crs_holds;
      envelope = envelope_small;
      count = number_in_small b bytes t 8 8 0 (omega arith);
      size = number_in_small b bytes t 9 2 16 (omega arith);
      name = text_fits b t 0 (clean_at b header t sound clean 0 (0, link string) refl);
      title = text_fits b t 11 (clean_at b header t sound clean 11 (11, link string) refl);
      description = text_fits b t 12 (clean_at b header t sound clean 12 (12, link string) refl);
      metadata = text_fits b t 13 (clean_at b header t sound clean 13 (13, link string) refl);
    }

  pub shown_writable : IsClean (BreaksBuffer b header_root) → IsRecord (header_of b)
  shown_writable clean = header_writable (target b 0) (root_sound b header clean) (root_clean b header clean)
