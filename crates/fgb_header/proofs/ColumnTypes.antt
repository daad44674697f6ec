-- Where nothing is broken from a field of columns on, the type of each column is known.
use Rattle.std.proofs.Common.{◌≡◌, ◌∙◌, inl, inr, ℕ, ◌<◌, Bool, true, List, length, get_or, refl, sym, subst, zero-add, arith}
use Rattle.std.proofs.lemmas.Bool.{cases_Bool}
use Rattle.std.specs.List.{range_with_len, list_all}
use Rattle.std.proofs.lemmas.List.FromFn.{length-range_with_len, get_or-range_with_len}
use Rattle.std.proofs.lemmas.List.Sums.{list_all-from_AllPass}
use Rattle.flat_layout.specs.Layout.{is_table, is_vector, is_absent, count, entry_place, led_to, target}
use Rattle.flat_layout.specs.Promises.{IsClean, BreaksVector, BreaksTo}
use Rattle.flat_layout.proofs.Judging.{vector-clean}
use Rattle.fgb_schema.specs.Tables.{column, tables}
use Rattle.fgb_schema.specs.Paths.{Breaks, columns_field, columns_part, has_type, are_typed}
use Rattle.fgb_schema.proofs.CleanEntries.{entry_offset, entry_table, entry_target}
use Rattle.fgb_schema.proofs.FieldParts.{from_to_tables, from_linked_tables}
use Rattle.fgb_schema.proofs.Links.{IsLink, linked, linked_own}
use Rattle.fgb_schema.proofs.Roots.{readable}
use Rattle.fgb_header.proofs.RecordFields.{BreaksKind, column_from_kind, kind_known}

-- a test that passes at each number below n passes at all of them
every : (p : ℕ → Bool) (n : ℕ) → ((i : ℕ) → i < n → p i ≡ true) → list_all p (range_with_len 0 n) ≡ true
every p n each = list_all-from_AllPass p (range_with_len 0 n) at
  where
    at : (k d : ℕ) → k < length (range_with_len 0 n) → p (get_or (range_with_len 0 n) k d) ≡ true
    at k d early =
        let e : k < n = omega (arith, early, length-range_with_len 0 n) in
        subst (λ i. p i ≡ true) (sym (get_or-range_with_len 0 n k d e ∙ zero-add k)) (each k e)

module _ (b : List ℕ) where
  -- the list at v
  module _ (v : ℕ) (room : is_vector 4 b v ≡ true) (clean : IsClean (Breaks b (columns_part v))) (i : ℕ) (early : i < count b v) where
    abbrev place : ℕ
    place = target b (entry_place b v i)

    sound : is_table b place ≡ true
    sound = entry_table b column v room clean i early

    kind_clean : IsClean (BreaksKind b place)
    kind_clean q r broken = entry_target b column v room clean i early q r (column_from_kind b place sound q r broken)

    entry_typed : has_type b (entry_place b v i) ≡ true
    entry_typed = rw (entry_offset b column v room clean i early, sound, readable b 1 place 1 (λ q r broken. kind_clean q r (inl broken))) (kind_known b place sound kind_clean)

  module _ (t f : ℕ) (clean : IsClean (Breaks b (columns_field t f))) where
    to_clean : IsClean (BreaksTo (BreaksVector 4) b t f)
    to_clean q r broken = clean q r (from_to_tables b t f column q r broken)

    led_typed : IsLink b t f → are_typed b t f ≡ true
    led_typed l =
        let room = vector-clean 4 b (led_to b t f) (linked_own b (tables column) (BreaksVector 4) t f to_clean l) in
        let each = every (λ i. has_type b (entry_place b (led_to b t f) i)) (count b (led_to b t f))
        (entry_typed (led_to b t f) room (λ q r broken. clean q r (from_linked_tables b t f column l q r broken))) in
        rw (l.present, l.field, l.offset, room) each

    pub columns_typed : are_typed b t f ≡ true
    columns_typed = elim (cases_Bool (is_absent b t f)) [
      | inl absent ↦ rw absent refl
      | inr present ↦ led_typed (linked b (tables column) (BreaksVector 4) t f to_clean present)
    ]
