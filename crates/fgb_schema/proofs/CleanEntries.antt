-- The entries of a vector of tables that breaks no rule: each leads to a table that breaks none. And what stands in a
-- list that is made of the entries.
use Rattle.std.proofs.Common.{◌≡◌, ℕ, ◌<◌, true, List, map, Some, ap, ◌∙◌, arith}
use Rattle.std.specs.Prelude.{slice_get}
use Rattle.std.specs.List.{range_with_len}
use Rattle.std.proofs.lemmas.Option.{slice_get-get_or}
use Rattle.std.proofs.lemmas.List.FromFn.{get_or-map-range_with_len, length-map-range_with_len}
use Rattle.flat_layout.specs.declared.Broken.{Broken}
use Rattle.flat_layout.specs.Layout.{is_offset, is_table, is_vector, count, entry_place, target}
use Rattle.flat_layout.specs.Promises.{IsClean, Names, BreaksTable, BreaksThrough}
use Rattle.flat_layout.proofs.Judging.{through-clean_offset, through-clean, table-clean}
use Rattle.fgb_schema.specs.Tables.{Name, table, tables}
use Rattle.fgb_schema.specs.Paths.{offset, thing, Breaks}
use Rattle.fgb_schema.proofs.Roots.{from_offset}
use Rattle.fgb_schema.proofs.TablesParts.{from_entry}
use Rattle.fgb_schema.proofs.TablesRead.{from_through}

module _ (b : List ℕ) (name : Name) (v : ℕ) (room : is_vector 4 b v ≡ true) (clean : IsClean (Breaks b (thing (tables name) v))) (i : ℕ) (early : i < count b v) where
  abbrev place : ℕ
  place = entry_place b v i

  entry_clean : IsClean (Breaks b (offset (table name) place))
  entry_clean q r broken = clean q r (from_entry b name v room i early q r broken)

  through_clean : IsClean (BreaksThrough BreaksTable b place)
  through_clean q r broken = entry_clean q r (from_through b name place q r broken)

  pub entry_named : (base : ℕ) (e : Broken) → Names base (BreaksThrough BreaksTable b place) e → ⊥
  entry_named base e named = through_clean named.0 e.rule named.2

  pub entry_offset : is_offset b place ≡ true
  entry_offset = through-clean_offset BreaksTable b place through_clean

  -- the table there
  pub entry_target : IsClean (Breaks b (thing (table name) (target b place)))
  entry_target q r broken = entry_clean q r (from_offset b (table name) place q r entry_offset broken)

  pub entry_table : is_table b (target b place) ≡ true
  entry_table = table-clean b (target b place) (through-clean BreaksTable b place through_clean)

pub made_at : {A : Type 0} (f : ℕ → A) (n i : ℕ) → i < n → slice_get (map f (range_with_len 0 n)) i ≡ Some (f i)
made_at f n i early =
    slice_get-get_or (map f (range_with_len 0 n)) i (f i) (omega (arith, early, length-map-range_with_len f 0 n))
    ∙ ap (λ x. Some x) (get_or-map-range_with_len f 0 n i i (f i) early (omega arith))
