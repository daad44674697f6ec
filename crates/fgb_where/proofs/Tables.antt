-- The tables of a header that breaks no rule: its own, and those of its columns.
use Rattle.std.proofs.Common.{◌≡◌, inl, inr, ℕ, ◌<◌, true, false, List, length, refl, arith}
use Rattle.std.proofs.lemmas.List.FromFn.{length-map-range_with_len}
use Rattle.flat_layout.specs.declared.Rule.{Rule}
use Rattle.flat_layout.specs.declared.Broken.{Broken}
use Rattle.flat_layout.specs.Layout.{target, is_absent, led_to, is_table, is_vector, count, entry_place}
use Rattle.flat_layout.specs.Promises.{IsClean, Names, BreaksRoot, BreaksTable, BreaksThrough, BreaksTo, BreaksVector}
use Rattle.fgb_schema.specs.Tables.{header, column, table, tables, link, fields}
use Rattle.fgb_schema.specs.Paths.{Breaks, IsAmong, below, thing, field, header_root}
use Rattle.fgb_schema.specs.Weights.{BreaksBuffer, along}
use Rattle.fgb_schema.specs.Headers.{column_at, columns_at, columns_in, header_at, header_of}
use Rattle.fgb_schema.proofs.Along.{breaks_below}
use Rattle.fgb_schema.proofs.Roots.{rooted, from_root, from_offset}
use Rattle.fgb_schema.proofs.Links.{IsLink, linked}
use Rattle.fgb_schema.proofs.FieldParts.{from_to_tables, from_linked_tables}
use Rattle.fgb_schema.proofs.CleanEntries.{entry_named}

module _ (b : List ℕ) (clean : IsClean (BreaksBuffer b header_root)) where
  abbrev t : ℕ
  t = target b 0

  root_clean : IsClean (BreaksRoot b)
  root_clean q r broken = clean q r (along (from_root b header q r broken))

  pub root_named : (base : ℕ) (e : Broken) → Names base (BreaksRoot b) e → ⊥
  root_named base e named = root_clean named.0 e.rule named.2

  table_clean : IsClean (Breaks b (thing (table header) t))
  table_clean q r broken = clean q r (along (from_offset b (table header) 0 q r (rooted b root_clean).offset broken))

  among : IsAmong (field (link (tables column)) t 7) (below b (thing (table header) t))
  unfolding below fields
  among = rw (rooted b root_clean).table (inr (inr (inr (inr (inr (inr (inr (inl refl))))))))

  field_clean : IsClean (Breaks b (field (link (tables column)) t 7))
  field_clean q r broken = table_clean q r (breaks_below b (thing (table header) t) (field (link (tables column)) t 7) q r among broken)

  to_clean : IsClean (BreaksTo (BreaksVector 4) b t 7)
  to_clean q r broken = field_clean q r (from_to_tables b t 7 column q r broken)

  pub columns_named : (base : ℕ) (e : Broken) → Names base (BreaksTo (BreaksVector 4) b t 7) e → ⊥
  columns_named base e named = to_clean named.0 e.rule named.2

  module _ (present : is_absent b t 7 ≡ false) where
    list_clean : IsClean (Breaks b (thing (tables column) (led_to b t 7)))
    list_clean q r broken = field_clean q r (from_linked_tables b t 7 column (linked b (tables column) (BreaksVector 4) t 7 to_clean present) q r broken)

    pub column_named : (sound : is_vector 4 b (led_to b t 7) ≡ true) (i : ℕ) → i < count b (led_to b t 7) → (base : ℕ) (e : Broken)
        → Names base (BreaksThrough BreaksTable b (entry_place b (led_to b t 7) i)) e → ⊥
    column_named sound i early base e named = entry_named b column (led_to b t 7) sound list_clean i early base e named

-- the columns in a field, by whether it is there
module _ (b : List ℕ) (t f i : ℕ) (early : i < length (columns_in b t f)) where
  pub column_present : is_absent b t f ≡ true → ⊥
  column_present absent = let e : length (columns_in b t f) ≡ 0 = rw absent refl in omega (arith, early, e)

  pub column_early : is_absent b t f ≡ false → i < count b (led_to b t f)
  unfolding columns_at
  column_early present =
      let e : length (columns_in b t f) ≡ count b (led_to b t f) =
      rw present (length-map-range_with_len (λ i. column_at b (target b (entry_place b (led_to b t f) i))) 0 (count b (led_to b t f))) in
      omega (arith, early, e)

-- the columns of a header, as they stand in its buffer
pub header_columns : (b : List ℕ) → (header_of b).columns ≡ columns_in b (target b 0) 7
unfolding header_at
header_columns b = refl
