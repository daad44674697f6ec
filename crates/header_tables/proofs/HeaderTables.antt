-- A header that was laid: it is shown, and breaks nothing.
use Rattle.std.proofs.Common.{◌≡◌, ◌==◌, inl, inr, ℕ, ◌+◌, nat_le, not, false, List, refl, ap, ◌∙◌}
use Rattle.std.proofs.lemmas.Bool.{ne_eqb}
use Rattle.flat_layout.specs.Layout.{number_in}
use Rattle.flat_layout.specs.Promises.{IsClean}
use Rattle.fgb_schema.specs.Headers.{Header, header_at}
use Rattle.fgb_schema.specs.Tables.{header, fields}
use Rattle.fgb_schema.specs.Paths.{BreaksByTable, header_part}
use Rattle.flat_laid.specs.Trees.{fields_weight}
use Rattle.flat_laid.specs.Lies.{IsTable, HasFields}
use Rattle.header_tables.specs.Laying.{header_table, header_items}
use Rattle.header_tables.specs.Records.{IsRecord}
use Rattle.header_tables.proofs.Held.{HeldAt, field_of}
use Rattle.header_tables.proofs.Sound.{IsSound, ◌◁◌, sound_none, table_sound}
use Rattle.header_tables.proofs.Numbers.{number_sound, number_shown, flag_sound, flag_shown}
use Rattle.header_tables.proofs.Links.{text_sound, text_shown, doubles_sound, doubles_shown}
use Rattle.header_tables.proofs.CrsTables.{crs_field_sound, crs_field_shown}
use Rattle.header_tables.proofs.ColumnTables.{allowed, within}
use Rattle.header_tables.proofs.ColumnLists.{columns_field_sound, columns_field_shown}

module _ (b : List ℕ) (t : ℕ) (h : Header) (is : IsRecord h) (has : IsTable b (header_table h) t (HasFields b (header_table h) t)) where
  at : (i : ℕ) → HeldAt b t 0 (header_items h) i
  unfolding header_table
  at i = field_of b t (header_items h) has i

  kind_shown : number_in 1 b t 2 0 ≡ h.geometry_type
  kind_shown = number_shown b t 2 1 0 h.geometry_type (at 2)

  size_shown : number_in 2 b t 9 16 ≡ h.node_size
  size_shown = number_shown b t 9 2 16 h.node_size (at 9)

  pub header_shown : header_at b t ≡ h
  unfolding header_at
  header_shown = rw (
    text_shown b t 0 h.name (at 0),
    doubles_shown b t 1 h.envelope (at 1),
    kind_shown,
    flag_shown b t 3 false h.has_z (at 3),
    flag_shown b t 4 false h.has_m (at 4),
    flag_shown b t 5 false h.has_t (at 5),
    flag_shown b t 6 false h.has_tm (at 6),
    columns_field_shown b t 7 h.columns is.columns is.few (at 7),
    number_shown b t 8 8 0 h.features_count (at 8),
    size_shown,
    crs_field_shown b t 10 h.crs is.crs (at 10),
    text_shown b t 11 h.title (at 11),
    text_shown b t 12 h.description (at 12),
    text_shown b t 13 h.metadata (at 13),
  ) refl

  own : IsClean (BreaksByTable header b t)
  unfolding BreaksByTable
  own q r (inl broken) = allowed _ _ (nat_le (number_in 1 b t 2 0) 7) t (ap (λ n. nat_le n 7) kind_shown ∙ within h.geometry_type 7 is.kind) q r broken
  own q r (inr broken) = allowed _ _ (not (number_in 2 b t 9 16 == 1)) t (ap (λ n. not (n == 1)) size_shown ∙ ap not (ne_eqb h.node_size 1 is.wide)) q r broken

  pub header_sound : IsSound b (header_part t) (4 + fields_weight (header_table h))
  unfolding fields header_table
  header_sound = table_sound b header t (header_items h) has.inside own (
      text_sound b t 0 h.name is.name (at 0)
      ◁ doubles_sound b t 1 h.envelope (at 1)
      ◁ number_sound b t 2 1 0 h.geometry_type (at 2)
      ◁ flag_sound b t 3 false h.has_z (at 3)
      ◁ flag_sound b t 4 false h.has_m (at 4)
      ◁ flag_sound b t 5 false h.has_t (at 5)
      ◁ flag_sound b t 6 false h.has_tm (at 6)
      ◁ columns_field_sound b t 7 h.columns is.columns is.few (at 7)
      ◁ number_sound b t 8 8 0 h.features_count (at 8)
      ◁ number_sound b t 9 2 16 h.node_size (at 9)
      ◁ crs_field_sound b t 10 h.crs is.crs (at 10)
      ◁ text_sound b t 11 h.title is.title (at 11)
      ◁ text_sound b t 12 h.description is.description (at 12)
      ◁ text_sound b t 13 h.metadata is.metadata (at 13)
      ◁ sound_none b)
