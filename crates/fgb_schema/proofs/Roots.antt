-- The root of a buffer, and the fields of its tables that hold numbers.
use Rattle.std.proofs.Common.{◌≡◌, inl, inr, ℕ, true, ◌||◌, List, [], ◌∷◌, refl, ap, ◌∙◌}
use Rattle.std.proofs.lemmas.Bool.{cases_Bool}
use Rattle.flat_layout.specs.declared.Rule.{Rule}
use Rattle.flat_layout.specs.Layout.{is_offset, is_table, is_absent, is_field, target}
use Rattle.flat_layout.proofs.Judging.{clean-offset, clean-table, table-clean, field-clean, through-clean_offset, through-clean}
use Rattle.flat_layout.specs.Promises.{IsClean, BreaksTable, BreaksField, BreaksThrough, BreaksRoot}
use Rattle.fgb_schema.specs.Tables.{Name, Thing, table, scalar, is_readable}
use Rattle.fgb_schema.specs.Paths.{offset, thing, field, below, BreaksLayout, BreaksMore, Breaks}
use Rattle.fgb_schema.proofs.Along.{breaks_layout, breaks_below, clean_by_parts}

-- the root's offset and the table that it leads to are sound
pub record IsRooted (b : List ℕ) : Type 0 where
  pub offset : is_offset b 0 ≡ true
  pub table : is_table b (target b 0) ≡ true

module _ (b : List ℕ) where
  pub rooted : IsClean (BreaksRoot b) → IsRooted b
  rooted clean = record {
    offset = through-clean_offset BreaksTable b 0 clean;
    table = table-clean b (target b 0) (through-clean BreaksTable b 0 clean);
  }

  pub below_offset : (x : Thing) (p : ℕ) → is_offset b p ≡ true → below b (offset x p) ≡ thing x (target b p) ∷ []
  unfolding below
  below_offset x p sound = rw sound

  -- from the thing that a sound offset leads to
  pub from_offset : (x : Thing) (p q : ℕ) (r : Rule) → is_offset b p ≡ true → Breaks b (thing x (target b p)) q r → Breaks b (offset x p) q r
  from_offset x p q r sound broken = breaks_below b (offset x p) (thing x (target b p)) q r (rw (below_offset x p sound) (inl refl)) broken

  more_offset : (x : Thing) (p : ℕ) → IsClean (BreaksMore b (offset x p))
  unfolding BreaksMore
  more_offset x p q r broken = broken

  layout_offset : (x : Thing) (p : ℕ) → is_offset b p ≡ true → IsClean (BreaksLayout b (offset x p))
  unfolding BreaksLayout
  layout_offset x p sound = clean-offset b p sound

  pub offset_clean : (x : Thing) (p : ℕ) → is_offset b p ≡ true → IsClean (Breaks b (thing x (target b p))) → IsClean (Breaks b (offset x p))
  offset_clean x p sound clean = clean_by_parts b (offset x p) (layout_offset x p sound) (more_offset x p) (rw (below_offset x p sound) (clean, tt))

  -- from the root's offset, or from the root table by itself
  pub from_root : (name : Name) (q : ℕ) (r : Rule) → BreaksRoot b q r → Breaks b (offset (table name) 0) q r
  unfolding BreaksThrough BreaksLayout
  from_root name q r (inl broken) = breaks_layout b (offset (table name) 0) q r broken
  from_root name q r (inr broken) = from_offset (table name) 0 q r broken.0 (breaks_layout b (thing (table name) (target b 0)) q r broken.1)

  pub table_layout_clean : (name : Name) (t : ℕ) → is_table b t ≡ true → IsClean (BreaksLayout b (thing (table name) t))
  unfolding BreaksLayout
  table_layout_clean name t sound = clean-table b t sound

  -- a field that breaks no rule can be read
  pub readable : (width t id : ℕ) → IsClean (BreaksField width b t id) → is_readable width b t id ≡ true
  readable width t id clean = elim (cases_Bool (is_absent b t id)) [
    | inl absent ↦ ap (λ x. x || is_field width b t id) absent
    | inr present ↦ ap (λ x. x || is_field width b t id) present ∙ field-clean width b t id present clean
  ]

  -- a field that holds a number
  pub from_scalar : (width t id q : ℕ) (r : Rule) → BreaksField width b t id q r → Breaks b (field (scalar width) t id) q r
  unfolding BreaksLayout
  from_scalar width t id q r broken = breaks_layout b (field (scalar width) t id) q r broken

  pub scalar_clean : (width t id : ℕ) → IsClean (BreaksField width b t id) → IsClean (Breaks b (field (scalar width) t id))
  unfolding BreaksLayout BreaksMore below
  scalar_clean width t id clean = clean_by_parts b (field (scalar width) t id) clean (λ q r broken. broken) tt
