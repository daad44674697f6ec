-- Fields that hold an offset: what is broken in them and behind them.
use Rattle.std.proofs.Common.{◌≡◌, inl, inr, ℕ, true, false, List, [], ◌∷◌, refl}
use Rattle.std.proofs.lemmas.Bool.{cases_Bool}
use Rattle.flat_layout.specs.declared.Rule.{Rule}
use Rattle.flat_layout.specs.Layout.{is_offset, is_absent, is_field, field_place, led_to, target}
use Rattle.flat_layout.proofs.Judging.{to-clean_field, to-clean, through-clean_offset, through-clean}
use Rattle.flat_layout.specs.Promises.{IsClean, BreaksThrough, BreaksTo}
use Rattle.fgb_schema.specs.Tables.{Thing, link}
use Rattle.fgb_schema.specs.Paths.{offset, thing, field, below, BreaksLayout, BreaksMore, Breaks}
use Rattle.fgb_schema.proofs.Along.{breaks_layout, breaks_below, clean_by_parts}
use Rattle.fgb_schema.proofs.Roots.{from_offset, offset_clean}

-- the field is there, and it and the offset in it are sound
pub record IsLink (b : List ℕ) (t id : ℕ) : Type 0 where
  pub present : is_absent b t id ≡ false
  pub field : is_field 4 b t id ≡ true
  pub offset : is_offset b (field_place b t id) ≡ true

-- what is below it
module _ (b : List ℕ) (x : Thing) (t id : ℕ) where
  pub below_absent : is_absent b t id ≡ true → below b (field (link x) t id) ≡ []
  unfolding below
  below_absent absent = rw absent

  pub below_present : is_absent b t id ≡ false → is_field 4 b t id ≡ true → below b (field (link x) t id) ≡ offset x (field_place b t id) ∷ []
  unfolding below
  below_present present sound = rw (present, sound)

-- Own: what is broken in the thing by itself
module _ (b : List ℕ) (x : Thing) (Own : List ℕ → ℕ → ℕ → Rule → Type 0) (t id : ℕ) where
  from_offset_in : is_absent b t id ≡ false → is_field 4 b t id ≡ true → (q : ℕ) (r : Rule) → Breaks b (offset x (field_place b t id)) q r → Breaks b (field (link x) t id) q r
  from_offset_in present sound q r broken = breaks_below b (field (link x) t id) (offset x (field_place b t id)) q r (rw (below_present b x t id present sound) (inl refl)) broken

  pub from_linked : IsLink b t id → (q : ℕ) (r : Rule) → Breaks b (thing x (led_to b t id)) q r → Breaks b (field (link x) t id) q r
  unfolding led_to
  from_linked led q r broken = from_offset_in led.present led.field q r (from_offset b x (field_place b t id) q r led.offset broken)

  pub from_link : ((p q : ℕ) (r : Rule) → Own b p q r → BreaksLayout b (thing x p) q r) → (q : ℕ) (r : Rule) → BreaksTo Own b t id q r → Breaks b (field (link x) t id) q r
  unfolding BreaksTo BreaksThrough BreaksLayout
  from_link own q r (inl broken) = breaks_layout b (field (link x) t id) q r broken
  from_link own q r (inr broken) = from_offset_in broken.0 broken.1 q r (through broken.2)
    where
      through : BreaksThrough Own b (field_place b t id) q r → Breaks b (offset x (field_place b t id)) q r
      through (inl off) = breaks_layout b (offset x (field_place b t id)) q r off
      through (inr deep) = from_offset b x (field_place b t id) q r deep.0 (breaks_layout b (thing x (target b (field_place b t id))) q r (own (target b (field_place b t id)) q r deep.1))

  pub linked : IsClean (BreaksTo Own b t id) → is_absent b t id ≡ false → IsLink b t id
  linked clean present = record {
    present = present;
    field = to-clean_field Own b t id present clean;
    offset = through-clean_offset Own b (field_place b t id) (to-clean Own b t id present clean);
  }

  -- what the thing breaks by itself is not broken either
  pub linked_own : IsClean (BreaksTo Own b t id) → IsLink b t id → IsClean (Own b (led_to b t id))
  unfolding led_to
  linked_own clean led = through-clean Own b (field_place b t id) (to-clean Own b t id led.present clean)

  more_clean : IsClean (BreaksMore b (field (link x) t id))
  unfolding BreaksMore
  more_clean q r broken = broken

  layout_clean : IsClean (BreaksTo Own b t id) → IsClean (BreaksLayout b (field (link x) t id))
  unfolding BreaksTo BreaksLayout
  layout_clean clean q r broken = clean q r (inl broken)

  pub link_clean : IsClean (BreaksTo Own b t id) → (IsLink b t id → IsClean (Breaks b (thing x (led_to b t id)))) → IsClean (Breaks b (field (link x) t id))
  unfolding led_to
  link_clean clean behind = elim (cases_Bool (is_absent b t id)) [
    | inl absent ↦ clean_by_parts b (field (link x) t id) (layout_clean clean) more_clean (rw (below_absent b x t id absent) tt)
    | inr present ↦ led (linked clean present)
  ]
    where
      led : IsLink b t id → IsClean (Breaks b (field (link x) t id))
      led l = clean_by_parts b (field (link x) t id) (layout_clean clean) more_clean (rw (below_present b x t id l.present l.field) (
        offset_clean b x (field_place b t id) l.offset (behind l),
        tt,
      ))
