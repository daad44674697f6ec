-- Fields that lead to a vector of numbers: what was laid is read, and nothing is broken.
use Rattle.std.proofs.Common.{◌≡◌, ℕ, zero, suc, ◌+◌, ◌*◌, ◌≤◌, true, false, List, [], ◌∷◌, length, refl, subst, arith}
use Rattle.std.proofs.lemmas.Bool.{both_ways}
use Rattle.flat_layout.specs.Layout.{is_absent, is_vector, field_place, led_to, count, words, longs}
use Rattle.flat_layout.specs.Promises.{IsClean, BreaksVector, BreaksTo}
use Rattle.flat_layout.proofs.Judging.{clean-vector, clean-through, clean-to, clean-to_absent}
use Rattle.fgb_schema.specs.Tables.{numbers, pairs, link}
use Rattle.fgb_schema.specs.Paths.{thing, field, below, count_in, BreaksLayout, BreaksMore, BreaksPairs, Breaks}
use Rattle.fgb_schema.specs.Shapes.{longs_in, words_in}
use Rattle.fgb_schema.specs.Weights.{own_weight, weight_within, Weighs}
use Rattle.fgb_schema.proofs.Along.{clean_by_parts}
use Rattle.fgb_schema.proofs.FieldParts.{vector_clean}
use Rattle.fgb_schema.proofs.FieldWeights.{weigh_vector}
use Rattle.fgb_schema.proofs.Links.{IsLink, link_clean}
use Rattle.fgb_schema.proofs.Weighing.{weigh_absent, weigh_link}
use Rattle.flat_builder.specs.Trees.{vector}
use Rattle.flat_builder.specs.Laying.{width_of}
use Rattle.flat_laid.specs.Lies.{HasField}
use Rattle.shape_tables.specs.Laying.{numbers_item}
use Rattle.shape_tables.proofs.Held.{IsHeld}
use Rattle.shape_tables.proofs.Unbroken.{IsUnbroken, held_weight}

module _ (b : List ℕ) (t id : ℕ) where
  module _ (w : ℕ) where
    vector_link : (elements : List ℕ) {lies : Type 0} → HasField b (vector w elements) t id lies → IsLink b t id
    unfolding width_of
    vector_link elements has = record { present = has.present; field = has.fits; offset = has.led }

    -- as many numbers as were laid
    pub numbers_counted : (xs : List ℕ) → IsHeld b t id (numbers_item w xs) → count_in b t id ≡ length xs
    numbers_counted [] held = rw held refl
    numbers_counted (x ∷ xs) held = rw held.present held.item.counted

    pub counted_there : (xs : List ℕ) → IsHeld b t id (numbers_item w xs) → is_absent b t id ≡ false → count b (led_to b t id) ≡ length xs
    counted_there [] held present = absurd (both_ways (is_absent b t id) present held)
    counted_there (x ∷ xs) held present = held.item.counted

    unbroken : (xs : List ℕ) → IsHeld b t id (numbers_item w xs) → IsClean (BreaksTo (BreaksVector w) b t id)
    unfolding led_to
    unbroken [] held = clean-to_absent (BreaksVector w) b t id held
    unbroken (x ∷ xs) held =
        let l = vector_link (x ∷ xs) held in
        clean-to (BreaksVector w) b t id l.field (clean-through (BreaksVector w) b (field_place b t id) l.offset (clean-vector w b (led_to b t id) held.item.inside))

    pub numbers_unbroken : (xs : List ℕ) → IsHeld b t id (numbers_item w xs) → IsUnbroken b (field (link (numbers w)) t id) (held_weight (numbers_item w xs))
    numbers_unbroken [] held = record { clean = vector_clean b t id w (unbroken [] held); weighs = weigh_absent b (numbers w) t id held }
    numbers_unbroken (x ∷ xs) held =
        let own = unbroken (x ∷ xs) held in
        record {
          clean = vector_clean b t id w own;
          weighs = subst (λ n. Weighs b (field (link (numbers w)) t id) (w * n)) held.item.counted (weigh_vector b w t id own held.present);
        }

  -- the numbers are those that were laid
  pub longs_shown : (xs : List ℕ) → IsHeld b t id (numbers_item 8 xs) → longs_in b t id ≡ xs
  unfolding longs
  longs_shown [] held = rw held refl
  longs_shown (x ∷ xs) held = rw (held.present, held.item.counted) held.item.same

  pub longs_there : (xs : List ℕ) → IsHeld b t id (numbers_item 8 xs) → is_absent b t id ≡ false → longs b (led_to b t id) ≡ xs
  longs_there xs held present = rw present at longs_shown xs held

  pub words_shown : (xs : List ℕ) → IsHeld b t id (numbers_item 4 xs) → words_in b t id ≡ xs
  unfolding words
  words_shown [] held = rw held refl
  words_shown (x ∷ xs) held = rw (held.present, held.item.counted) held.item.same

  pub words_there : (xs : List ℕ) → IsHeld b t id (numbers_item 4 xs) → is_absent b t id ≡ false → words b (led_to b t id) ≡ xs
  words_there xs held present = rw present at words_shown xs held

  -- a vector of x and y by turns
  module _ (kind : ℕ) where
    layout_pairs : (v : ℕ) → IsClean (BreaksVector 8 b v) → IsClean (BreaksLayout b (thing (pairs kind) v))
    unfolding BreaksLayout
    layout_pairs v clean = clean

    more_pairs : (v : ℕ) → IsClean (BreaksPairs kind b v) → IsClean (BreaksMore b (thing (pairs kind) v))
    unfolding BreaksMore
    more_pairs v clean q r broken = clean q r broken.1

    pairs_clean : (v : ℕ) → IsClean (BreaksVector 8 b v) → IsClean (BreaksPairs kind b v) → IsClean (Breaks b (thing (pairs kind) v))
    unfolding below
    pairs_clean v own clean = clean_by_parts b (thing (pairs kind) v) (layout_pairs v own) (more_pairs v clean) tt

    pairs_within : (v steps : ℕ) → is_vector 8 b v ≡ true → weight_within b (suc steps) (thing (pairs kind) v) ≡ 8 * count b v + 0
    unfolding weight_within own_weight below
    pairs_within v steps inside = rw inside refl

    weigh_pairs : (v : ℕ) → is_vector 8 b v ≡ true → Weighs b (thing (pairs kind) v) (8 * count b v)
    weigh_pairs v inside = (1, after)
      where
        after : (steps : ℕ) → 1 ≤ steps → weight_within b steps (thing (pairs kind) v) ≡ 8 * count b v
        after zero enough = absurd (omega (arith, enough))
        after (suc steps) enough = omega (arith, pairs_within v steps inside)

    pub pairs_unbroken : (xs : List ℕ) → IsHeld b t id (numbers_item 8 xs) → (is_absent b t id ≡ false → IsClean (BreaksPairs kind b (led_to b t id)))
        → IsUnbroken b (field (link (pairs kind)) t id) (held_weight (numbers_item 8 xs))
    pairs_unbroken [] held clean = record {
      clean = link_clean b (pairs kind) (BreaksVector 8) t id (unbroken 8 [] held) (λ l. absurd (both_ways (is_absent b t id) l.present held));
      weighs = weigh_absent b (pairs kind) t id held;
    }
    pairs_unbroken (x ∷ xs) held clean =
        let l = vector_link 8 (x ∷ xs) held in
        let v = led_to b t id in
        record {
          clean = link_clean b (pairs kind) (BreaksVector 8) t id (unbroken 8 (x ∷ xs) held) (λ l. pairs_clean v (clean-vector 8 b v held.item.inside) (clean l.present));
          weighs = subst (λ n. Weighs b (field (link (pairs kind)) t id) (8 * n)) held.item.counted (weigh_link b (pairs kind) t id (8 * count b v) l (weigh_pairs v held.item.inside));
        }
