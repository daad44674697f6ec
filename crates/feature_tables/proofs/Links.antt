-- Fields that lead on, and those of them that lead to a text: what was laid is read, and nothing is broken.
use Rattle.std.proofs.Common.{◌≡◌, ℕ, List, Option, Some, None, refl, ap, sym, subst, ◌∙◌}
use Rattle.std.specs.Prelude.{⊤, IsUtf8}
use Rattle.std.specs.Option.{ForSome}
use Rattle.flat_layout.specs.declared.Rule.{Rule}
use Rattle.flat_layout.specs.Layout.{field_place, led_to, text_in}
use Rattle.flat_layout.specs.Promises.{IsClean, BreaksText, BreaksTo}
use Rattle.flat_layout.proofs.Judging.{clean-text, clean-through, clean-to, clean-to_absent}
use Rattle.flat_layout.proofs.Numbers.{text_in-absent, text_in-present}
use Rattle.fgb_schema.specs.Tables.{string as string_thing, link}
use Rattle.fgb_schema.specs.Paths.{field}
use Rattle.fgb_schema.specs.Weights.{text_weight, Weighs}
use Rattle.fgb_schema.proofs.FieldParts.{text_clean}
use Rattle.fgb_schema.proofs.FieldWeights.{weigh_text}
use Rattle.fgb_schema.proofs.Links.{IsLink}
use Rattle.flat_builder.specs.Trees.{Item, number, string, vector, table, tables}
use Rattle.flat_builder.specs.Laying.{width_of}
use Rattle.flat_laid.specs.Lies.{HasField}
use Rattle.header_tables.specs.Laying.{text}
use Rattle.shape_tables.proofs.Held.{IsHeld}
use Rattle.shape_tables.proofs.Unbroken.{IsUnbroken, held_weight}

-- an offset leads to each item but a number
abbrev pub IsLinked : Item → Type 0
IsLinked (number w v) = ⊥
IsLinked it = ⊤

module _ (b : List ℕ) (t id : ℕ) where
  pub link_of : (it : Item) {lies : Type 0} → IsLinked it → HasField b it t id lies → IsLink b t id
  unfolding width_of
  link_of (number w v) is has = absurd is
  link_of (string s) is has = record { present = has.present; field = has.fits; offset = has.led }
  link_of (vector w elements) is has = record { present = has.present; field = has.fits; offset = has.led }
  link_of (table fs) is has = record { present = has.present; field = has.fits; offset = has.led }
  link_of (tables ts) is has = record { present = has.present; field = has.fits; offset = has.led }

  -- where what is behind it breaks nothing by itself, the field does not
  pub link_unbroken : (Own : List ℕ → ℕ → ℕ → Rule → Type 0) → IsLink b t id → IsClean (Own b (led_to b t id)) → IsClean (BreaksTo Own b t id)
  unfolding led_to
  link_unbroken Own l own = clean-to Own b t id l.field (clean-through Own b (field_place b t id) l.offset own)

weight_of_text : (o : Option (List ℕ)) → text_weight o ≡ held_weight (text o)
weight_of_text None = refl
weight_of_text (Some s) = refl

module _ (b : List ℕ) (t id : ℕ) where
  pub text_shown : (o : Option (List ℕ)) → IsHeld b t id (text o) → text_in b t id ≡ o
  text_shown None held = text_in-absent b t id held
  text_shown (Some s) held = text_in-present b t id held.present ∙ ap (λ x. Some x) held.item.same

  text_to_clean : (o : Option (List ℕ)) → ForSome o IsUtf8 → IsHeld b t id (text o) → IsClean (BreaksTo BreaksText b t id)
  text_to_clean None utf8 held = clean-to_absent BreaksText b t id held
  text_to_clean (Some s) utf8 held =
      link_unbroken b t id BreaksText (link_of b t id (string s) tt held)
      (clean-text b (led_to b t id) held.item.inside held.item.ended (subst IsUtf8 (sym held.item.same) (utf8 s refl)))

  pub text_unbroken : (o : Option (List ℕ)) → ForSome o IsUtf8 → IsHeld b t id (text o) → IsUnbroken b (field (link string_thing) t id) (held_weight (text o))
  text_unbroken o utf8 held =
      let own = text_to_clean o utf8 held in
      record {
        clean = text_clean b t id own;
        weighs = subst (Weighs b (field (link string_thing) t id)) (ap text_weight (text_shown o held) ∙ weight_of_text o) (weigh_text b t id own);
      }
