-- What a table and its fields are where nothing is broken from them on.
use Rattle.std.proofs.Common.{◌≡◌, ◌∙◌, inl, inr, ℕ, zero, suc, Bool, true, false, List, [], ◌∷◌, refl, sym, subst}
use Rattle.std.specs.Prelude.{IsUtf8}
use Rattle.std.specs.Option.{ForSome}
use Rattle.std.proofs.lemmas.Bool.{cases_Bool}
use Rattle.std.proofs.lemmas.Option.{same_Some, none-some}
use Rattle.flat_layout.specs.declared.Rule.{Rule}
use Rattle.flat_layout.specs.Layout.{is_table, is_absent, is_vector, led_to, target, text, text_in}
use Rattle.flat_layout.specs.Promises.{IsClean, BreaksTable, BreaksVector, BreaksText, BreaksTo}
use Rattle.flat_layout.proofs.Judging.{table-clean, vector-clean, text-clean_utf8}
use Rattle.flat_layout.proofs.Numbers.{text_in-absent, text_in-present}
use Rattle.fgb_schema.specs.Tables.{Name, Content, table, tables, string, scalar, link, fields, is_readable}
use Rattle.fgb_schema.specs.Paths.{IsAmong, Forbids, BreaksByTable, Breaks, offset, thing, field}
use Rattle.fgb_schema.specs.Weights.{BreaksBuffer, along}
use Rattle.fgb_schema.proofs.Roots.{IsRooted, rooted, from_root, from_offset, from_scalar, readable}
use Rattle.fgb_schema.proofs.Links.{IsLink, linked, linked_own}
use Rattle.fgb_schema.proofs.FieldParts.{from_text, from_to_table, from_linked_table, from_to_tables, from_linked_tables}
use Rattle.fgb_schema.proofs.TableParts.{field_part, from_field, from_table}

-- this stands at this place of a list
abbrev pub IsAt : {A : Type 0} → ℕ → A → List A → Type 0
IsAt i x [] = ⊥
IsAt zero x (y ∷ ys) = x ≡ y
IsAt (suc i) x (y ∷ ys) = IsAt i x ys

among_at : {A : Type 0} (i : ℕ) (x : A) (xs : List A) → IsAt i x xs → IsAmong x xs
among_at i x [] here = absurd here
among_at zero x (y ∷ ys) here = inl here
among_at (suc i) x (y ∷ ys) here = inr (among_at i x ys here)

-- what is known and is not forbidden is allowed
pub is_allowed : (named : Rule) (is_known is_allowed : Bool) (p : ℕ) → IsClean (Forbids named is_known is_allowed p) → is_known ≡ true → is_allowed ≡ true
is_allowed named is_known true p clean known = refl
is_allowed named is_known false p clean known = absurd (clean p named (record { known = known; other = refl; place = refl; rule = refl }))

module _ (b : List ℕ) where
  -- the root table of a buffer
  module _ (name : Name) (clean : IsClean (BreaksBuffer b (offset (table name) 0))) where
    is_rooted : IsRooted b
    is_rooted = rooted b (λ q r broken. clean q r (along (from_root b name q r broken)))

    pub root_sound : is_table b (target b 0) ≡ true
    root_sound = is_rooted.table

    pub root_clean : IsClean (Breaks b (thing (table name) (target b 0)))
    root_clean q r broken = clean q r (along (from_offset b (table name) 0 q r is_rooted.offset broken))

  -- a table's own rules, and its fields
  module _ (name : Name) (t : ℕ) (sound : is_table b t ≡ true) (clean : IsClean (Breaks b (thing (table name) t))) where
    pub own_clean : IsClean (BreaksByTable name b t)
    own_clean q r broken = clean q r (from_table b name t sound q r broken)

    pub field_clean : (f : ℕ × Content) → IsAmong f (fields name b t) → IsClean (Breaks b (field_part t f))
    field_clean f among q r broken = clean q r (from_field b name t sound f among q r broken)

    pub clean_at : (i : ℕ) (f : ℕ × Content) → IsAt i f (fields name b t) → IsClean (Breaks b (field_part t f))
    clean_at i f here = field_clean f (among_at i f (fields name b t) here)

  module _ (t id : ℕ) where
    pub scalar_readable : (width : ℕ) → IsClean (Breaks b (field (scalar width) t id)) → is_readable width b t id ≡ true
    scalar_readable width clean = readable b width t id (λ q r broken. clean q r (from_scalar b width t id q r broken))

    -- a text
    module _ (clean : IsClean (Breaks b (field (link string) t id))) where
      to_text : IsClean (BreaksTo BreaksText b t id)
      to_text q r broken = clean q r (from_text b t id q r broken)

      pub text_utf8 : is_absent b t id ≡ false → IsUtf8 (text b (led_to b t id))
      text_utf8 present = text-clean_utf8 b (led_to b t id) (linked_own b string BreaksText t id to_text (linked b string BreaksText t id to_text present))

      pub text_fits : ForSome (text_in b t id) IsUtf8
      text_fits s is = elim (cases_Bool (is_absent b t id)) [
        | inl absent ↦ absurd (none-some s (sym (text_in-absent b t id absent) ∙ is))
        | inr present ↦ subst IsUtf8 (same_Some (text b (led_to b t id)) s (sym (text_in-present b t id present) ∙ is)) (text_utf8 present)
      ]

    -- a table
    module _ (name : Name) (clean : IsClean (Breaks b (field (link (table name)) t id))) (present : is_absent b t id ≡ false) where
      to_table : IsClean (BreaksTo BreaksTable b t id)
      to_table q r broken = clean q r (from_to_table b t id name q r broken)

      table_link : IsLink b t id
      table_link = linked b (table name) BreaksTable t id to_table present

      pub led_sound : is_table b (led_to b t id) ≡ true
      led_sound = table-clean b (led_to b t id) (linked_own b (table name) BreaksTable t id to_table table_link)

      pub led_clean : IsClean (Breaks b (thing (table name) (led_to b t id)))
      led_clean q r broken = clean q r (from_linked_table b t id name table_link q r broken)

    -- a vector of tables
    module _ (name : Name) (clean : IsClean (Breaks b (field (link (tables name)) t id))) (present : is_absent b t id ≡ false) where
      to_tables : IsClean (BreaksTo (BreaksVector 4) b t id)
      to_tables q r broken = clean q r (from_to_tables b t id name q r broken)

      tables_link : IsLink b t id
      tables_link = linked b (tables name) (BreaksVector 4) t id to_tables present

      pub list_sound : is_vector 4 b (led_to b t id) ≡ true
      list_sound = vector-clean 4 b (led_to b t id) (linked_own b (tables name) (BreaksVector 4) t id to_tables tables_link)

      pub list_clean : IsClean (Breaks b (thing (tables name) (led_to b t id)))
      list_clean q r broken = clean q r (from_linked_tables b t id name tables_link q r broken)
