-- Fields that lead to a string, to a vector of numbers, or to another table: what is broken in them, and that they are
-- clean.
use Rattle.std.proofs.Common.{ℕ, List}
use Rattle.flat_layout.specs.declared.Rule.{Rule}
use Rattle.flat_layout.specs.Layout.{led_to}
use Rattle.flat_layout.specs.Promises.{IsClean, BreaksTable, BreaksVector, BreaksText, BreaksTo}
use Rattle.fgb_schema.specs.Tables.{Name, table, tables, string, numbers, link}
use Rattle.fgb_schema.specs.Paths.{thing, field, below, BreaksLayout, BreaksMore, Breaks}
use Rattle.fgb_schema.proofs.Along.{clean_by_parts}
use Rattle.fgb_schema.proofs.Links.{IsLink, from_link, from_linked, linked_own, link_clean}

module _ (b : List ℕ) where
  own_string : (p q : ℕ) (r : Rule) → BreaksText b p q r → BreaksLayout b (thing string p) q r
  unfolding BreaksLayout
  own_string p q r broken = broken

  own_numbers : (width p q : ℕ) (r : Rule) → BreaksVector width b p q r → BreaksLayout b (thing (numbers width) p) q r
  unfolding BreaksLayout
  own_numbers width p q r broken = broken

  own_table : (name : Name) (p q : ℕ) (r : Rule) → BreaksTable b p q r → BreaksLayout b (thing (table name) p) q r
  unfolding BreaksLayout
  own_table name p q r broken = broken

  own_tables : (name : Name) (p q : ℕ) (r : Rule) → BreaksVector 4 b p q r → BreaksLayout b (thing (tables name) p) q r
  unfolding BreaksLayout
  own_tables name p q r broken = broken

  string_clean : (p : ℕ) → IsClean (BreaksText b p) → IsClean (Breaks b (thing string p))
  unfolding BreaksLayout BreaksMore below
  string_clean p clean = clean_by_parts b (thing string p) clean (λ q r broken. broken) tt

  numbers_clean : (width v : ℕ) → IsClean (BreaksVector width b v) → IsClean (Breaks b (thing (numbers width) v))
  unfolding BreaksLayout BreaksMore below
  numbers_clean width v clean = clean_by_parts b (thing (numbers width) v) clean (λ q r broken. broken) tt

  module _ (t id : ℕ) where
    pub from_text : (q : ℕ) (r : Rule) → BreaksTo BreaksText b t id q r → Breaks b (field (link string) t id) q r
    from_text q r broken = from_link b string BreaksText t id own_string q r broken

    pub text_clean : IsClean (BreaksTo BreaksText b t id) → IsClean (Breaks b (field (link string) t id))
    text_clean clean = link_clean b string BreaksText t id clean (λ l. string_clean (led_to b t id) (linked_own b string BreaksText t id clean l))

    pub from_numbers : (width q : ℕ) (r : Rule) → BreaksTo (BreaksVector width) b t id q r → Breaks b (field (link (numbers width)) t id) q r
    from_numbers width q r broken = from_link b (numbers width) (BreaksVector width) t id (own_numbers width) q r broken

    pub vector_clean : (width : ℕ) → IsClean (BreaksTo (BreaksVector width) b t id) → IsClean (Breaks b (field (link (numbers width)) t id))
    vector_clean width clean = link_clean b (numbers width) (BreaksVector width) t id clean
        (λ l. numbers_clean width (led_to b t id) (linked_own b (numbers width) (BreaksVector width) t id clean l))

    -- the field, the offset in it, or the table by itself
    pub from_to_table : (name : Name) (q : ℕ) (r : Rule) → BreaksTo BreaksTable b t id q r → Breaks b (field (link (table name)) t id) q r
    from_to_table name q r broken = from_link b (table name) BreaksTable t id (own_table name) q r broken

    -- what is broken from the table on
    pub from_linked_table : (name : Name) → IsLink b t id → (q : ℕ) (r : Rule) → Breaks b (thing (table name) (led_to b t id)) q r → Breaks b (field (link (table name)) t id) q r
    from_linked_table name l q r broken = from_linked b (table name) BreaksTable t id l q r broken

    pub to_table_clean : (name : Name) → IsClean (BreaksTo BreaksTable b t id) → (IsLink b t id → IsClean (Breaks b (thing (table name) (led_to b t id)))) → IsClean (Breaks b (field (link (table name)) t id))
    to_table_clean name clean behind = link_clean b (table name) BreaksTable t id clean behind

    -- the same of a vector of tables
    pub from_to_tables : (name : Name) (q : ℕ) (r : Rule) → BreaksTo (BreaksVector 4) b t id q r → Breaks b (field (link (tables name)) t id) q r
    from_to_tables name q r broken = from_link b (tables name) (BreaksVector 4) t id (own_tables name) q r broken

    pub from_linked_tables : (name : Name) → IsLink b t id → (q : ℕ) (r : Rule) → Breaks b (thing (tables name) (led_to b t id)) q r → Breaks b (field (link (tables name)) t id) q r
    from_linked_tables name l q r broken = from_linked b (tables name) (BreaksVector 4) t id l q r broken

    pub to_tables_clean : (name : Name) → IsClean (BreaksTo (BreaksVector 4) b t id) → (IsLink b t id → IsClean (Breaks b (thing (tables name) (led_to b t id)))) → IsClean (Breaks b (field (link (tables name)) t id))
    to_tables_clean name clean behind = link_clean b (tables name) (BreaksVector 4) t id clean behind
