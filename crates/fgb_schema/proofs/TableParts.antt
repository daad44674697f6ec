-- A table and the fields that are read of it: what is broken in a field is broken from the table on, and the table is
-- clean by its fields.
use Rattle.std.proofs.Common.{◌≡◌, inl, inr, ℕ, true, List, [], ◌∷◌, map, ap}
use Rattle.std.specs.List.{AllByRecursion}
use Rattle.flat_layout.specs.declared.Rule.{Rule}
use Rattle.flat_layout.specs.Layout.{is_table}
use Rattle.flat_layout.specs.Promises.{IsClean}
use Rattle.fgb_schema.specs.Tables.{Name, Content, table, fields}
use Rattle.fgb_schema.specs.Paths.{Part, thing, field, below, IsAmong, BreaksMore, BreaksByTable, Breaks}
use Rattle.fgb_schema.proofs.Along.{breaks_more, breaks_below, clean_by_parts}
use Rattle.fgb_schema.proofs.Roots.{table_layout_clean}

-- the part of a field of the table at t
abbrev pub field_part : ℕ → ℕ × Content → Part
field_part t f = field f.1 t f.0

among_map : {A B : Type 0} (g : A → B) (x : A) (xs : List A) → IsAmong x xs → IsAmong (g x) (map g xs)
among_map g x [] among = absurd among
among_map g x (y ∷ ys) (inl same) = inl (ap g same)
among_map g x (y ∷ ys) (inr later) = inr (among_map g x ys later)

all_map : {A B : Type 0} (g : A → B) (P : B → Type 0) (xs : List A) → AllByRecursion (λ x. P (g x)) xs → AllByRecursion P (map g xs)
all_map g P [] all = tt
all_map g P (x ∷ xs) all = (all.0, all_map g P xs all.1)

module _ (b : List ℕ) (name : Name) (t : ℕ) (sound : is_table b t ≡ true) where
  pub below_table : below b (thing (table name) t) ≡ map (field_part t) (fields name b t)
  unfolding below
  below_table = rw sound

  pub from_field : (f : ℕ × Content) → IsAmong f (fields name b t) → (q : ℕ) (r : Rule) → Breaks b (field_part t f) q r → Breaks b (thing (table name) t) q r
  from_field f among q r broken =
      breaks_below b (thing (table name) t) (field_part t f) q r (rw below_table (among_map (field_part t) f (fields name b t) among)) broken

  pub from_table : (q : ℕ) (r : Rule) → BreaksByTable name b t q r → Breaks b (thing (table name) t) q r
  unfolding BreaksMore
  from_table q r broken = breaks_more b (thing (table name) t) q r broken

  more_clean : IsClean (BreaksByTable name b t) → IsClean (BreaksMore b (thing (table name) t))
  unfolding BreaksMore
  more_clean clean = clean

  pub table_clean : IsClean (BreaksByTable name b t) → AllByRecursion (λ f. IsClean (Breaks b (field_part t f))) (fields name b t) → IsClean (Breaks b (thing (table name) t))
  table_clean own all = clean_by_parts b (thing (table name) t) (table_layout_clean b name t sound) (more_clean own)
      (rw below_table (all_map (field_part t) (λ x. IsClean (Breaks b x)) (fields name b t) all))
