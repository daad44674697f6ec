-- The groups of a header's fields: what one of them breaks is broken from the header on, and the header is clean by its
-- groups and its columns.
use Rattle.std.proofs.Common.{◌≡◌, ◌≢◌, ◌∙◌, ◌==◌, inl, inr, ℕ, zero, suc, ◌≤◌, nat_le, true, false, true≢false, not, List, [], ◌∷◌, length, Option, refl, sym, subst, arith}
use Rattle.std.proofs.lemmas.Bool.{cases_Bool}
use Rattle.std.proofs.lemmas.Bool.Decides.{nat_tests}
use Rattle.std.proofs.lemmas.Grind.{common_steps}
use Rattle.flat_layout.specs.declared.Rule.{Rule}
use Rattle.flat_layout.specs.declared.Rule.TheVariants.{Kind, NodeSize}
use Rattle.flat_layout.specs.Layout.{is_table, is_absent, led_to, number_in, text, text_in, longs}
use Rattle.flat_layout.specs.Promises.{IsClean, BreaksField, BreaksText, BreaksTo, BreaksVector}
use Rattle.flat_layout.proofs.Numbers.{text_in-absent, text_in-present}
use Rattle.fgb_schema.specs.Tables.{header, column, numbers, tables, string, link, scalar, fields, header_fields, Content, crs, table}
use Rattle.fgb_schema.specs.Paths.{field, IsAmong, BreaksByTable, Breaks, header_part, columns_field}
use Rattle.fgb_schema.specs.Headers.{header_at, columns_in}
use Rattle.fgb_schema.specs.Weights.{text_weight}
use Rattle.fgb_schema.proofs.Roots.{readable, from_scalar, scalar_clean}
use Rattle.fgb_schema.proofs.FieldParts.{from_text, text_clean, from_numbers, vector_clean}
use Rattle.fgb_schema.proofs.TableParts.{from_field, from_table, table_clean}
use Rattle.fgb_header.specs.declared.groups.Own.{Own}
use Rattle.fgb_header.specs.declared.columns.Columns.{Columns}
use Rattle.fgb_header.specs.Parts.{columns_shown}
use Rattle.fgb_header.specs.Groups.{BreaksTexts, in_name, in_title, in_description, in_metadata, BreaksFlags, in_z, in_m, in_t, in_tm, BreaksKind, in_kind, other_kind, BreaksNodeSize, in_node_size, other_node_size, BreaksOwn, by_texts, by_envelope, by_kind, by_flags, by_count, by_node_size, by_crs, crs_field, envelope_in}
use Rattle.fgb_header.specs.GroupViews.{ShowsOwn, fields_shown}

-- a text is in its buffer
short : (b : List ℕ) (p : ℕ) → length (text b p) ≤ length b
unfolding text
short b p = grind (arith, common_steps)

pub short_text : (b : List ℕ) (t id : ℕ) (o : Option (List ℕ)) → o ≡ text_in b t id → text_weight o ≤ length b
short_text b t id o same = subst (λ o. text_weight o ≤ length b) (sym same) (elim (cases_Bool (is_absent b t id)) [
  | inl absent ↦ subst (λ o. text_weight o ≤ length b) (sym (text_in-absent b t id absent)) (omega arith)
  | inr present ↦ subst (λ o. text_weight o ≤ length b) (sym (text_in-present b t id present)) (short b (led_to b t id))
])

-- what holds of the first of a list, and of the rest
infixr 10 ◌◁◌
pub ◌◁◌ : {A B : Type 0} → A → B → A × B
x ◁ rest = (x, rest)

-- this stands at this place of a list
abbrev IsAt : {A : Type 0} → ℕ → A → List A → Type 0
IsAt i x [] = ⊥
IsAt zero x (y ∷ ys) = x ≡ y
IsAt (suc i) x (y ∷ ys) = IsAt i x ys

among_at : {A : Type 0} (i : ℕ) (x : A) (xs : List A) → IsAt i x xs → IsAmong x xs
among_at i x [] here = absurd here
among_at zero x (y ∷ ys) here = inl here
among_at (suc i) x (y ∷ ys) here = inr (among_at i x ys here)

up_to : (kind n : ℕ) → kind ≡ n → nat_le n 7 ≡ true → kind ≤ 7
up_to kind n same known = grind (arith, nat_tests)

other_than : (size n : ℕ) → size ≡ n → not (n == 1) ≡ true → size ≢ 1
other_than size n same known one = let e : not (n == 1) ≡ false = rw (sym same ∙ one) in true≢false (sym known ∙ e)

module _ (b : List ℕ) (t : ℕ) (sound : is_table b t ≡ true) where
  -- the type is known, and above 7
  pub kind_above : IsClean (BreaksField 1 b t 2) → nat_le (number_in 1 b t 2 0) 7 ≡ false → BreaksKind b t t Kind
  kind_above clean above = other_kind (record { known = rw (sound, readable b 1 t 2 clean); other = above; place = refl; rule = refl })

  -- the node size is known, and 1
  pub node_size_one : IsClean (BreaksField 2 b t 9) → not (number_in 2 b t 9 16 == 1) ≡ false → BreaksNodeSize b t t NodeSize
  node_size_one clean one = other_node_size (record { known = rw (sound, readable b 2 t 9 clean); other = one; place = refl; rule = refl })

  -- a type that is not refused is known, and a node size that is not refused is not 1
  type_known : IsClean (BreaksKind b t) → nat_le (number_in 1 b t 2 0) 7 ≡ true
  type_known clean = elim (cases_Bool (nat_le (number_in 1 b t 2 0) 7)) [
    | inl known ↦ known
    | inr above ↦ absurd (clean t Kind (kind_above (λ q r broken. clean q r (in_kind broken)) above))
  ]

  size_known : IsClean (BreaksNodeSize b t) → not (number_in 2 b t 9 16 == 1) ≡ true
  size_known clean = elim (cases_Bool (not (number_in 2 b t 9 16 == 1))) [
    | inl known ↦ known
    | inr one ↦ absurd (clean t NodeSize (node_size_one (λ q r broken. clean q r (in_node_size broken)) one))
  ]

  pub type_within : (kind : ℕ) → (kind ≡ number_in 1 b t 2 0) × IsClean (BreaksKind b t) → kind ≤ 7
  type_within kind read = up_to kind (number_in 1 b t 2 0) read.0 (type_known read.1)

  pub size_several : (size : ℕ) → (size ≡ number_in 2 b t 9 16) × IsClean (BreaksNodeSize b t) → size ≢ 1
  size_several size read = other_than size (number_in 2 b t 9 16) read.0 (size_known read.1)

  -- what the field with this number and content breaks
  from_id : (id : ℕ) (content : Content) → IsAt id (id, content) header_fields → (q : ℕ) (r : Rule) → Breaks b (field content t id) q r → Breaks b (header_part t) q r
  unfolding fields
  from_id id content here q r broken = from_field b header t sound (id, content) (among_at id (id, content) header_fields here) q r broken

  from_string : (id : ℕ) → IsAt id (id, link string) header_fields → (q : ℕ) (r : Rule) → BreaksTo BreaksText b t id q r → Breaks b (header_part t) q r
  from_string id here q r broken = from_id id (link string) here q r (from_text b t id q r broken)

  from_number : (width id : ℕ) → IsAt id (id, scalar width) header_fields → (q : ℕ) (r : Rule) → BreaksField width b t id q r → Breaks b (header_part t) q r
  from_number width id here q r broken = from_id id (scalar width) here q r (from_scalar b width t id q r broken)

  texts_broken : (q : ℕ) (r : Rule) → BreaksTexts b t q r → Breaks b (header_part t) q r
  texts_broken q r (in_name broken) = from_string 0 refl q r broken
  texts_broken q r (in_title broken) = from_string 11 refl q r broken
  texts_broken q r (in_description broken) = from_string 12 refl q r broken
  texts_broken q r (in_metadata broken) = from_string 13 refl q r broken

  flags_broken : (q : ℕ) (r : Rule) → BreaksFlags b t q r → Breaks b (header_part t) q r
  flags_broken q r (in_z broken) = from_number 1 3 refl q r broken
  flags_broken q r (in_m broken) = from_number 1 4 refl q r broken
  flags_broken q r (in_t broken) = from_number 1 5 refl q r broken
  flags_broken q r (in_tm broken) = from_number 1 6 refl q r broken

  kind_broken : (q : ℕ) (r : Rule) → BreaksKind b t q r → Breaks b (header_part t) q r
  unfolding BreaksByTable
  kind_broken q r (in_kind broken) = from_number 1 2 refl q r broken
  kind_broken q r (other_kind broken) = from_table b header t sound q r (inl broken)

  node_size_broken : (q : ℕ) (r : Rule) → BreaksNodeSize b t q r → Breaks b (header_part t) q r
  unfolding BreaksByTable
  node_size_broken q r (in_node_size broken) = from_number 2 9 refl q r broken
  node_size_broken q r (other_node_size broken) = from_table b header t sound q r (inr broken)

  pub own_broken : (q : ℕ) (r : Rule) → BreaksOwn b t q r → Breaks b (header_part t) q r
  own_broken q r (by_texts broken) = texts_broken q r broken
  own_broken q r (by_envelope broken) = from_id 1 (link (numbers 8)) refl q r (from_numbers b t 1 8 q r broken)
  own_broken q r (by_kind broken) = kind_broken q r broken
  own_broken q r (by_flags broken) = flags_broken q r broken
  own_broken q r (by_count broken) = from_number 8 8 refl q r broken
  own_broken q r (by_node_size broken) = node_size_broken q r broken
  own_broken q r (by_crs broken) = from_id 10 (link (table crs)) refl q r broken

  pub columns_broken : (q : ℕ) (r : Rule) → Breaks b (columns_field t 7) q r → Breaks b (header_part t) q r
  columns_broken q r broken = from_id 7 (link (tables column)) refl q r broken

  rules_clean : IsClean (BreaksOwn b t) → IsClean (BreaksByTable header b t)
  unfolding BreaksByTable
  rules_clean clean q r (inl broken) = clean q r (by_kind (other_kind broken))
  rules_clean clean q r (inr broken) = clean q r (by_node_size (other_node_size broken))

  pub header_clean : IsClean (BreaksOwn b t) → IsClean (Breaks b (columns_field t 7)) → IsClean (Breaks b (header_part t))
  unfolding fields
  header_clean clean columns = table_clean b header t sound (rules_clean clean) (
      text_clean b t 0 (λ q r broken. clean q r (by_texts (in_name broken)))
      ◁ vector_clean b t 1 8 (λ q r broken. clean q r (by_envelope broken))
      ◁ scalar_clean b 1 t 2 (λ q r broken. clean q r (by_kind (in_kind broken)))
      ◁ scalar_clean b 1 t 3 (λ q r broken. clean q r (by_flags (in_z broken)))
      ◁ scalar_clean b 1 t 4 (λ q r broken. clean q r (by_flags (in_m broken)))
      ◁ scalar_clean b 1 t 5 (λ q r broken. clean q r (by_flags (in_t broken)))
      ◁ scalar_clean b 1 t 6 (λ q r broken. clean q r (by_flags (in_tm broken)))
      ◁ columns
      ◁ scalar_clean b 8 t 8 (λ q r broken. clean q r (by_count broken))
      ◁ scalar_clean b 2 t 9 (λ q r broken. clean q r (by_node_size (in_node_size broken)))
      ◁ (λ q r broken. clean q r (by_crs broken))
      ◁ text_clean b t 11 (λ q r broken. clean q r (by_texts (in_title broken)))
      ◁ text_clean b t 12 (λ q r broken. clean q r (by_texts (in_description broken)))
      ◁ text_clean b t 13 (λ q r broken. clean q r (by_texts (in_metadata broken))) ◁ tt)

-- the own fields are clean by their groups
pub own_clean : (b : List ℕ) (t : ℕ) → IsClean (BreaksTexts b t) → IsClean (BreaksTo (BreaksVector 8) b t 1) → IsClean (BreaksKind b t) → IsClean (BreaksFlags b t)
    → IsClean (BreaksField 8 b t 8) → IsClean (BreaksNodeSize b t) → IsClean (Breaks b (crs_field t)) → IsClean (BreaksOwn b t)
own_clean b t texts envelope kind flags counted node_size own_crs q r (by_texts broken) = texts q r broken
own_clean b t texts envelope kind flags counted node_size own_crs q r (by_envelope broken) = envelope q r broken
own_clean b t texts envelope kind flags counted node_size own_crs q r (by_kind broken) = kind q r broken
own_clean b t texts envelope kind flags counted node_size own_crs q r (by_flags broken) = flags q r broken
own_clean b t texts envelope kind flags counted node_size own_crs q r (by_count broken) = counted q r broken
own_clean b t texts envelope kind flags counted node_size own_crs q r (by_node_size broken) = node_size q r broken
own_clean b t texts envelope kind flags counted node_size own_crs q r (by_crs broken) = own_crs q r broken

-- the numbers of the envelope's field
pub envelope-absent : (b : List ℕ) (t : ℕ) → is_absent b t 1 ≡ true → envelope_in b t ≡ []
envelope-absent b t absent = rw absent refl

pub envelope-present : (b : List ℕ) (t : ℕ) → is_absent b t 1 ≡ false → envelope_in b t ≡ longs b (led_to b t 1)
envelope-present b t present = rw present refl

-- a header is what its groups and its columns show
pub header_is : (b : List ℕ) (t : ℕ) (own : Own) (columns : Columns) → ShowsOwn b t own → columns_shown columns ≡ columns_in b t 7 → fields_shown own columns ≡ header_at b t
unfolding header_at
header_is b t own columns shows same = rw (
  shows.texts.name,
  shows.texts.title,
  shows.texts.description,
  shows.texts.metadata,
  shows.envelope,
  shows.kind,
  shows.flags.has_z,
  shows.flags.has_m,
  shows.flags.has_t,
  shows.flags.has_tm,
  shows.counted,
  shows.node_size,
  shows.crs,
  same,
)
