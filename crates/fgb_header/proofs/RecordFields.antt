-- The fields of a coordinate reference system and of a column: what is broken in one is broken from its table on, and
-- the table is clean by all of them. A clean text is no longer than its buffer.
use Rattle.std.proofs.Common.{◌≡◌, inl, inr, ℕ, ℤ, pos, negsuc, Bool, ◌≤◌, ◌&&◌, ◌⊎◌, nat_le, not, true, false, List, length, Option, Some, None, refl, ap, sym, ◌∙◌, ◌<◌, subst, arith}
use Rattle.std.proofs.lemmas.Bool.{cases_Bool, true≢false}
use Rattle.std.proofs.lemmas.Bool.Decides.{nat_tests}
use Rattle.flat_layout.specs.declared.Rule.{Rule}
use Rattle.flat_layout.specs.declared.Rule.TheVariants.{Required, ColumnType}
use Rattle.flat_layout.specs.Layout.{is_table, is_absent, led_to, number_in, signed_in, text, text_in}
use Rattle.flat_layout.specs.Promises.{IsClean, BreaksField, BreaksText, BreaksTo}
use Rattle.flat_layout.proofs.Judging.{text-clean_vector}
use Rattle.flat_layout.proofs.Numbers.{length-text, text_in-absent, text_in-present}
use Rattle.flat_views.proofs.Elements.{vector_within}
use Rattle.fgb_schema.specs.Tables.{crs, column, string, scalar, link, fields, crs_fields, column_fields, is_readable}
use Rattle.fgb_schema.specs.Paths.{IsAmong, BreaksByTable, Breaks, Forbids, crs_part, column_part}
use Rattle.fgb_schema.specs.Headers.{Crs, crs_at, Column, column_at, flag_in}
use Rattle.fgb_schema.specs.Weights.{text_weight}
use Rattle.fgb_schema.proofs.Links.{linked, linked_own}
use Rattle.fgb_schema.proofs.Roots.{readable, from_scalar, scalar_clean}
use Rattle.fgb_schema.proofs.FieldParts.{from_text, text_clean}
use Rattle.fgb_schema.proofs.TableParts.{from_field, from_table, table_clean}

-- one fact, and those behind it
infixr 5 ◌&◌
abbrev pub ◌&◌ : {A B : Type 0} → A → B → A × B
a & b = (a, b)

-- the bytes of a clean text lie in the buffer
pub text_within : (b : List ℕ) (t id : ℕ) → IsClean (BreaksTo BreaksText b t id) → text_weight (text_in b t id) ≤ length b
text_within b t id clean = elim (cases_Bool (is_absent b t id)) [
  | inl absent ↦ subst (λ o. text_weight o ≤ length b) (sym (text_in-absent b t id absent)) (omega arith)
  | inr present ↦
      let sound = text-clean_vector b (led_to b t id) (linked_own b string BreaksText t id clean (linked b string BreaksText t id clean present)) in
      subst (λ o. text_weight o ≤ length b) (sym (text_in-present b t id present)) (omega (arith, length-text b (led_to b t id) sound, vector_within 1 b (led_to b t id) sound))
]

-- a clean text that was read
abbrev pub IsRead : List ℕ → ℕ → ℕ → Option (List ℕ) → Type 0
IsRead b t id o = (o ≡ text_in b t id) × IsClean (BreaksTo BreaksText b t id)

pub read_within : (b : List ℕ) (t id : ℕ) (o : Option (List ℕ)) → IsRead b t id o → text_weight o ≤ length b
read_within b t id o read = subst (λ p. text_weight p ≤ length b) (sym read.0) (text_within b t id read.1)

-- a coordinate reference system by its fields
abbrev pub crs_of : Option (List ℕ) → ℤ → Option (List ℕ) → Option (List ℕ) → Option (List ℕ) → Option (List ℕ) → Crs
crs_of org code name description wkt code_string = record {
  org = org;
  code = code;
  name = name;
  description = description;
  wkt = wkt;
  code_string = code_string;
}

-- the records of equal fields are equal
pub same_crs : (b : List ℕ) (t : ℕ) (org : Option (List ℕ)) (code : ℤ) (name description wkt code_string : Option (List ℕ))
    → org ≡ text_in b t 0 → code ≡ signed_in b t 1 (pos 0) → name ≡ text_in b t 2 → description ≡ text_in b t 3 → wkt ≡ text_in b t 4 → code_string ≡ text_in b t 5
    → crs_of org code name description wkt code_string ≡ crs_at b t
unfolding crs_at
same_crs b t org code name description wkt code_string e0 e1 e2 e3 e4 e5 = rw (e0, e1, e2, e3, e4, e5) refl

-- a column by its fields
abbrev pub column_of : List ℕ → ℕ → Option (List ℕ) → Option (List ℕ) → ℤ → ℤ → ℤ → Bool → Bool → Bool → Option (List ℕ) → Column
column_of name kind title description width precision scale nullable unique primary_key metadata = record {
  name = name;
  kind = kind;
  title = title;
  description = description;
  width = width;
  precision = precision;
  scale = scale;
  nullable = nullable;
  unique = unique;
  primary_key = primary_key;
  metadata = metadata;
}

pub same_column : (b : List ℕ) (t : ℕ) (name : List ℕ) (kind : ℕ) (title description : Option (List ℕ)) (width precision scale : ℤ) (nullable unique primary_key : Bool) (metadata : Option (List ℕ))
    → name ≡ text b (led_to b t 0) → kind ≡ number_in 1 b t 1 0 → title ≡ text_in b t 2 → description ≡ text_in b t 3
    → width ≡ signed_in b t 4 (negsuc 0) → precision ≡ signed_in b t 5 (negsuc 0) → scale ≡ signed_in b t 6 (negsuc 0)
    → nullable ≡ flag_in b t 7 1 → unique ≡ flag_in b t 8 0 → primary_key ≡ flag_in b t 9 0 → metadata ≡ text_in b t 10
    → column_of name kind title description width precision scale nullable unique primary_key metadata ≡ column_at b t
unfolding column_at
same_column b t name kind title description width precision scale nullable unique primary_key metadata e0 e1 e2 e3 e4 e5 e6 e7 e8 e9 e10 =
    rw (e0, e1, e2, e3, e4, e5, e6, e7, e8, e9, e10) refl

too_great : (n : ℕ) → 14 < n → nat_le n 14 ≡ false
too_great n above = grind (arith, nat_tests)

pub known_within : (kind n : ℕ) → kind ≡ n → nat_le n 14 ≡ true → kind ≤ 14
known_within kind n same known = grind (arith, nat_tests)

module _ (b : List ℕ) (t : ℕ) where
  -- what the fields of a table at t break
  abbrev pub TextClean : ℕ → Type 0
  TextClean id = IsClean (BreaksTo BreaksText b t id)

  abbrev pub NumberClean : ℕ → ℕ → Type 0
  NumberClean width id = IsClean (BreaksField width b t id)

  -- the name is a text, and has to be there
  abbrev pub BreaksName : ℕ → Rule → Type 0
  BreaksName q r = BreaksTo BreaksText b t 0 q r ⊎ Forbids Required (is_table b t) (not (is_absent b t 0)) t q r

  -- the type is a byte, and is known
  abbrev pub BreaksKind : ℕ → Rule → Type 0
  BreaksKind q r = BreaksField 1 b t 1 q r ⊎ Forbids ColumnType (is_table b t && is_readable 1 b t 1) (nat_le (number_in 1 b t 1 0) 14) t q r

  name_absent : text_in b t 0 ≡ None → is_absent b t 0 ≡ true
  name_absent missing = elim (cases_Bool (is_absent b t 0)) [
    | inl absent ↦ absent
    | inr present ↦ let e : Some (text b (led_to b t 0)) ≡ None = sym (text_in-present b t 0 present) ∙ missing in cc
  ]

  name_given : (name : List ℕ) → Some name ≡ text_in b t 0 → is_absent b t 0 ≡ false
  name_given name there = elim (cases_Bool (is_absent b t 0)) [
    | inl absent ↦ let e : Some name ≡ None = there ∙ text_in-absent b t 0 absent in cc
    | inr present ↦ present
  ]

  pub name_there : (name : List ℕ) → Some name ≡ text_in b t 0 → name ≡ text b (led_to b t 0)
  name_there name there = let e : Some name ≡ Some (text b (led_to b t 0)) = there ∙ text_in-present b t 0 (name_given name there) in cc

  pub name_clean : (name : List ℕ) → IsRead b t 0 (Some name) → IsClean BreaksName
  name_clean name read q r (inl broken) = read.1 q r broken
  name_clean name read q r (inr missing) = let e = missing.other in let present = name_given name read.0 in let wrong : true ≡ false = cc in true≢false wrong

  -- a name that is not missing is there
  pub name_present : IsClean BreaksName → is_table b t ≡ true → is_absent b t 0 ≡ false
  name_present clean sound = elim (cases_Bool (is_absent b t 0)) [
    | inl absent ↦ absurd (clean t Required (inr (record { known = sound; other = ap not absent; place = refl; rule = refl })))
    | inr present ↦ present
  ]

  -- and is no longer than the buffer
  pub name_within : (name : List ℕ) → name ≡ text b (led_to b t 0) → IsClean BreaksName → is_table b t ≡ true → length name ≤ length b
  name_within name there clean sound =
      read_within b t 0 (Some name) (ap (λ s. Some s) there ∙ sym (text_in-present b t 0 (name_present clean sound)), λ q r broken. clean q r (inl broken))

  module _ (sound : is_table b t ≡ true) where
    -- a type that is not refused is known
    pub kind_known : IsClean BreaksKind → nat_le (number_in 1 b t 1 0) 14 ≡ true
    kind_known clean = elim (cases_Bool (nat_le (number_in 1 b t 1 0) 14)) [
      | inl known ↦ known
      | inr above ↦ absurd (clean t ColumnType (inr (record {
        known = rw (sound, readable b 1 t 1 (λ q r broken. clean q r (inl broken))) refl;
        other = above;
        place = refl;
        rule = refl;
      })))
    ]

    pub name_missing : None ≡ text_in b t 0 → Forbids Required (is_table b t) (not (is_absent b t 0)) t t Required
    name_missing missing = record {
      known = sound;
      other = ap not (name_absent (sym missing));
      place = refl;
      rule = refl;
    }

    pub kind_unknown : (kind : ℕ) → kind ≡ number_in 1 b t 1 0 → IsClean (BreaksField 1 b t 1) → 14 < kind
        → Forbids ColumnType (is_table b t && is_readable 1 b t 1) (nat_le (number_in 1 b t 1 0) 14) t t ColumnType
    kind_unknown kind same clean above = record {
      known = rw (sound, readable b 1 t 1 clean) refl;
      other = ap (λ n. nat_le n 14) (sym same) ∙ too_great kind above;
      place = refl;
      rule = refl;
    }

    pub crs_from_text : (id : ℕ) → IsAmong (id, link string) crs_fields → (q : ℕ) (r : Rule) → BreaksTo BreaksText b t id q r → Breaks b (crs_part t) q r
    unfolding fields
    crs_from_text id among q r broken = from_field b crs t sound (id, link string) among q r (from_text b t id q r broken)

    pub crs_from_number : (width id : ℕ) → IsAmong (id, scalar width) crs_fields → (q : ℕ) (r : Rule) → BreaksField width b t id q r → Breaks b (crs_part t) q r
    unfolding fields
    crs_from_number width id among q r broken = from_field b crs t sound (id, scalar width) among q r (from_scalar b width t id q r broken)

    pub crs_clean : TextClean 0 → NumberClean 4 1 → TextClean 2 → TextClean 3 → TextClean 4 → TextClean 5 → IsClean (Breaks b (crs_part t))
    unfolding fields BreaksByTable
    crs_clean org code name description wkt code_string = table_clean b crs t sound (λ q r broken. broken) (
        text_clean b t 0 org
        & scalar_clean b 4 t 1 code
        & text_clean b t 2 name
        & text_clean b t 3 description
        & text_clean b t 4 wkt
        & text_clean b t 5 code_string
        & tt)

    pub column_from_text : (id : ℕ) → IsAmong (id, link string) column_fields → (q : ℕ) (r : Rule) → BreaksTo BreaksText b t id q r → Breaks b (column_part t) q r
    unfolding fields
    column_from_text id among q r broken = from_field b column t sound (id, link string) among q r (from_text b t id q r broken)

    pub column_from_number : (width id : ℕ) → IsAmong (id, scalar width) column_fields → (q : ℕ) (r : Rule) → BreaksField width b t id q r → Breaks b (column_part t) q r
    unfolding fields
    column_from_number width id among q r broken = from_field b column t sound (id, scalar width) among q r (from_scalar b width t id q r broken)

    pub column_from_name : (q : ℕ) (r : Rule) → BreaksName q r → Breaks b (column_part t) q r
    unfolding BreaksByTable
    column_from_name q r (inl broken) = column_from_text 0 (inl refl) q r broken
    column_from_name q r (inr absent) = from_table b column t sound q r (inl absent)

    pub column_from_kind : (q : ℕ) (r : Rule) → BreaksKind q r → Breaks b (column_part t) q r
    unfolding BreaksByTable
    column_from_kind q r (inl broken) = column_from_number 1 1 (inr (inl refl)) q r broken
    column_from_kind q r (inr unknown) = from_table b column t sound q r (inr unknown)

    own_clean : IsClean BreaksName → IsClean BreaksKind → IsClean (BreaksByTable column b t)
    unfolding BreaksByTable
    own_clean name kind q r (inl absent) = name q r (inr absent)
    own_clean name kind q r (inr unknown) = kind q r (inr unknown)

    pub column_clean : IsClean BreaksName → IsClean BreaksKind → TextClean 2 → TextClean 3 → NumberClean 4 4 → NumberClean 4 5 → NumberClean 4 6
        → NumberClean 1 7 → NumberClean 1 8 → NumberClean 1 9 → TextClean 10 → IsClean (Breaks b (column_part t))
    unfolding fields
    column_clean name kind title description width precision scale nullable unique primary_key metadata = table_clean b column t sound (own_clean name kind) (
        text_clean b t 0 (λ q r broken. name q r (inl broken))
        & scalar_clean b 1 t 1 (λ q r broken. kind q r (inl broken))
        & text_clean b t 2 title
        & text_clean b t 3 description
        & scalar_clean b 4 t 4 width
        & scalar_clean b 4 t 5 precision
        & scalar_clean b 4 t 6 scale
        & scalar_clean b 1 t 7 nullable
        & scalar_clean b 1 t 8 unique
        & scalar_clean b 1 t 9 primary_key
        & text_clean b t 10 metadata
        & tt)
