-- A column that was laid: it is shown, and breaks nothing.
use Rattle.std.proofs.Common.{◌≡◌, inl, inr, ℕ, ◌+◌, ◌≤◌, nat_le, not, negsuc, Bool, true, false, List, [], ◌∷◌, Option, Some, None, refl, ap, sym, subst, ◌∙◌, arith}
use Rattle.std.specs.Prelude.{IsUtf8}
use Rattle.std.specs.Option.{ForSome}
use Rattle.std.specs.Int.{w32}
use Rattle.std.specs.Int.RustNames.{FitsSigned}
use Rattle.std.proofs.lemmas.Bool.{both_ways}
use Rattle.std.proofs.lemmas.Bool.Decides.{nat_tests}
use Rattle.flat_layout.specs.declared.Rule.{Rule}
use Rattle.flat_layout.specs.Layout.{is_absent, number_in}
use Rattle.flat_layout.specs.Promises.{IsClean}
use Rattle.fgb_schema.specs.Headers.{Column, column_at}
use Rattle.fgb_schema.specs.Tables.{column, fields}
use Rattle.fgb_schema.specs.Paths.{BreaksByTable, Forbids, column_part}
use Rattle.flat_laid.specs.Trees.{fields_weight}
use Rattle.flat_laid.specs.Lies.{IsTable, HasFields}
use Rattle.flat_builder.specs.Trees.{Item, Fields, none, put}
use Rattle.header_tables.specs.Laying.{column_table, column_items, with_fields as header_fields}
use Rattle.shape_tables.specs.Laying.{with_fields}
use Rattle.fgb_schema.specs.Weights.{total}
use Rattle.header_tables.specs.Records.{IsColumn}
use Rattle.shape_tables.proofs.Held.{HeldAt, field_of}
use Rattle.shape_tables.proofs.Unbroken.{IsUnbroken, ◌◁◌, unbroken_none, table_unbroken, weight_of, held_weight}
use Rattle.feature_tables.proofs.Numbers.{number_unbroken, number_shown, flag_unbroken, flag_shown, signed_unbroken, signed_shown}
use Rattle.feature_tables.proofs.Links.{text_unbroken, text_shown}

room : FitsSigned w32 (negsuc 0)
room = omega arith

-- what is allowed breaks nothing
pub allowed : (named : Rule) (is_known is_allowed : Bool) (p : ℕ) → is_allowed ≡ true → IsClean (Forbids named is_known is_allowed p)
allowed named is_known is_allowed p is q r broken = both_ways is_allowed broken.other is

pub within : (n most : ℕ) → n ≤ most → nat_le n most ≡ true
within n most few = grind (arith, nat_tests)

some_text : (s : List ℕ) → IsUtf8 s → ForSome (Some s) IsUtf8
some_text s utf8 x is = let same : s ≡ x = cc in subst IsUtf8 same utf8

-- `header_tables` lists the fields of a column with a function of its own
same_fields : (items : List (Option Item)) (fs : Fields) (n : ℕ) → header_fields fs n items ≡ with_fields fs n items
same_fields [] fs n = refl
same_fields (None ∷ rest) fs n = same_fields rest fs (n + 1)
same_fields (Some it ∷ rest) fs n = same_fields rest (put fs n it) (n + 1)

pub as_listed : (c : Column) → column_table c ≡ with_fields none 0 (column_items c)
unfolding column_table
as_listed c = same_fields (column_items c) none 0

module _ (b : List ℕ) (t : ℕ) (c : Column) (is : IsColumn c) (has : IsTable b (column_table c) t (HasFields b (column_table c) t)) where
  at : (i : ℕ) → HeldAt b t 0 (column_items c) i
  at i = field_of b t (column_items c) (subst (λ fs. IsTable b fs t (HasFields b fs t)) (as_listed c) has) i

  kind_shown : number_in 1 b t 1 0 ≡ c.kind
  kind_shown = number_shown b t 1 1 0 c.kind (at 1)

  pub column_shown : column_at b t ≡ c
  unfolding column_at
  column_shown = rw (
    (at 0).item.same,
    kind_shown,
    text_shown b t 2 c.title (at 2),
    text_shown b t 3 c.description (at 3),
    signed_shown b t 4 (negsuc 0) c.width room is.width (at 4),
    signed_shown b t 5 (negsuc 0) c.precision room is.precision (at 5),
    signed_shown b t 6 (negsuc 0) c.scale room is.scale (at 6),
    flag_shown b t 7 true c.nullable (at 7),
    flag_shown b t 8 false c.unique (at 8),
    flag_shown b t 9 false c.primary_key (at 9),
    text_shown b t 10 c.metadata (at 10),
  ) refl

  own : IsClean (BreaksByTable column b t)
  unfolding BreaksByTable
  own q r (inl broken) = allowed _ _ (not (is_absent b t 0)) t (ap not (at 0).present) q r broken
  own q r (inr broken) = allowed _ _ (nat_le (number_in 1 b t 1 0) 14) t (ap (λ n. nat_le n 14) kind_shown ∙ within c.kind 14 is.kind) q r broken

  weight_is : total held_weight (column_items c) ≡ fields_weight (column_table c)
  weight_is = sym (ap fields_weight (as_listed c) ∙ weight_of (column_items c))

  pub column_unbroken : IsUnbroken b (column_part t) (4 + fields_weight (column_table c))
  unfolding fields
  column_unbroken = subst (λ w. IsUnbroken b (column_part t) (4 + w)) weight_is (table_unbroken b t column (total held_weight (column_items c)) has.inside own (
      text_unbroken b t 0 (Some c.name) (some_text c.name is.name) (at 0)
      ◁ number_unbroken b t 1 1 0 c.kind (at 1)
      ◁ text_unbroken b t 2 c.title is.title (at 2)
      ◁ text_unbroken b t 3 c.description is.description (at 3)
      ◁ signed_unbroken b t 4 (negsuc 0) c.width (at 4)
      ◁ signed_unbroken b t 5 (negsuc 0) c.precision (at 5)
      ◁ signed_unbroken b t 6 (negsuc 0) c.scale (at 6)
      ◁ flag_unbroken b t 7 true c.nullable (at 7)
      ◁ flag_unbroken b t 8 false c.unique (at 8)
      ◁ flag_unbroken b t 9 false c.primary_key (at 9)
      ◁ text_unbroken b t 10 c.metadata is.metadata (at 10)
      ◁ unbroken_none b))
