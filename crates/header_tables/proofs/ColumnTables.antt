-- A column that was laid: it is shown, and breaks nothing.
use Rattle.std.proofs.Common.{◌≡◌, inl, inr, ℕ, ◌+◌, ◌≤◌, nat_le, not, negsuc, Bool, true, false, List, Some, refl, ap, subst, ◌∙◌, arith}
use Rattle.std.specs.Prelude.{IsUtf8}
use Rattle.std.specs.Option.{ForSome}
use Rattle.std.specs.Int.{w32}
use Rattle.std.specs.Int.RustNames.{FitsSigned}
use Rattle.std.proofs.lemmas.Bool.{both_ways}
use Rattle.std.proofs.lemmas.Bool.Decides.{nat_tests}
use Rattle.flat_layout.specs.declared.Rule.{Rule}
use Rattle.flat_layout.specs.Layout.{is_absent, number_in}
use Rattle.flat_layout.specs.Promises.{IsClean}
use Rattle.fgb_schema.specs.Headers.{Column, column_at}
use Rattle.fgb_schema.specs.Tables.{column, fields}
use Rattle.fgb_schema.specs.Paths.{BreaksByTable, Forbids, column_part}
use Rattle.flat_laid.specs.Trees.{fields_weight}
use Rattle.flat_laid.specs.Lies.{IsTable, HasFields}
use Rattle.header_tables.specs.Laying.{column_table, column_items}
use Rattle.header_tables.specs.Records.{IsColumn}
use Rattle.header_tables.proofs.Held.{HeldAt, field_of}
use Rattle.header_tables.proofs.Sound.{IsSound, ◌◁◌, sound_none, table_sound}
use Rattle.header_tables.proofs.Numbers.{number_sound, number_shown, flag_sound, flag_shown, signed_sound, signed_shown}
use Rattle.header_tables.proofs.Links.{text_sound, text_shown}

room : FitsSigned w32 (negsuc 0)
room = omega arith

-- what is allowed breaks nothing
pub allowed : (named : Rule) (is_known is_allowed : Bool) (p : ℕ) → is_allowed ≡ true → IsClean (Forbids named is_known is_allowed p)
allowed named is_known is_allowed p is q r broken = both_ways is_allowed broken.other is

pub within : (n most : ℕ) → n ≤ most → nat_le n most ≡ true
within n most few = grind (arith, nat_tests)

some_text : (s : List ℕ) → IsUtf8 s → ForSome (Some s) IsUtf8
some_text s utf8 x is = let same : s ≡ x = cc in subst IsUtf8 same utf8

module _ (b : List ℕ) (t : ℕ) (c : Column) (is : IsColumn c) (has : IsTable b (column_table c) t (HasFields b (column_table c) t)) where
  at : (i : ℕ) → HeldAt b t 0 (column_items c) i
  unfolding column_table
  at i = field_of b t (column_items c) has i

  kind_shown : number_in 1 b t 1 0 ≡ c.kind
  kind_shown = number_shown b t 1 1 0 c.kind (at 1)

  pub column_shown : column_at b t ≡ c
  unfolding column_at
  column_shown = rw (
    (at 0).item.same,
    kind_shown,
    text_shown b t 2 c.title (at 2),
    text_shown b t 3 c.description (at 3),
    signed_shown b t 4 (negsuc 0) c.width room is.width (at 4),
    signed_shown b t 5 (negsuc 0) c.precision room is.precision (at 5),
    signed_shown b t 6 (negsuc 0) c.scale room is.scale (at 6),
    flag_shown b t 7 true c.nullable (at 7),
    flag_shown b t 8 false c.unique (at 8),
    flag_shown b t 9 false c.primary_key (at 9),
    text_shown b t 10 c.metadata (at 10),
  ) refl

  own : IsClean (BreaksByTable column b t)
  unfolding BreaksByTable
  own q r (inl broken) = allowed _ _ (not (is_absent b t 0)) t (ap not (at 0).present) q r broken
  own q r (inr broken) = allowed _ _ (nat_le (number_in 1 b t 1 0) 14) t (ap (λ n. nat_le n 14) kind_shown ∙ within c.kind 14 is.kind) q r broken

  pub column_sound : IsSound b (column_part t) (4 + fields_weight (column_table c))
  unfolding fields column_table
  column_sound = table_sound b column t (column_items c) has.inside own (
      text_sound b t 0 (Some c.name) (some_text c.name is.name) (at 0)
      ◁ number_sound b t 1 1 0 c.kind (at 1)
      ◁ text_sound b t 2 c.title is.title (at 2)
      ◁ text_sound b t 3 c.description is.description (at 3)
      ◁ signed_sound b t 4 (negsuc 0) c.width (at 4)
      ◁ signed_sound b t 5 (negsuc 0) c.precision (at 5)
      ◁ signed_sound b t 6 (negsuc 0) c.scale (at 6)
      ◁ flag_sound b t 7 true c.nullable (at 7)
      ◁ flag_sound b t 8 false c.unique (at 8)
      ◁ flag_sound b t 9 false c.primary_key (at 9)
      ◁ text_sound b t 10 c.metadata is.metadata (at 10)
      ◁ sound_none b)
