-- A coordinate reference system that was laid: it is shown, and breaks nothing.
use Rattle.std.proofs.Common.{◌≡◌, ℕ, ◌+◌, pos, List, Some, None, Option, refl, ap, ◌∙◌, arith}
use Rattle.std.specs.Option.{option_map, ForSome}
use Rattle.std.specs.Int.{w32}
use Rattle.std.specs.Int.RustNames.{FitsSigned}
use Rattle.std.proofs.lemmas.Bool.{both_ways}
use Rattle.flat_layout.specs.Layout.{is_absent, led_to, place_in}
use Rattle.flat_layout.specs.Promises.{IsClean, BreaksTable}
use Rattle.flat_layout.proofs.Judging.{clean-table, clean-to_absent}
use Rattle.flat_layout.proofs.Numbers.{place_in-absent, place_in-present}
use Rattle.fgb_schema.specs.Headers.{Crs, crs_at}
use Rattle.fgb_schema.specs.Tables.{crs, fields, table as table_thing, link}
use Rattle.fgb_schema.specs.Paths.{BreaksByTable, field, crs_part}
use Rattle.fgb_schema.proofs.FieldParts.{to_table_clean}
use Rattle.fgb_schema.proofs.Weighing.{weigh_absent, weigh_link}
use Rattle.flat_builder.specs.Trees.{Item, table}
use Rattle.flat_laid.specs.Trees.{fields_weight}
use Rattle.flat_laid.specs.Lies.{IsTable, HasFields}
use Rattle.header_tables.specs.Laying.{crs_table, crs_items}
use Rattle.header_tables.specs.Records.{IsCrs}
use Rattle.header_tables.proofs.Held.{IsHeld, HeldAt, field_of}
use Rattle.header_tables.proofs.Sound.{IsSound, ◌◁◌, sound_none, table_sound, held_weight}
use Rattle.header_tables.proofs.Numbers.{signed_sound, signed_shown}
use Rattle.header_tables.proofs.Links.{link_of, link_unbroken, text_sound, text_shown}

room : FitsSigned w32 (pos 0)
room = omega arith

module _ (b : List ℕ) (t : ℕ) (c : Crs) (is : IsCrs c) (has : IsTable b (crs_table c) t (HasFields b (crs_table c) t)) where
  at : (i : ℕ) → HeldAt b t 0 (crs_items c) i
  unfolding crs_table
  at i = field_of b t (crs_items c) has i

  pub crs_shown : crs_at b t ≡ c
  unfolding crs_at
  crs_shown = rw (
    text_shown b t 0 c.org (at 0),
    signed_shown b t 1 (pos 0) c.code room is.code (at 1),
    text_shown b t 2 c.name (at 2),
    text_shown b t 3 c.description (at 3),
    text_shown b t 4 c.wkt (at 4),
    text_shown b t 5 c.code_string (at 5),
  ) refl

  own : IsClean (BreaksByTable crs b t)
  unfolding BreaksByTable
  own q r broken = broken

  pub crs_sound : IsSound b (crs_part t) (4 + fields_weight (crs_table c))
  unfolding fields crs_table
  crs_sound = table_sound b crs t (crs_items c) has.inside own (
      text_sound b t 0 c.org is.org (at 0)
      ◁ signed_sound b t 1 (pos 0) c.code (at 1)
      ◁ text_sound b t 2 c.name is.name (at 2)
      ◁ text_sound b t 3 c.description is.description (at 3)
      ◁ text_sound b t 4 c.wkt is.wkt (at 4)
      ◁ text_sound b t 5 c.code_string is.code_string (at 5)
      ◁ sound_none b)

-- the field of a header that leads to one, if there is one
abbrev pub crs_item : Option Crs → Option Item
crs_item o = option_map (λ c. table (crs_table c)) o

module _ (b : List ℕ) (t id : ℕ) where
  pub crs_field_shown : (o : Option Crs) → ForSome o IsCrs → IsHeld b t id (crs_item o) → option_map (crs_at b) (place_in b t id) ≡ o
  crs_field_shown None is held = ap (option_map (crs_at b)) (place_in-absent b t id held)
  crs_field_shown (Some c) is held = ap (option_map (crs_at b)) (place_in-present b t id held.present) ∙ ap (λ x. Some x) (crs_shown b (led_to b t id) c (is c refl) held.item)

  pub crs_field_sound : (o : Option Crs) → ForSome o IsCrs → IsHeld b t id (crs_item o) → IsSound b (field (link (table_thing crs)) t id) (held_weight (crs_item o))
  crs_field_sound None is held = record {
    clean = to_table_clean b t id crs (clean-to_absent BreaksTable b t id held) (λ l. absurd (both_ways (is_absent b t id) l.present held));
    weighs = weigh_absent b (table_thing crs) t id held;
  }
  crs_field_sound (Some c) is held =
      let sound = crs_sound b (led_to b t id) c (is c refl) held.item in
      let l = link_of b t id (table (crs_table c)) tt held in
      record {
        clean = to_table_clean b t id crs (link_unbroken b t id BreaksTable l (clean-table b (led_to b t id) held.item.inside)) (λ l. sound.clean);
        weighs = weigh_link b (table_thing crs) t id (4 + fields_weight (crs_table c)) l sound.weighs;
      }
