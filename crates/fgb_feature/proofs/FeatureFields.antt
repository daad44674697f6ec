-- The fields of a feature's table that were read, each under a meter.
use Rattle.std.proofs.Common.{◌≡◌, ◌∙◌, inr, ℕ, ◌+◌, ◌*◌, true, false, List, Option, Some, None, ap, sym, arith}
use Rattle.std.specs.Option.{option_map}
use Rattle.flat_layout.specs.declared.Broken.{Broken}
use Rattle.flat_layout.specs.Layout.{is_absent, led_to, count, place_in}
use Rattle.flat_layout.specs.Promises.{IsClean, Names, BreaksTable, BreaksVector, BreaksTo}
use Rattle.flat_layout.proofs.Judging.{names-weaker}
use Rattle.flat_layout.proofs.Numbers.{place_in-absent, place_in-present}
use Rattle.flat_views.specs.declared.meter.Meter.{Meter}
use Rattle.flat_views.specs.Meters.{IsTooHeavy, left_of, meter_place}
use Rattle.fgb_schema.specs.Tables.{geometry, table as table_thing, numbers}
use Rattle.fgb_schema.specs.Paths.{Breaks, geometry_field, geometry_part, properties_field}
use Rattle.fgb_schema.specs.Shapes.{Shape, shape_at}
use Rattle.fgb_schema.specs.Weights.{IsPaid}
use Rattle.fgb_schema.proofs.FieldParts.{from_to_table, to_table_clean, from_numbers, vector_clean}
use Rattle.fgb_schema.proofs.FieldWeights.{weigh_vector}
use Rattle.fgb_schema.proofs.Links.{IsLink, linked}
use Rattle.fgb_schema.proofs.TablesRead.{Refuses}
use Rattle.fgb_schema.proofs.Weighing.{least_of, heavier}
use Rattle.fgb_feature.proofs.LinkedRead.{absent_paid, linked_paid, refuse_linked}

-- the geometry
module _ (outer : ℕ) (b : List ℕ) (t : ℕ) where
  -- what a reader shows, leaves clean and takes off
  abbrev pub IsGeometryRead : ℕ → ℕ → Option Shape → Type 0
  IsGeometryRead before after seen =
      (seen ≡ option_map (shape_at 15 outer b) (place_in b t 0)) × IsClean (Breaks b (geometry_field outer t)) × IsPaid b (geometry_field outer t) before after

  pub refuse_table : (base : ℕ) (e : Broken) → Names base (BreaksTo BreaksTable b t 0) e → Names base (Breaks b (geometry_field outer t)) e
  refuse_table base e named = names-weaker base (BreaksTo BreaksTable b t 0) (Breaks b (geometry_field outer t)) e (from_to_table b t 0 (geometry outer 1)) named

  module _ (clean : IsClean (BreaksTo BreaksTable b t 0)) where
    pub no_geometry : (left : ℕ) → is_absent b t 0 ≡ true → IsGeometryRead left left None
    no_geometry left absent = (
      ap (option_map (shape_at 15 outer b)) (sym (place_in-absent b t 0 absent)),
      to_table_clean b t 0 (geometry outer 1) clean (λ l. let present = l.present in absurd cc),
      absent_paid b (table_thing (geometry outer 1)) t 0 left absent,
    )

    module _ (present : is_absent b t 0 ≡ false) where
      led : IsLink b t 0
      led = linked b (table_thing (geometry outer 1)) BreaksTable t 0 clean present

      pub refuse_geometry : (base at before after : ℕ) (e : Broken) → Refuses base b (geometry_part outer 1 (led_to b t 0)) at before after e → Refuses base b (geometry_field outer t) at before after e
      refuse_geometry base at before after e refused = refuse_linked b (table_thing (geometry outer 1)) t 0 led BreaksTable base at before after e refused

      pub one_geometry : (before after : ℕ) (seen : Shape) → seen ≡ shape_at 15 outer b (led_to b t 0) → IsClean (Breaks b (geometry_part outer 1 (led_to b t 0))) → IsPaid b (geometry_part outer 1 (led_to b t 0)) before after
          → IsGeometryRead before after (Some seen)
      one_geometry before after seen shows behind paid = (
        ap (λ s. Some s) shows ∙ ap (option_map (shape_at 15 outer b)) (sym (place_in-present b t 0 present)),
        to_table_clean b t 0 (geometry outer 1) clean (λ l. behind),
        linked_paid b (table_thing (geometry outer 1)) t 0 led before after paid,
      )

-- the properties
module _ (b : List ℕ) (t : ℕ) where
  pub refuse_vector : (base : ℕ) (e : Broken) → Names base (BreaksTo (BreaksVector 1) b t 1) e → Names base (Breaks b (properties_field t)) e
  refuse_vector base e named = names-weaker base (BreaksTo (BreaksVector 1) b t 1) (Breaks b (properties_field t)) e (from_numbers b t 1 1) named

  module _ (clean : IsClean (BreaksTo (BreaksVector 1) b t 1)) where
    pub properties_clean : IsClean (Breaks b (properties_field t))
    properties_clean = vector_clean b t 1 1 clean

    pub no_properties : (left : ℕ) → is_absent b t 1 ≡ true → IsPaid b (properties_field t) left left
    no_properties left absent = absent_paid b (numbers 1) t 1 left absent

    module _ (present : is_absent b t 1 ≡ false) (amount : ℕ) (same : amount ≡ count b (led_to b t 1)) where
      pub properties_paid : (before after : ℕ) → after + amount ≡ before → IsPaid b (properties_field t) before after
      properties_paid before after taken = record {
        amount = 1 * count b (led_to b t 1);
        weighs = weigh_vector b 1 t 1 clean present;
        taken = omega (arith, taken, same);
      }

      -- less is left than they weigh
      pub refuse_properties : (base after : ℕ) (meter : Meter) (e : Broken) → IsTooHeavy amount meter e → after ≡ left_of meter → Refuses base b (properties_field t) (meter_place meter) (left_of meter) after e
      refuse_properties base after meter e heavy unchanged = (
        inr (record {
          heavier = heavier b (properties_field t) (1 * count b (led_to b t 1)) (left_of meter) (least_of b (properties_field t) (1 * count b (led_to b t 1)) (weigh_vector b 1 t 1 clean present)) (omega (arith, heavy.less, same));
          at_place = heavy.at_place;
          by_weight = heavy.by_weight;
        }),
        omega (arith, unchanged),
      )
