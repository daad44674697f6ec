-- From the fields of a feature's table, read one after another under a meter, to the feature: what a refusal names, and
-- what all of them weigh.
use Rattle.std.proofs.Common.{◌≡◌, ◌∙◌, inl, inr, ⊎_elim, ℕ, ◌+◌, ◌≤◌, true, List, refl, subst, arith}
use Rattle.flat_layout.specs.declared.Rule.{Rule}
use Rattle.flat_layout.specs.declared.Broken.{Broken}
use Rattle.flat_layout.specs.Layout.{is_table}
use Rattle.flat_layout.specs.Promises.{Names}
use Rattle.flat_layout.proofs.Judging.{names-weaker}
use Rattle.flat_views.specs.declared.meter.Meter.{Meter}
use Rattle.flat_views.specs.Meters.{IsTooHeavy, left_of, meter_place}
use Rattle.fgb_schema.specs.Tables.{geometry, column, table, tables, numbers, link}
use Rattle.fgb_schema.specs.Paths.{Part, Breaks, BreaksFeatureProperties, feature_part, geometry_field, properties_field, columns_field}
use Rattle.fgb_schema.specs.Headers.{Header, types}
use Rattle.fgb_schema.specs.Weights.{IsPaid}
use Rattle.fgb_schema.proofs.FeaturePaths.{feature_from_field, feature_from_properties, feature_weighs, feature_least}
use Rattle.fgb_schema.proofs.TablesRead.{Refuses}
use Rattle.fgb_schema.proofs.Weighing.{IsLeast, least_of, least_heavier, heavier}

module _ (h : Header) (b : List ℕ) (t : ℕ) (sound : is_table b t ≡ true) where
  abbrev feature : Part
  feature = feature_part h t

  abbrev shape_field : Part
  shape_field = geometry_field h.geometry_type t

  abbrev own_columns : Part
  own_columns = columns_field t 2

  -- at least this
  least : (g p c w : ℕ) → IsLeast b shape_field g → IsLeast b (properties_field t) p → IsLeast b own_columns c → 4 + (g + (p + (c + 0))) ≡ w → IsLeast b feature w
  least g p c w of_geometry of_properties of_columns same = subst (IsLeast b feature) same (feature_least h b t sound g p c of_geometry of_properties of_columns)

  nothing : (x : Part) → IsLeast b x 0
  nothing x = (0, omega arith)

  -- the table alone weighs more than was left
  pub refuse_spend : (base after : ℕ) (meter : Meter) (e : Broken) → IsTooHeavy 4 meter e → after ≡ left_of meter → Refuses base b feature (meter_place meter) (left_of meter) after e
  refuse_spend base after meter e heavy same = (
    inr (record {
      heavier = heavier b feature 4 (left_of meter) (least 0 0 0 4 (nothing shape_field) (nothing (properties_field t)) (nothing own_columns) refl) heavy.less;
      at_place = heavy.at_place;
      by_weight = heavy.by_weight;
    }),
    omega (arith, same),
  )

  -- a refusal from a part on, where the feature weighs this and what the part weighs
  refuse_part : (x : Part) (used : ℕ) → ((q : ℕ) (r : Rule) → Breaks b x q r → Breaks b feature q r) → ((w : ℕ) → IsLeast b x w → IsLeast b feature (used + w))
      → (base at at' before left after : ℕ) (e : Broken) → at ≡ at' → left + used ≡ before → Refuses base b x at left after e → Refuses base b feature at' before after e
  refuse_part x used from more base at at' before left after e same taken refused = (
    ⊎_elim
        (λ named. inl (names-weaker base (Breaks b x) (Breaks b feature) e from named))
        (λ over. inr (record {
          heavier = heavier b feature (used + (left + 1)) before (more (left + 1) (least_heavier b x left over.heavier)) (omega (arith, taken));
          at_place = over.at_place ∙ same;
          by_weight = over.by_weight;
        }))
        refused.0,
    let less : after ≤ left = refused.1 in omega (arith, taken),
  )

  -- the table's weight was taken off
  module _ (before first : ℕ) (spent : first + 4 ≡ before) where
    pub refuse_shape : (base at at' after : ℕ) (e : Broken) → at ≡ at' → Refuses base b shape_field at first after e → Refuses base b feature at' before after e
    refuse_shape base at at' after e same refused = refuse_part shape_field 4 (feature_from_field h b t sound (0, link (table (geometry h.geometry_type 1))) (inl refl))
        (λ w least_w. least w 0 0 (4 + w) least_w (nothing (properties_field t)) (nothing own_columns) (omega arith))
        base at at' before first after e same spent refused

    -- and that of the geometry
    module _ (second : ℕ) (g : IsPaid b shape_field first second) where
      pub refuse_pairs : (base at at' after : ℕ) (e : Broken) → at ≡ at' → Refuses base b (properties_field t) at second after e → Refuses base b feature at' before after e
      refuse_pairs base at at' after e same refused = refuse_part (properties_field t) (4 + g.amount) (feature_from_field h b t sound (1, link (numbers 1)) (inr (inl refl)))
          (λ w least_w. least g.amount w 0 (4 + g.amount + w) (least_of b shape_field g.amount g.weighs) least_w (nothing own_columns) (omega arith))
          base at at' before second after e same (omega (arith, spent, g.taken)) refused

      -- and that of the properties
      module _ (third : ℕ) (p : IsPaid b (properties_field t) second third) where
        pub refuse_columns : (base at at' after : ℕ) (e : Broken) → at ≡ at' → Refuses base b own_columns at third after e → Refuses base b feature at' before after e
        refuse_columns base at at' after e same refused = refuse_part own_columns (4 + g.amount + p.amount) (feature_from_field h b t sound (2, link (tables column)) (inr (inr (inl refl))))
            (λ w least_w. least g.amount p.amount w (4 + g.amount + p.amount + w) (least_of b shape_field g.amount g.weighs) (least_of b (properties_field t) p.amount p.weighs) least_w (omega arith))
            base at at' before third after e same (omega (arith, spent, g.taken, p.taken)) refused

        -- and that of the columns
        module _ (last : ℕ) (c : IsPaid b own_columns third last) where
          pub feature_paid : IsPaid b feature before last
          feature_paid = record {
            amount = 4 + (g.amount + (p.amount + (c.amount + 0)));
            weighs = feature_weighs h b t sound g.amount p.amount c.amount g.weighs p.weighs c.weighs;
            taken = omega (arith, spent, g.taken, p.taken, c.taken);
          }

          pub refuse_keys : (base at : ℕ) (e : Broken) → Names base (BreaksFeatureProperties (types h.columns) b t) e → Refuses base b feature at before last e
          refuse_keys base at e named = (
            inl (names-weaker base (BreaksFeatureProperties (types h.columns) b t) (Breaks b feature) e (feature_from_properties h b t sound) named),
            omega (arith, spent, g.taken, p.taken, c.taken),
          )
