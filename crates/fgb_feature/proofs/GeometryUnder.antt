-- From what is read of a feature's geometry alone to the feature's buffer, under each header of its geometry type.
use Rattle.std.proofs.Common.{◌≡◌, ℕ, ◌+◌, ◌*◌, List, length, Option, Result, Ok, Err, IfOk, IfErr, sym, subst}
use Rattle.std.specs.Option.{option_map}
use Rattle.flat_layout.specs.declared.Broken.{Broken}
use Rattle.flat_layout.specs.Layout.{place_in, target}
use Rattle.flat_layout.specs.Promises.{IsClean, Names, BreaksRoot}
use Rattle.flat_views.specs.declared.meter.Meter.{Meter}
use Rattle.flat_views.specs.declared.tables.Table.{Table}
use Rattle.flat_views.specs.Meters.{IsTooHeavy, TakesOff, left_of, meter_place}
use Rattle.flat_views.specs.Tables.{IsTableAt, base_of, bytes_of, place_of}
use Rattle.flat_views.proofs.Placed.{at_table}
use Rattle.fgb_schema.specs.Tables.{feature as feature_name}
use Rattle.fgb_schema.specs.Paths.{feature_part, feature_root, geometry_field}
use Rattle.fgb_schema.specs.Headers.{Header, types}
use Rattle.fgb_schema.specs.Shapes.{shape_at}
use Rattle.fgb_schema.specs.Features.{feature_at, feature_of}
use Rattle.fgb_schema.specs.Weights.{BreaksBuffer, Goes}
use Rattle.fgb_schema.proofs.TablesRead.{Refuses}
use Rattle.fgb_header.proofs.RootTables.{judge_root}
use Rattle.geometry_view.specs.declared.geometry.GeometryView.{GeometryView}
use Rattle.geometry_view.specs.Views.{geometry_shown}
use Rattle.fgb_feature.proofs.FeatureMeter.{refuse_spend, refuse_shape}

-- the root's table of a buffer
module _ (base' base : ℕ) (b' b : List ℕ) (table : Table) (same_base : base' ≡ base) (same_bytes : b' ≡ b) (here : IsTableAt b' base' (target b' 0) table) where
  -- what reading the geometry of the feature there shows
  abbrev ShowsIn : ℕ → Option GeometryView → Type 0
  ShowsIn outer g = option_map geometry_shown g ≡ option_map (shape_at 15 outer (bytes_of table)) (place_in (bytes_of table) (place_of table) 0)

  pub shown_under : (outer at before after : ℕ) (r : Result (Option GeometryView) Broken) → Goes (base_of table) (bytes_of table) (geometry_field outer (place_of table)) at before after (ShowsIn outer) r
      → IfOk r (λ g. (h : Header) → h.geometry_type ≡ outer → option_map geometry_shown g ≡ (feature_of h b).shape)
  unfolding feature_at
  shown_under outer at before after (Ok g) goes = λ h same.
      subst (λ k. option_map geometry_shown g ≡ option_map (shape_at 15 k b) (place_in b (target b 0) 0)) (sym same)
      (subst (λ s. option_map geometry_shown g ≡ option_map (shape_at 15 outer s) (place_in s (target s 0) 0)) same_bytes
      (at_table base' b' (target b' 0) table here (λ k s p. option_map geometry_shown g ≡ option_map (shape_at 15 outer s) (place_in s p 0)) goes.0))
  shown_under outer at before after (Err e) goes = tt

  -- and a meter for it
  module _ (clean : IsClean (BreaksRoot b')) (meter : Meter) (first : meter_place meter ≡ base) (whole : left_of meter ≡ 4 * length b) where
    -- a refusal from the feature on is one of the buffer
    refuse_below : (h : Header) (after : ℕ) (e : Broken) → Refuses (base_of table) (bytes_of table) (feature_part h (place_of table)) (meter_place meter) (left_of meter) after e
        → Names base (BreaksBuffer b (feature_root h)) e
    refuse_below h after e refused =
        judge_root (feature_name h.geometry_type (types h.columns)) base' base b' b (meter_place meter) (left_of meter) after table (λ s p (g : Option GeometryView). ShowsIn 0 g) (Err e)
        same_base same_bytes here clean first whole refused

    -- that of the table's weight
    pub table_refused : (after : ℕ) (e : Broken) → IsTooHeavy 4 meter e → after ≡ left_of meter → (h : Header) → Names base (BreaksBuffer b (feature_root h)) e
    table_refused after e heavy same h = refuse_below h after e (refuse_spend h (bytes_of table) (place_of table) table.sound (base_of table) after meter e heavy same)

    -- that of the geometry, once that weight was taken off
    pub refused_under : (outer after : ℕ) (spent : Meter) → TakesOff 4 meter spent → (r : Result (Option GeometryView) Broken)
        → Goes (base_of table) (bytes_of table) (geometry_field outer (place_of table)) (meter_place spent) (left_of spent) after (ShowsIn outer) r
        → IfErr r (λ e. (h : Header) → h.geometry_type ≡ outer → Names base (BreaksBuffer b (feature_root h)) e)
    refused_under outer after spent off (Ok g) goes = tt
    refused_under outer after spent off (Err e) goes = λ h same.
        refuse_below h after e
        (refuse_shape h (bytes_of table) (place_of table) table.sound (left_of meter) (left_of spent) off.taken (base_of table) (meter_place spent) (meter_place meter) after e off.same_place
        (subst (λ k. Refuses (base_of table) (bytes_of table) (geometry_field k (place_of table)) (meter_place spent) (left_of spent) after e) (sym same) goes))
