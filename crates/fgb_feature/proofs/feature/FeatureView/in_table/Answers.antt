use Rattle.std.proofs.Common.{◌≡◌, ◌∙◌, ℕ, List, Option, ap, subst}
use Rattle.std.specs.Option.{option_map}
use Rattle.flat_layout.specs.Promises.{IsClean, Names}
use Rattle.flat_layout.proofs.Judging.{exit}
use Rattle.flat_views.specs.Meters.{left_of, meter_place}
use Rattle.flat_views.specs.Tables.{base_of, bytes_of, place_of}
use Rattle.fgb_schema.specs.Headers.{Header, types, holding}
use Rattle.fgb_schema.specs.Paths.{geometry_field}
use Rattle.fgb_schema.specs.Properties.{BreaksProperties}
use Rattle.fgb_schema.specs.Shapes.{Shape}
use Rattle.fgb_schema.proofs.FeaturePaths.{feature_clean}
use Rattle.fgb_schema.proofs.TablesRead.{Refuses}
use Rattle.fgb_header.specs.Views.{columns_shown, header_shown}
use Rattle.geometry_view.specs.Views.{geometry_shown}
use Rattle.fgb_feature.specs.Lists.{bytes_shown, first_place}
use Rattle.fgb_feature.proofs.FeatureFields.{IsGeometryRead}
use Rattle.fgb_feature.proofs.FeatureMeter.{refuse_spend, refuse_shape, refuse_pairs, refuse_columns, refuse_keys, feature_paid}
use Rattle.fgb_feature.proofs.FeaturePairs.{list_bytes, pairs_clean, pairs_named, feature_is}
use Rattle.fgb_feature.proofs.feature.FeatureView.in_table.Goals as goal

-- what was read of the geometry under the header's type
under_header : (h : Header) (b : List ℕ) (t outer before after : ℕ) (seen : Option Shape) → outer ≡ h.geometry_type → IsGeometryRead outer b t before after seen → IsGeometryRead h.geometry_type b t before after seen
under_header h b t outer before after seen same read = subst (λ k. IsGeometryRead k b t before after seen) same read

pub returns-in_err-spend : goal.returns-in_err-spend
returns-in_err-spend c =
    let h = header_shown c.args.header.now in let b = bytes_of c.args.table in let t = place_of c.args.table in
    exit _ _ _ _ c.from_residual.ensures.1
    (refuse_spend h b t c.args.table.sound (base_of c.args.table) (left_of c.spend.new.self) c.args.meter.now _ c.in_err-spend.ensures.too_heavy (ap left_of c.in_err-spend.ensures.unchanged))

pub returns-in_err-geometry : goal.returns-in_err-geometry
returns-in_err-geometry c =
    let h = header_shown c.args.header.now in let b = bytes_of c.args.table in let t = place_of c.args.table in let base = base_of c.args.table in
    let spent = c.in_ok-spend.ensures.ok in
    let refused = subst (λ outer. Refuses base b (geometry_field outer t) (meter_place c.spend.new.self) (left_of c.spend.new.self) (left_of c.geometry_in.new.meter) c.in_err-geometry.field-0.0) c.geometry_type.ensures c.in_err-geometry.ensures.goes in
    exit _ _ _ _ c.from_residual-in_err-geometry.ensures.1
    (refuse_shape h b t c.args.table.sound (left_of c.args.meter.now) (left_of c.spend.new.self) spent.taken base (meter_place c.spend.new.self) (meter_place c.args.meter.now) (left_of c.geometry_in.new.meter) _ spent.same_place refused)

pub returns-in_err-list : goal.returns-in_err-list
returns-in_err-list c =
    let h = header_shown c.args.header.now in let b = bytes_of c.args.table in let t = place_of c.args.table in let base = base_of c.args.table in
    let spent = c.in_ok-spend.ensures.ok in
    let read = under_header h b t c.geometry_type.result (left_of c.spend.new.self) (left_of c.geometry_in.new.meter) (option_map geometry_shown c.in_ok-geometry.geometry) c.geometry_type.ensures c.in_ok-geometry.ensures.goes in
    exit _ _ _ _ c.from_residual-in_err-list.ensures.1
    (refuse_pairs h b t c.args.table.sound (left_of c.args.meter.now) (left_of c.spend.new.self) spent.taken (left_of c.geometry_in.new.meter) read.2
    base (meter_place c.geometry_in.new.meter) (meter_place c.args.meter.now) (left_of c.properties_in.new.meter) _ (c.in_ok-geometry.ensures.place ∙ spent.same_place) c.in_err-list.ensures.goes)

pub returns-in_err-columns : goal.returns-in_err-columns
returns-in_err-columns c =
    let h = header_shown c.args.header.now in let b = bytes_of c.args.table in let t = place_of c.args.table in let base = base_of c.args.table in
    let spent = c.in_ok-spend.ensures.ok in
    let read = under_header h b t c.geometry_type.result (left_of c.spend.new.self) (left_of c.geometry_in.new.meter) (option_map geometry_shown c.in_ok-geometry.geometry) c.geometry_type.ensures c.in_ok-geometry.ensures.goes in
    exit _ _ _ _ c.from_residual-in_err-columns.ensures.1
    (refuse_columns h b t c.args.table.sound (left_of c.args.meter.now) (left_of c.spend.new.self) spent.taken (left_of c.geometry_in.new.meter) read.2 (left_of c.properties_in.new.meter) c.in_ok-list.ensures.goes.2
    base (meter_place c.properties_in.new.meter) (meter_place c.args.meter.now) (left_of c.in_field.new.meter) _ (c.in_ok-list.ensures.place ∙ c.in_ok-geometry.ensures.place ∙ spent.same_place) c.in_err-columns.ensures.goes)

pub returns-in_err-properties : goal.returns-in_err-properties
returns-in_err-properties c =
    let h = header_shown c.args.header.now in let b = bytes_of c.args.table in let t = place_of c.args.table in let base = base_of c.args.table in
    let spent = c.in_ok-spend.ensures.ok in
    let read = under_header h b t c.geometry_type.result (left_of c.spend.new.self) (left_of c.geometry_in.new.meter) (option_map geometry_shown c.in_ok-geometry.geometry) c.geometry_type.ensures c.in_ok-geometry.ensures.goes in
    let list = c.in_ok-list.ensures.goes in let own = c.in_ok-columns.ensures.goes in
    let named = subst (λ outer. Names (first_place c.in_ok-list.list) (BreaksProperties (types (holding (columns_shown c.in_ok-columns.columns) outer)) (bytes_shown c.in_ok-list.list)) c.in_err-properties.field-0.0) c.columns.ensures c.in_err-properties.ensures in
    exit _ _ _ _ c.from_residual-in_err-properties.ensures.1
    (refuse_keys h b t c.args.table.sound (left_of c.args.meter.now) (left_of c.spend.new.self) spent.taken (left_of c.geometry_in.new.meter) read.2 (left_of c.properties_in.new.meter) list.2 (left_of c.in_field.new.meter) own.2
    base (meter_place c.args.meter.now) _
    (pairs_named b t list.1 own.1 h.columns (columns_shown c.in_ok-columns.columns) own.0 c.args.table.sound base c.in_ok-list.list list.0 c.in_err-properties.field-0.0 named))

pub returns : goal.returns
returns c =
    let h = header_shown c.args.header.now in let b = bytes_of c.args.table in let t = place_of c.args.table in let base = base_of c.args.table in
    let spent = c.in_ok-spend.ensures.ok in
    let read = under_header h b t c.geometry_type.result (left_of c.spend.new.self) (left_of c.geometry_in.new.meter) (option_map geometry_shown c.in_ok-geometry.geometry) c.geometry_type.ensures c.in_ok-geometry.ensures.goes in
    let list = c.in_ok-list.ensures.goes in let own = c.in_ok-columns.ensures.goes in let pairs = c.in_ok-properties.ensures in
    let clean = subst (λ outer. IsClean (BreaksProperties (types (holding (columns_shown c.in_ok-columns.columns) outer)) (bytes_shown c.in_ok-list.list))) c.columns.ensures pairs.1 in (
      feature_is h b t c.in_ok-geometry.geometry c.in_ok-properties.properties c.in_ok-columns.columns read.0 (pairs.0.0 ∙ list_bytes b t base c.in_ok-list.list list.0)
          (pairs.0.1 ∙ ap (holding (columns_shown c.in_ok-columns.columns)) c.columns.ensures ∙ ap (λ k. holding k h.columns) own.0) own.0,
      feature_clean h b t c.args.table.sound read.1 list.1 own.1 (pairs_clean b t list.1 own.1 h.columns (columns_shown c.in_ok-columns.columns) own.0 base c.in_ok-list.list list.0 clean),
      feature_paid h b t c.args.table.sound (left_of c.args.meter.now) (left_of c.spend.new.self) spent.taken (left_of c.geometry_in.new.meter) read.2 (left_of c.properties_in.new.meter) list.2 (left_of c.in_field.new.meter) own.2,
    )
