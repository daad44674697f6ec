-- The records that the views are seen as.
use Rattle.std.specs.Prelude.{◌≡◌, ℕ, List}
use Rattle.std.specs.Option.{option_map}
use Rattle.fgb_schema.specs.Headers.{Header, Column, types}
use Rattle.fgb_schema.specs.Properties.{Property, properties_in}
use Rattle.fgb_schema.specs.Features.{Feature, feature_at, columns_holding}
use Rattle.fgb_header.specs.Views.{columns_shown}
use Rattle.geometry_view.specs.Views.{geometry_shown}
use Rattle.fgb_feature.specs.declared.props.Props.{Props}
use Rattle.fgb_feature.specs.declared.feature.FeatureView.{FeatureView}

-- the properties that are left
abbrev pub properties_of : Props → List Property
properties_of props = properties_in (types (columns_shown props.columns)) props.bytes.now

-- the columns that hold for the properties of a feature
abbrev pub held_shown : FeatureView → List Column
held_shown feature = columns_shown feature.properties.columns

abbrev pub feature_shown : FeatureView → Feature
feature_shown feature = record {
  shape = option_map geometry_shown feature.geometry;
  properties = properties_of feature.properties;
  columns = columns_shown feature.columns;
}

-- the view is that of the feature at t under a header
pub record ShowsFeature (h : Header) (b : List ℕ) (t : ℕ) (feature : FeatureView) : Type 0 where
  pub record_of : feature_shown feature ≡ feature_at h b t
  pub held : held_shown feature ≡ columns_holding h (feature_at h b t)
