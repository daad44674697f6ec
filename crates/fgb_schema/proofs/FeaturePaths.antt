-- The paths of a feature's table: its geometry, its properties and its own columns. What is broken in one of these
-- fields or by the properties is broken from the feature on, and the feature is clean and weighs by them.
use Rattle.std.proofs.Common.{◌≡◌, ℕ, ◌+◌, true, List, [], ◌∷◌}
use Rattle.flat_layout.specs.declared.Rule.{Rule}
use Rattle.flat_layout.specs.Layout.{is_table}
use Rattle.flat_layout.specs.Promises.{IsClean}
use Rattle.fgb_schema.specs.Tables.{feature, fields, feature_fields, Content}
use Rattle.fgb_schema.specs.Paths.{IsAmong, BreaksByTable, BreaksFeatureProperties, Breaks, feature_part, geometry_field, properties_field, columns_field}
use Rattle.fgb_schema.specs.Headers.{Header, types}
use Rattle.fgb_schema.specs.Weights.{Weighs}
use Rattle.fgb_schema.proofs.TableParts.{field_part, from_field, from_table, table_clean}
use Rattle.fgb_schema.proofs.Weighing.{IsLeast, together_none, together_more, least_none, least_more, weigh_table, least_table}

infixr 2 ◌&◌
◌&◌ : {A B : Type 0} → A → B → A × B
a & b = (a, b)

module _ (h : Header) (b : List ℕ) (t : ℕ) (sound : is_table b t ≡ true) where
  pub feature_from_field : (f : ℕ × Content) → IsAmong f (feature_fields h.geometry_type) → (q : ℕ) (r : Rule) → Breaks b (field_part t f) q r → Breaks b (feature_part h t) q r
  unfolding fields
  feature_from_field f among q r broken = from_field b (feature h.geometry_type (types h.columns)) t sound f among q r broken

  pub feature_from_properties : (q : ℕ) (r : Rule) → BreaksFeatureProperties (types h.columns) b t q r → Breaks b (feature_part h t) q r
  unfolding BreaksByTable
  feature_from_properties q r broken = from_table b (feature h.geometry_type (types h.columns)) t sound q r broken

  pub feature_clean : IsClean (Breaks b (geometry_field h.geometry_type t)) → IsClean (Breaks b (properties_field t)) → IsClean (Breaks b (columns_field t 2))
      → IsClean (BreaksFeatureProperties (types h.columns) b t) → IsClean (Breaks b (feature_part h t))
  unfolding fields BreaksByTable
  feature_clean of_geometry of_properties of_columns own = table_clean b (feature h.geometry_type (types h.columns)) t sound own (of_geometry & of_properties & of_columns & tt)

  pub feature_weighs : (g p c : ℕ) → Weighs b (geometry_field h.geometry_type t) g → Weighs b (properties_field t) p → Weighs b (columns_field t 2) c
      → Weighs b (feature_part h t) (4 + (g + (p + (c + 0))))
  unfolding fields
  feature_weighs g p c of_geometry of_properties of_columns = weigh_table b (feature h.geometry_type (types h.columns)) t (g + (p + (c + 0))) sound
      (together_more b (geometry_field h.geometry_type t) (properties_field t ∷ columns_field t 2 ∷ []) g (p + (c + 0)) of_geometry
      (together_more b (properties_field t) (columns_field t 2 ∷ []) p (c + 0) of_properties
      (together_more b (columns_field t 2) [] c 0 of_columns (together_none b))))

  pub feature_least : (g p c : ℕ) → IsLeast b (geometry_field h.geometry_type t) g → IsLeast b (properties_field t) p → IsLeast b (columns_field t 2) c
      → IsLeast b (feature_part h t) (4 + (g + (p + (c + 0))))
  unfolding fields
  feature_least g p c of_geometry of_properties of_columns = least_table b (feature h.geometry_type (types h.columns)) t (g + (p + (c + 0))) sound
      (least_more b (geometry_field h.geometry_type t) (properties_field t ∷ columns_field t 2 ∷ []) g (p + (c + 0)) of_geometry
      (least_more b (properties_field t) (columns_field t 2 ∷ []) p (c + 0) of_properties
      (least_more b (columns_field t 2) [] c 0 of_columns (least_none b []))))
