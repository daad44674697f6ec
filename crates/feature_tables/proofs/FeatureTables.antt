-- A feature that was laid: it is shown under a header that it fits, and breaks nothing.
use Rattle.std.proofs.Common.{◌≡◌, ℕ, ◌+◌, ◌^◌, ◌<◌, ◌≤◌, false, List, [], ◌∷◌, length, refl, ap, ap₂, sym, subst, ◌∙◌, arith}
use Rattle.std.specs.Option.{option_map}
use Rattle.flat_layout.specs.Layout.{is_absent, led_to, elements, place_in}
use Rattle.flat_layout.specs.Promises.{IsClean}
use Rattle.fgb_schema.specs.Headers.{Header, Column, types, holding, columns_in}
use Rattle.fgb_schema.specs.Properties.{Property, BreaksProperties, properties_in}
use Rattle.fgb_schema.specs.Features.{Feature, columns_holding, bytes_in, feature_at}
use Rattle.fgb_schema.specs.Paths.{BreaksByTable, BreaksFeatureProperties, feature_part}
use Rattle.fgb_schema.specs.Shapes.{shape_at}
use Rattle.fgb_schema.specs.Tables.{feature, fields}
use Rattle.fgb_schema.specs.Weights.{total}
use Rattle.flat_laid.specs.Trees.{fields_weight}
use Rattle.flat_laid.specs.Lies.{IsTable, HasFields}
use Rattle.shape_tables.specs.Laying.{numbers_item}
use Rattle.shape_tables.proofs.Held.{IsHeld, HeldAt, field_of}
use Rattle.shape_tables.proofs.Unbroken.{IsUnbroken, ◌◁◌, unbroken_none, table_unbroken, weight_of, held_weight}
use Rattle.shape_tables.proofs.Vectors.{numbers_unbroken}
use Rattle.feature_tables.specs.Laying.{properties_bytes, feature_items, feature_table}
use Rattle.feature_tables.specs.Records.{IsRecord, Fits}
use Rattle.feature_tables.proofs.Pairs.{properties_read, properties_clean}
use Rattle.feature_tables.proofs.Geometries.{shape_shown, shape_unbroken}
use Rattle.feature_tables.proofs.ColumnLists.{columns_field_shown, columns_field_unbroken}

pub types-holding : (own outer : List Column) → types (holding own outer) ≡ holding (types own) (types outer)
types-holding [] outer = refl
types-holding (first ∷ rest) outer = refl

-- the bytes of a vector in field 1
bytes_shown : (b : List ℕ) (t : ℕ) (xs : List ℕ) → IsHeld b t 1 (numbers_item 1 xs) → bytes_in b t 1 ≡ xs
bytes_shown b t [] held = rw held refl
bytes_shown b t (x ∷ xs) held = rw held.present (held.item.bytes refl)

bytes_there : (b : List ℕ) (t : ℕ) → is_absent b t 1 ≡ false → elements 1 b (led_to b t 1) ≡ bytes_in b t 1
bytes_there b t present = rw present refl

-- the bytes of the properties are a part of what the table weighs
bytes_weight : (xs : List ℕ) → length xs ≤ held_weight (numbers_item 1 xs)
bytes_weight [] = omega arith
bytes_weight (x ∷ xs) = omega arith

weight_of_fields : (f : Feature) → fields_weight (feature_table f) ≡ total held_weight (feature_items f)
unfolding feature_table
weight_of_fields f = weight_of (feature_items f)

pub properties_room : (f : Feature) (most : ℕ) → fields_weight (feature_table f) < most → length (properties_bytes f.properties) < most
properties_room f most room = omega (arith, room, weight_of_fields f, bytes_weight (properties_bytes f.properties))

same_feature : (f : Feature) (shape : _) (properties : List Property) (columns : List Column) → shape ≡ f.shape → properties ≡ f.properties → columns ≡ f.columns
    → (let made : Feature = record { shape = shape; properties = properties; columns = columns } in made) ≡ f
same_feature f shape properties columns same_shape same_properties same_columns = rw (same_shape, same_properties, same_columns) refl

module _ (h : Header) (f : Feature) (b : List ℕ) (t : ℕ) (is : IsRecord f) (fits : Fits h f) (room : length (properties_bytes f.properties) < 2 ^ 32) (has : IsTable b (feature_table f) t (HasFields b (feature_table f) t)) where
  at : (i : ℕ) → HeldAt b t 0 (feature_items f) i
  unfolding feature_table
  at i = field_of b t (feature_items f) has i

  columns_are : columns_in b t 2 ≡ f.columns
  columns_are = columns_field_shown b t 2 f.columns is.columns is.few (at 2)

  kinds_are : holding (types (columns_in b t 2)) (types h.columns) ≡ types (columns_holding h f)
  kinds_are = ap (λ columns. holding (types columns) (types h.columns)) columns_are ∙ sym (types-holding f.columns h.columns)

  bytes_are : bytes_in b t 1 ≡ properties_bytes f.properties
  bytes_are = bytes_shown b t (properties_bytes f.properties) (at 1)

  properties_are : properties_in (holding (types (columns_in b t 2)) (types h.columns)) (bytes_in b t 1) ≡ f.properties
  properties_are = ap₂ properties_in kinds_are bytes_are ∙ properties_read (types (columns_holding h f)) f.properties room is.properties fits.properties

  pub feature_shown : feature_at h b t ≡ f
  unfolding feature_at
  feature_shown = same_feature f (option_map (shape_at 15 h.geometry_type b) (place_in b t 0)) (properties_in (holding (types (columns_in b t 2)) (types h.columns)) (bytes_in b t 1)) (columns_in b t 2)
      (shape_shown b t h.geometry_type f.shape is.shape fits.shape (at 0)) properties_are columns_are

  properties_kept : IsClean (BreaksFeatureProperties (types h.columns) b t)
  properties_kept q r broken =
      properties_clean (types (columns_holding h f)) f.properties room is.properties fits.properties broken.at r
      (subst (λ kinds. BreaksProperties kinds (properties_bytes f.properties) broken.at r) kinds_are
      (subst (λ bytes. BreaksProperties (holding (types (columns_in b t 2)) (types h.columns)) bytes broken.at r) (bytes_there b t broken.present ∙ bytes_are) broken.broken))

  own : IsClean (BreaksByTable (feature h.geometry_type (types h.columns)) b t)
  unfolding BreaksByTable
  own q r broken = properties_kept q r broken

  pub feature_unbroken : IsUnbroken b (feature_part h t) (4 + fields_weight (feature_table f))
  unfolding fields
  feature_unbroken = subst (λ w. IsUnbroken b (feature_part h t) (4 + w)) (sym (weight_of_fields f)) (table_unbroken b t (feature h.geometry_type (types h.columns)) (total held_weight (feature_items f)) has.inside own (
      shape_unbroken b t h.geometry_type f.shape is.shape fits.shape (at 0)
      ◁ numbers_unbroken b t 1 1 (properties_bytes f.properties) (at 1)
      ◁ columns_field_unbroken b t 2 f.columns is.columns is.few (at 2)
      ◁ unbroken_none b))
