-- What a feature's buffer shows under a header, and its own box (FlatGeobuf, feature.fbs).
use Rattle.std.specs.Prelude.{ℕ, List, [], Option, None, Some, if◌then◌else◌}
use Rattle.std.specs.Option.{option_map}
use Rattle.flat_layout.specs.Layout.{target, place_in, is_absent, led_to, elements}
use Rattle.order_keys.specs.declared.bounds.Bounds.{Bounds}
use Rattle.order_keys.specs.Boxes.{empty}
use Rattle.fgb_schema.specs.Headers.{Header, Column, columns_in, types, holding}
use Rattle.fgb_schema.specs.Properties.{Property, properties_in}
use Rattle.fgb_schema.specs.Shapes.{Shape, shape_at, points, box_of_points}

-- a feature: its shape, if it has one, a tree of at most 16 levels; its properties in order; and its own columns
pub record Feature : Type 0 where
  pub shape : Option Shape
  pub properties : List Property
  pub columns : List Column

-- the columns that hold for the properties of a feature under a header
abbrev pub columns_holding : Header → Feature → List Column
columns_holding h f = holding f.columns h.columns

-- the bytes of the vector in field f, none where it is absent
abbrev pub bytes_in : List ℕ → ℕ → ℕ → List ℕ
bytes_in b t f = if is_absent b t f then [] else elements 1 b (led_to b t f)

-- the feature at t
unfoldable pub feature_at : Header → List ℕ → ℕ → Feature
feature_at h b t = record {
  shape = option_map (shape_at 15 h.geometry_type b) (place_in b t 0);
  properties = properties_in (holding (types (columns_in b t 2)) (types h.columns)) (bytes_in b t 1);
  columns = columns_in b t 2;
}

-- the one that a feature's buffer shows
abbrev pub feature_of : Header → List ℕ → Feature
feature_of h b = feature_at h b (target b 0)

-- the own box of a shape, if there is one: that of all its points, or else the empty box
abbrev pub box_of_shape : Option Shape → Bounds
box_of_shape None = empty
box_of_shape (Some seen) = box_of_points (points seen)

-- the own box of a feature
abbrev pub own_box : Feature → Bounds
own_box f = box_of_shape f.shape
