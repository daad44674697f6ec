-- The own box of a feature that breaks no rule is a box.
use Rattle.std.proofs.Common.{◌≡◌, inl, inr, ℕ, true, List, refl, sym, subst}
use Rattle.std.specs.Prelude.{option_map}
use Rattle.std.proofs.lemmas.Bool.{cases_Bool}
use Rattle.flat_layout.specs.Layout.{is_absent, is_table, led_to, target}
use Rattle.flat_layout.specs.Promises.{IsClean}
use Rattle.flat_layout.proofs.Numbers.{place_in-absent, place_in-present}
use Rattle.fgb_schema.specs.Tables.{feature, geometry, table, link, fields}
use Rattle.fgb_schema.specs.Headers.{Header, types}
use Rattle.fgb_schema.specs.Features.{box_of_shape, feature_at, feature_of, own_box}
use Rattle.fgb_schema.specs.Paths.{Breaks, feature_part, feature_root, geometry_field}
use Rattle.fgb_schema.specs.Shapes.{points, shape_at}
use Rattle.fgb_schema.specs.Weights.{BreaksBuffer}
use Rattle.packed_file.proofs.Numbers.{AreBytes}
use Rattle.packed_file.proofs.CleanParts.{root_sound, root_clean, clean_at, led_sound, led_clean}
use Rattle.packed_file.proofs.Points.{IsStoredBox, empty_stored, points_box}
use Rattle.packed_file.proofs.Geometries.{geometry_points}

module _ (header : Header) (b : List ℕ) (bytes : AreBytes b) where
  module _ (t : ℕ) (sound : is_table b t ≡ true) (clean : IsClean (Breaks b (feature_part header t))) where
    shape_clean : IsClean (Breaks b (geometry_field header.geometry_type t))
    unfolding fields
    shape_clean = clean_at b (feature header.geometry_type (types header.columns)) t sound clean 0 (0, link (table (geometry header.geometry_type 1))) refl

    feature_box : IsStoredBox (own_box (feature_at header b t))
    unfolding feature_at
    feature_box = elim (cases_Bool (is_absent b t 0)) [
      | inl absent ↦ subst (λ o. IsStoredBox (box_of_shape (option_map (shape_at 15 header.geometry_type b) o))) (sym (place_in-absent b t 0 absent)) empty_stored
      | inr present ↦ subst (λ o. IsStoredBox (box_of_shape (option_map (shape_at 15 header.geometry_type b) o))) (sym (place_in-present b t 0 present))
          (points_box (points (shape_at 15 header.geometry_type b (led_to b t 0)))
          (geometry_points b bytes 15 header.geometry_type 1 (led_to b t 0) (led_sound b t 0 (geometry header.geometry_type 1) shape_clean present) (led_clean b t 0 (geometry header.geometry_type 1) shape_clean present)))
    ]

  pub own_box_stored : IsClean (BreaksBuffer b (feature_root header)) → IsStoredBox (own_box (feature_of header b))
  own_box_stored clean =
      feature_box (target b 0) (root_sound b (feature header.geometry_type (types header.columns)) clean) (root_clean b (feature header.geometry_type (types header.columns)) clean)
