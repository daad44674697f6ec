-- From the bytes of a feature's properties, as they were judged, to the feature: what is broken, and what it shows.
use Rattle.std.proofs.Common.{◌≡◌, ◌∙◌, ℕ, ◌+◌, true, false, List, [], ◌∷◌, Option, Some, None, refl, ap, sym, subst, arith}
use Rattle.std.specs.Option.{option_map}
use Rattle.flat_layout.specs.declared.Broken.{Broken}
use Rattle.flat_layout.specs.Layout.{is_table, is_absent, led_to, elements, place_in}
use Rattle.flat_layout.specs.Promises.{IsClean, Names, BreaksVector, BreaksTo}
use Rattle.flat_layout.proofs.Judging.{vector-clean}
use Rattle.flat_views.specs.declared.vectors.VecView.{VecView}
use Rattle.flat_views.specs.Vectors.{ShowsVector, IsVectorAt}
use Rattle.fgb_schema.specs.Tables.{numbers}
use Rattle.fgb_schema.specs.Paths.{Breaks, BreaksFeatureProperties, properties_field, columns_field, is_listed}
use Rattle.fgb_schema.specs.Headers.{Column, Header, types, holding, columns_in}
use Rattle.fgb_schema.specs.Properties.{BreaksProperties, properties_in}
use Rattle.fgb_schema.specs.Features.{bytes_in, feature_at}
use Rattle.fgb_schema.specs.Shapes.{shape_at}
use Rattle.fgb_schema.proofs.FieldParts.{from_numbers}
use Rattle.fgb_schema.proofs.Links.{IsLink, linked, linked_own}
use Rattle.fgb_header.specs.declared.columns.Columns.{Columns}
use Rattle.fgb_header.specs.Views.{columns_shown}
use Rattle.fgb_header.proofs.ColumnTypes.{columns_typed}
use Rattle.geometry_view.specs.declared.geometry.GeometryView.{GeometryView}
use Rattle.geometry_view.specs.Views.{geometry_shown}
use Rattle.fgb_feature.specs.declared.props.Props.{Props}
use Rattle.fgb_feature.specs.Lists.{bytes_shown, first_place}
use Rattle.fgb_feature.specs.Views.{ShowsFeature}

types-holding : (own outer : List Column) → types (holding own outer) ≡ holding (types own) (types outer)
types-holding [] outer = refl
types-holding (first ∷ rest) outer = refl

module _ (b : List ℕ) (t : ℕ) where
  bytes-absent : is_absent b t 1 ≡ true → bytes_in b t 1 ≡ []
  bytes-absent absent = rw absent refl

  bytes-present : is_absent b t 1 ≡ false → bytes_in b t 1 ≡ elements 1 b (led_to b t 1)
  bytes-present present = rw present refl

  vector_elements : (base p : ℕ) (list : VecView) → IsVectorAt b base p 1 list → bytes_shown (Some list) ≡ elements 1 b p
  vector_elements base p list at = cc (at.same_width, at.same_bytes, at.same_place)

  vector_first : (base p : ℕ) (list : VecView) → IsVectorAt b base p 1 list → first_place (Some list) ≡ base + p + 4
  vector_first base p list at = cc (at.same_base, at.same_place)

  -- the bytes are those of the field
  pub list_bytes : (base : ℕ) (list : Option VecView) → ShowsVector 1 b base t 1 list → bytes_shown list ≡ bytes_in b t 1
  list_bytes base None absent = sym (bytes-absent absent)
  list_bytes base (Some list) shows = vector_elements base (led_to b t 1) list shows.1 ∙ sym (bytes-present shows.0)

  module _ (properties : IsClean (Breaks b (properties_field t))) (columns : IsClean (Breaks b (columns_field t 2))) where
    to_clean : IsClean (BreaksTo (BreaksVector 1) b t 1)
    to_clean q r broken = properties q r (from_numbers b t 1 1 q r broken)

    led_listed : IsLink b t 1 → is_listed 1 b t 1 ≡ true
    led_listed l =
        let room = vector-clean 1 b (led_to b t 1) (linked_own b (numbers 1) (BreaksVector 1) t 1 to_clean l) in
        rw (l.present, l.field, l.offset) room

    listed : is_absent b t 1 ≡ false → is_listed 1 b t 1 ≡ true
    listed present = led_listed (linked b (numbers 1) (BreaksVector 1) t 1 to_clean present)

    module _ (outer own : List Column) (same : own ≡ columns_in b t 2) where
      same_types : types (holding own outer) ≡ holding (types (columns_in b t 2)) (types outer)
      same_types = types-holding own outer ∙ ap (λ k. holding (types k) (types outer)) same

      module _ (base : ℕ) (list : Option VecView) (shows : ShowsVector 1 b base t 1 list) where
        pub pairs_clean : IsClean (BreaksProperties (types (holding own outer)) (bytes_shown list)) → IsClean (BreaksFeatureProperties (types outer) b t)
        pairs_clean clean q r broken = clean broken.at r
            (subst (λ kinds. BreaksProperties kinds (bytes_shown list) broken.at r) (sym same_types)
            (subst (λ s. BreaksProperties (holding (types (columns_in b t 2)) (types outer)) s broken.at r) (sym (list_bytes base list shows ∙ bytes-present broken.present)) broken.broken))

      pub pairs_named : is_table b t ≡ true → (base : ℕ) (list : Option VecView) → ShowsVector 1 b base t 1 list → (e : Broken) → Names (first_place list) (BreaksProperties (types (holding own outer)) (bytes_shown list)) e
          → Names base (BreaksFeatureProperties (types outer) b t) e
      pairs_named sound base None absent e named = let early = named.2.early in absurd (omega arith)
      pairs_named sound base (Some list) shows e named = (
        led_to b t 1 + 4 + named.0,
        let first = vector_first base (led_to b t 1) list shows.1 in let place = named.1 in omega arith,
        record {
          sound = sound;
          present = shows.0;
          listed = listed shows.0;
          typed = columns_typed b t 2 columns;
          at = named.0;
          broken = subst (λ kinds. BreaksProperties kinds (elements 1 b (led_to b t 1)) named.0 e.rule) same_types
              (subst (λ s. BreaksProperties (types (holding own outer)) s named.0 e.rule) (vector_elements base (led_to b t 1) list shows.1) named.2);
          place = refl;
        },
      )

-- a feature is what its parts show
module _ (h : Header) (b : List ℕ) (t : ℕ) where
  same_properties : (held : List Column) (bytes : List ℕ) → held ≡ holding (columns_in b t 2) h.columns → bytes ≡ bytes_in b t 1
      → properties_in (types held) bytes ≡ properties_in (holding (types (columns_in b t 2)) (types h.columns)) (bytes_in b t 1)
  same_properties held bytes same_held same_bytes =
      ap (λ s. properties_in (types held) s) same_bytes
      ∙ ap (λ k. properties_in k (bytes_in b t 1)) (ap types same_held ∙ types-holding (columns_in b t 2) h.columns)

  pub feature_is : (shape : Option GeometryView) (props : Props) (own : Columns)
      → option_map geometry_shown shape ≡ option_map (shape_at 15 h.geometry_type b) (place_in b t 0)
      → props.bytes.now ≡ bytes_in b t 1 → columns_shown props.columns ≡ holding (columns_in b t 2) h.columns → columns_shown own ≡ columns_in b t 2
      → ShowsFeature h b t (record { geometry = shape; properties = props; columns = own })
  unfolding feature_at
  feature_is shape props own same_shape same_bytes same_held same_own = record {
    record_of = rw (same_shape, same_properties (columns_shown props.columns) props.bytes.now same_held same_bytes, same_own) refl;
    held = same_held;
  }
