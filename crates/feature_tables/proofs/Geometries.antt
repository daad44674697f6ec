-- The field of a feature that leads to its geometry, if it has one.
use Rattle.std.proofs.Common.{◌≡◌, ℕ, List, Option, Some, None, refl, ap, ◌∙◌}
use Rattle.std.specs.Option.{ForSome, option_map}
use Rattle.std.proofs.lemmas.Bool.{both_ways}
use Rattle.flat_layout.specs.Layout.{is_absent, led_to, place_in}
use Rattle.flat_layout.specs.Promises.{BreaksTable}
use Rattle.flat_layout.proofs.Judging.{clean-table, clean-to_absent}
use Rattle.flat_layout.proofs.Numbers.{place_in-absent, place_in-present}
use Rattle.fgb_schema.specs.Tables.{geometry, table as table_thing}
use Rattle.fgb_schema.specs.Paths.{geometry_field}
use Rattle.fgb_schema.specs.Shapes.{Shape, shape_at}
use Rattle.fgb_schema.proofs.FieldParts.{to_table_clean}
use Rattle.fgb_schema.proofs.Weighing.{weigh_absent, weigh_link}
use Rattle.flat_builder.specs.Trees.{Item, table}
use Rattle.flat_laid.specs.Trees.{item_weight}
use Rattle.shape_tables.specs.Laying.{shape_table}
use Rattle.shape_tables.specs.Records.{IsRecord as IsShape, Suits}
use Rattle.shape_tables.proofs.Held.{IsHeld}
use Rattle.shape_tables.proofs.Unbroken.{IsUnbroken, held_weight}
use Rattle.shape_tables.proofs.Buffers.{geometry_clean, geometry_weighs, geometry_shown}
use Rattle.feature_tables.proofs.Links.{link_of, link_unbroken}

abbrev pub shape_item : Option Shape → Option Item
shape_item o = option_map (λ s. table (shape_table s)) o

module _ (b : List ℕ) (t outer : ℕ) where
  pub shape_shown : (o : Option Shape) → ForSome o IsShape → ForSome o (Suits outer) → IsHeld b t 0 (shape_item o) → option_map (shape_at 15 outer b) (place_in b t 0) ≡ o
  shape_shown None is suits held = ap (option_map (shape_at 15 outer b)) (place_in-absent b t 0 held)
  shape_shown (Some s) is suits held =
      ap (option_map (shape_at 15 outer b)) (place_in-present b t 0 held.present)
      ∙ ap (λ x. Some x) (geometry_shown s outer b (led_to b t 0) (is s refl) (suits s refl) held.item)

  pub shape_unbroken : (o : Option Shape) → ForSome o IsShape → ForSome o (Suits outer) → IsHeld b t 0 (shape_item o) → IsUnbroken b (geometry_field outer t) (held_weight (shape_item o))
  shape_unbroken None is suits held = record {
    clean = to_table_clean b t 0 (geometry outer 1) (clean-to_absent BreaksTable b t 0 held) (λ l. absurd (both_ways (is_absent b t 0) l.present held));
    weighs = weigh_absent b (table_thing (geometry outer 1)) t 0 held;
  }
  shape_unbroken (Some s) is suits held =
      let l = link_of b t 0 (table (shape_table s)) tt held in
      record {
        clean = to_table_clean b t 0 (geometry outer 1) (link_unbroken b t 0 BreaksTable l (clean-table b (led_to b t 0) held.item.inside))
            (λ l. geometry_clean s outer b (led_to b t 0) (is s refl) (suits s refl) held.item);
        weighs = weigh_link b (table_thing (geometry outer 1)) t 0 (item_weight (table (shape_table s))) l (geometry_weighs s outer b (led_to b t 0) (is s refl) (suits s refl) held.item);
      }
