-- The buffer of a feature that was laid, from what a reader finds in it and what reading it weighs.
use Rattle.std.proofs.Common.{◌≡◌, ℕ, ◌*◌, ◌^◌, ◌<◌, ◌≤◌, true, List, length, arith}
use Rattle.flat_layout.specs.Layout.{is_offset, target}
use Rattle.flat_layout.specs.Promises.{IsClean}
use Rattle.fgb_schema.specs.Headers.{Header, types}
use Rattle.fgb_schema.specs.Features.{Feature, feature_of}
use Rattle.fgb_schema.specs.Tables.{feature, table as table_thing}
use Rattle.fgb_schema.specs.Paths.{feature_root}
use Rattle.fgb_schema.specs.Weights.{BreaksBuffer, along, too_heavy}
use Rattle.fgb_schema.proofs.Roots.{offset_clean}
use Rattle.fgb_schema.proofs.Weighing.{weigh_offset, not_heavier}
use Rattle.flat_builder.specs.Trees.{table}
use Rattle.flat_laid.specs.Trees.{item_weight}
use Rattle.flat_laid.specs.Lies.{Lies}
use Rattle.feature_tables.specs.Laying.{feature_table, properties_bytes}
use Rattle.feature_tables.specs.Records.{IsRecord, Fits}
use Rattle.feature_tables.proofs.FeatureTables.{feature_shown, feature_unbroken, properties_room}

module _ (b : List ℕ) (h : Header) (f : Feature) (is : IsRecord f) (fits : Fits h f) (root : is_offset b 0 ≡ true) (tree : Lies b (table (feature_table f)) (target b 0))
    (light : item_weight (table (feature_table f)) ≤ length b) (small : length b < 2 ^ 31) where
  room : length (properties_bytes f.properties) < 2 ^ 32
  room = properties_room f (2 ^ 32) (omega (arith, light, small))

  pub buffer_shown : feature_of h b ≡ f
  buffer_shown = feature_shown h f b (target b 0) is fits room tree

  pub buffer_clean : IsClean (BreaksBuffer b (feature_root h))
  buffer_clean q r (along broken) =
      offset_clean b (table_thing (feature h.geometry_type (types h.columns))) 0 root (feature_unbroken h f b (target b 0) is fits room tree).clean q r broken
  buffer_clean q r (too_heavy heavy) =
      not_heavier b (feature_root h) (item_weight (table (feature_table f))) (4 * length b)
      (weigh_offset b (table_thing (feature h.geometry_type (types h.columns))) 0 (item_weight (table (feature_table f))) root (feature_unbroken h f b (target b 0) is fits room tree).weighs)
      (omega (arith, light)) heavy
