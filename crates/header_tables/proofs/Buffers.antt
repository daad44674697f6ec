-- The buffer of a header that was laid, from what a reader finds in it and what reading it weighs.
use Rattle.std.proofs.Common.{◌≡◌, ℕ, ◌*◌, ◌≤◌, true, List, length, arith}
use Rattle.flat_layout.specs.Layout.{is_offset, target}
use Rattle.flat_layout.specs.Promises.{IsClean}
use Rattle.fgb_schema.specs.Headers.{Header, header_of}
use Rattle.fgb_schema.specs.Tables.{header, table as table_thing}
use Rattle.fgb_schema.specs.Paths.{header_root}
use Rattle.fgb_schema.specs.Weights.{BreaksBuffer, along, too_heavy}
use Rattle.fgb_schema.proofs.Roots.{offset_clean}
use Rattle.fgb_schema.proofs.Weighing.{weigh_offset, not_heavier}
use Rattle.flat_builder.specs.Trees.{table}
use Rattle.flat_laid.specs.Trees.{item_weight}
use Rattle.flat_laid.specs.Lies.{Lies}
use Rattle.header_tables.specs.Laying.{header_table}
use Rattle.header_tables.specs.Records.{IsRecord}
use Rattle.header_tables.proofs.HeaderTables.{header_shown, header_sound}

module _ (b : List ℕ) (h : Header) (is : IsRecord h) (root : is_offset b 0 ≡ true) (tree : Lies b (table (header_table h)) (target b 0)) where
  pub buffer_shown : header_of b ≡ h
  buffer_shown = header_shown b (target b 0) h is tree

  pub buffer_clean : item_weight (table (header_table h)) ≤ length b → IsClean (BreaksBuffer b header_root)
  buffer_clean light q r (along broken) = offset_clean b (table_thing header) 0 root (header_sound b (target b 0) h is tree).clean q r broken
  buffer_clean light q r (too_heavy heavy) =
      not_heavier b header_root (item_weight (table (header_table h))) (4 * length b)
      (weigh_offset b (table_thing header) 0 (item_weight (table (header_table h))) root (header_sound b (target b 0) h is tree).weighs) (omega (arith, light)) heavy
