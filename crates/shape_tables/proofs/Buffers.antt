-- The geometry of a shape that was laid, at its place in a buffer, and where it is the buffer's root.
use Rattle.std.proofs.Common.{◌≡◌, ℕ, ◌*◌, ◌≤◌, true, List, length, arith}
use Rattle.flat_layout.specs.Layout.{is_offset, target}
use Rattle.flat_layout.specs.Promises.{IsClean}
use Rattle.fgb_schema.specs.Tables.{geometry, table as table_thing}
use Rattle.fgb_schema.specs.Paths.{Breaks, offset, geometry_part}
use Rattle.fgb_schema.specs.Shapes.{Shape, shape_at}
use Rattle.fgb_schema.specs.Weights.{BreaksBuffer, along, too_heavy, Weighs}
use Rattle.fgb_schema.proofs.Roots.{offset_clean}
use Rattle.fgb_schema.proofs.Weighing.{weigh_offset, not_heavier}
use Rattle.flat_builder.specs.Trees.{table}
use Rattle.flat_laid.specs.Trees.{item_weight}
use Rattle.flat_laid.specs.Lies.{Lies}
use Rattle.shape_tables.specs.Laying.{shape_table}
use Rattle.shape_tables.specs.Records.{IsRecord, Suits}
use Rattle.shape_tables.proofs.Unbroken.{IsUnbroken}
use Rattle.shape_tables.proofs.Shapes.{shape_unbroken, shape_shown}

module _ (s : Shape) (outer : ℕ) (b : List ℕ) (t : ℕ) (is : IsRecord s) (suits : Suits outer s) (lies : Lies b (table (shape_table s)) t) where
  whole : IsUnbroken b (geometry_part outer 1 t) (item_weight (table (shape_table s)))
  whole = shape_unbroken s b t outer 1 is.sound suits (omega (arith, is.shallow)) lies

  pub geometry_clean : IsClean (Breaks b (geometry_part outer 1 t))
  geometry_clean = whole.clean

  pub geometry_weighs : Weighs b (geometry_part outer 1 t) (item_weight (table (shape_table s)))
  geometry_weighs = whole.weighs

  pub geometry_shown : shape_at 15 outer b t ≡ s
  geometry_shown = shape_shown s b t outer 15 is.sound suits is.shallow lies

pub buffer_clean : (s : Shape) (outer : ℕ) (b : List ℕ) → IsRecord s → Suits outer s → is_offset b 0 ≡ true → Lies b (table (shape_table s)) (target b 0) → item_weight (table (shape_table s)) ≤ length b
    → IsClean (BreaksBuffer b (offset (table_thing (geometry outer 1)) 0))
buffer_clean s outer b is suits root lies light q r (along broken) = offset_clean b (table_thing (geometry outer 1)) 0 root (geometry_clean s outer b (target b 0) is suits lies) q r broken
buffer_clean s outer b is suits root lies light q r (too_heavy heavy) =
    not_heavier b (offset (table_thing (geometry outer 1)) 0) (item_weight (table (shape_table s))) (4 * length b)
    (weigh_offset b (table_thing (geometry outer 1)) 0 (item_weight (table (shape_table s))) root (geometry_weighs s outer b (target b 0) is suits lies)) (omega (arith, light)) heavy
