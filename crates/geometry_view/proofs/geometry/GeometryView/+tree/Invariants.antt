use Rattle.std.proofs.Common.{◌≡◌, ◌+◌, ◌*◌, ◌-◌}
use Rattle.flat_layout.specs.Layout.{count}
use Rattle.flat_views.specs.Meters.{left_of, meter_place}
use Rattle.flat_views.specs.TableVecs.{tables_bytes, tables_place}
use Rattle.fgb_schema.specs.Tables.{geometry as geometry_name, part_type}
use Rattle.fgb_schema.proofs.TablesRead.{AreRead}
use Rattle.geometry_view.specs.Kinds.{number_of}
use Rattle.geometry_view.proofs.geometry.GeometryView.+tree.Given as goal

-- the parts stand one deeper, and none deeper than 17 is gone into
abbrev pub decreases-read : goal.decreases-read
decreases-read l = 5 * (17 - l.depth) + 3

abbrev pub decreases-read_tree : goal.decreases-read_tree
decreases-read_tree l = 5 * (17 - l.depth) + 2

abbrev pub decreases-read_part : goal.decreases-read_part
decreases-read_part l = 5 * (17 - l.depth)

abbrev pub decreases-read_parts : goal.decreases-read_parts
decreases-read_parts l = 5 * (17 - l.depth) + 1

abbrev pub decreases-read_under : goal.decreases-read_under
decreases-read_under l = 5 * (17 - l.depth) + 4

abbrev pub invariant-read_parts-loop-i : goal.invariant-read_parts-loop-i
invariant-read_parts-loop-i l =
    let b = tables_bytes l.parts in let v = tables_place l.parts in
    AreRead b (geometry_name (part_type (number_of l.kind)) (l.depth + 1)) v (4 * count b v + left_of l.fn.meter) (left_of l.meter) l.i × (meter_place l.meter ≡ meter_place l.fn.meter)
