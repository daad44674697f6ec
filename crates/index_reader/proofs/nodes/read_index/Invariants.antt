use Rattle.std.proofs.Common.{◌+◌, ◌*◌}
use Rattle.fgb_outside.specs.Source.{IfTold}
use Rattle.fgb_outside.specs.Asked.{IsInside}
use Rattle.section_window.specs.Window.{Shows}
use Rattle.level_bounds.specs.Levels.{node_count}
use Rattle.level_bounds.specs.Shapes.{shape_of}
use Rattle.node_items.specs.Nodes.{stored}
use Rattle.read_stop.specs.Asks.{AsksOnly}
use Rattle.index_reader.specs.Parts.{IsSound}
use Rattle.index_reader.specs.Windows.{StandAt}
use Rattle.index_reader.proofs.nodes.read_index.Given as goal

abbrev pub invariant-loop-number : goal.invariant-loop-number
invariant-loop-number g l = record {
  shows : Shows l.parents (g.S.RangeSource.seen l.source) × Shows l.nodes (g.S.RangeSource.seen l.source);
  stand : StandAt (shape_of l.levels) l.place l.number l.parents l.nodes;
  sound : IfTold (g.S.RangeSource.seen l.fn.source) (λ image. IsSound (shape_of l.levels) (stored image l.place) l.place l.number);
  asked : AsksOnly (IsInside l.place (l.place + 40 * node_count (shape_of l.levels))) (g.S.RangeSource.seen l.fn.source) (g.S.RangeSource.seen l.source);
}
