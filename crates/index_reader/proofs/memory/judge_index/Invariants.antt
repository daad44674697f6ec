use Rattle.level_bounds.specs.Shapes.{shape_of}
use Rattle.node_items.specs.Nodes.{stored}
use Rattle.index_reader.specs.Parts.{IsSound}
use Rattle.index_reader.proofs.memory.judge_index.Given as goal

abbrev pub invariant-loop-parent : goal.invariant-loop-parent
invariant-loop-parent l = IsSound (shape_of l.levels) (stored l.file l.place) l.place l.parent
