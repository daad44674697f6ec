use Rattle.std.proofs.Common.{◌-◌}
use Rattle.level_bounds.specs.Shapes.{shape_of}
use Rattle.fgb_reader.specs.Reading.{next_of}
use Rattle.fgb_check.specs.Walks.{GoesBeside}
use Rattle.fgb_check.proofs.source.count_indexed.Given as goal

abbrev pub invariant-loop-pieces : goal.invariant-loop-pieces
invariant-loop-pieces g l = GoesBeside l.place l.end (shape_of l.levels) l.pieces l.leaves l.tally (g.S.RangeSource.seen l.fn.source) (g.S.RangeSource.seen l.source)

abbrev pub decreases-loop-pieces : goal.decreases-loop-pieces
decreases-loop-pieces g l = l.end - next_of l.pieces
