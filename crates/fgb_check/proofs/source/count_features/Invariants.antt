use Rattle.std.proofs.Common.{◌-◌}
use Rattle.fgb_reader.specs.Reading.{next_of}
use Rattle.fgb_check.specs.Walks.{Goes}
use Rattle.fgb_check.proofs.source.count_features.Given as goal

abbrev pub invariant-loop-pieces : goal.invariant-loop-pieces
invariant-loop-pieces g l = Goes l.initial.pieces l.pieces l.tally (g.S.RangeSource.seen l.initial.source) (g.S.RangeSource.seen l.source)

abbrev pub decreases-loop-pieces : goal.decreases-loop-pieces
decreases-loop-pieces g l = l.end - next_of l.pieces
