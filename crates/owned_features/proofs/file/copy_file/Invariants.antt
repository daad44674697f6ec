use Rattle.std.proofs.Common.{◌-◌}
use Rattle.fgb_header.specs.Views.{header_shown}
use Rattle.fgb_reader.specs.Reading.{next_of}
use Rattle.owned_features.specs.Walks.{Goes}
use Rattle.owned_features.proofs.file.copy_file.Given as goal

abbrev pub invariant-loop-pieces : goal.invariant-loop-pieces
invariant-loop-pieces g l = Goes (header_shown l.header) l.first l.end l.initial.pieces l.pieces l.file (g.S.RangeSource.seen l.initial.source) (g.S.RangeSource.seen l.source)

abbrev pub decreases-loop-pieces : goal.decreases-loop-pieces
decreases-loop-pieces g l = l.end - next_of l.pieces
