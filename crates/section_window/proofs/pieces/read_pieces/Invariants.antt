use Rattle.std.proofs.Common.{◌-◌}
use Rattle.section_window.specs.Pieces.{ReadTo}
use Rattle.section_window.proofs.pieces.read_pieces.Given as goal

-- what was read so far
abbrev pub invariant-loop-till : goal.invariant-loop-till
invariant-loop-till g l = ReadTo (g.S.RangeSource.seen l.fn.source) (g.S.RangeSource.seen l.source) l.fn.buffer l.buffer l.held l.till l.at l.end

abbrev pub decreases-loop-till : goal.decreases-loop-till
decreases-loop-till g l = l.want - l.till
