use Rattle.block_source.proofs.Reading.{ReadTo}
use Rattle.block_source.proofs.blocks.Blocks.read.Given as goal

-- the blocks in front of this one were visited
abbrev pub invariant-loop-block : goal.invariant-loop-block
invariant-loop-block g l = ReadTo (g.S.RangeSource.seen l.fn.inner) (g.S.RangeSource.seen l.inner) l.fn.self.kept l.self.kept l.at l.end l.into l.block
