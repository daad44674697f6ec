use Rattle.std.proofs.Common.{ap, arith, length}
use Rattle.fgb_lay.proofs.Sizes.{left_long, left_none}
use Rattle.fgb_lay.proofs.planning.pieces_size.Goals as goal

pub loop-buffer-preserved : goal.loop-buffer-preserved
loop-buffer-preserved c =
    let long = left_long c.args.buffers.now c.loop-buffer.buffer-index c.buffer-item.result c.loop-buffer-test.true c.buffer-item.is in record {
      sum = omega (arith, long, c.loop-buffer.invariant.sum, c.loop-buffer.invariant.small);
      small = omega arith;
    }

pub returns : goal.returns
returns c =
    let none = ap length (left_none c.args.buffers.now c.loop-buffer.buffer-index c.loop-buffer-test.false) in
    omega (arith, none, c.loop-buffer.invariant.sum, c.loop-buffer.invariant.small)
