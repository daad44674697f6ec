use Rattle.std.proofs.Common.{refl, arith}
use Rattle.flat_layout.specs.Layout.{number_at}
use Rattle.fgb_reader.proofs.Framing.{size_read, breaks_short, breaks_past, breaks_size, is_framed}
use Rattle.fgb_reader.proofs.pieces.framed_size.Goals as goal

pub returns-then-left-clause-judged : goal.returns-then-left-clause-judged
returns-then-left-clause-judged c = λ image whole read. (refl, breaks_short image c.args.at c.args.left whole c.if-left.true)

pub returns-then-size-left-clause-judged : goal.returns-then-size-left-clause-judged
unfolding number_at
returns-then-size-left-clause-judged c = λ image whole read.
    let size = size_read image c.args.front.now c.args.at c.read_u32-size.result (omega arith) (read (omega arith)) c.read_u32-size.ensures in
    (refl, breaks_past image c.args.at c.args.left whole _ size c.if-size-left.true)

pub returns-then-size-gt-MAX_FEATURE-clause-judged : goal.returns-then-size-gt-MAX_FEATURE-clause-judged
unfolding number_at
returns-then-size-gt-MAX_FEATURE-clause-judged c = λ image whole read.
    let size = size_read image c.args.front.now c.args.at c.read_u32-size.result (omega arith) (read (omega arith)) c.read_u32-size.ensures in
    (refl, breaks_size image c.args.at c.args.left whole _ size c.if-size-left.false c.if-size-gt-MAX_FEATURE.true)

pub returns-clause-judged : goal.returns-clause-judged
unfolding number_at
returns-clause-judged c = λ image whole read.
    let size = size_read image c.args.front.now c.args.at c.read_u32-size.result (omega arith) (read (omega arith)) c.read_u32-size.ensures in
    is_framed image c.args.at c.args.left whole _ size c.if-size-left.false c.if-size-gt-MAX_FEATURE.false
