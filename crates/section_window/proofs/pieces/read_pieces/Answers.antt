use Rattle.std.proofs.Common.{◌+◌, ap, arith}
use Rattle.std.proofs.lemmas.Result.{err_from_is_err_and}
use Rattle.section_window.proofs.Reading.{read_more, read_failed}
use Rattle.section_window.proofs.pieces.read_pieces.Goals as goal

pub returns-in_err-read_part-clause-failing : goal.returns-in_err-read_part-clause-failing
returns-in_err-read_part-clause-failing g c =
    let p = err_from_is_err_and c.from_residual.result c.from_residual.ensures.1 in
    rw (p.1) (read_failed _ _ _ c.args.buffer.now c.loop-till.buffer c.read_part.new.buffer c.args.held c.loop-till.till (c.loop-till.till + c.min.result) c.args.at c.args.end c.loop-till.invariant (ap (λ k. c.loop-till.till + k) c.min.ensures) (omega arith) (omega arith) c.read_part.ensures.reads)

pub loop-till-preserved : goal.loop-till-preserved
loop-till-preserved g c =
    read_more _ _ _ c.args.buffer.now c.loop-till.buffer c.read_part.new.buffer c.args.held c.loop-till.till (c.loop-till.till + c.min.result) c.args.at c.args.end c.loop-till.invariant (ap (λ k. c.loop-till.till + k) c.min.ensures) (omega arith) (omega arith) c.read_part.ensures.front c.in_ok-read_part.ensures.reads
