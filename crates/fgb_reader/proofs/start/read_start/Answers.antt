use Rattle.std.proofs.Common.{arith}
use Rattle.fgb_outside.proofs.Asking.{reads_front}
use Rattle.read_stop.proofs.Stopping.{refused_exit, on_err}
use Rattle.fgb_reader.proofs.Starting.{as_front, start_reads}
use Rattle.fgb_reader.proofs.start.read_start.Goals as goal

pub returns-in_err-len-clause-refused : goal.returns-in_err-len-clause-refused
returns-in_err-len-clause-refused g c = refused_exit c.from_residual-in_err-len.result c.in_err-len.field-0.0 _ c.from_residual-in_err-len.ensures.1 (λ image told.
    c.in_err-len.ensures.judged image (c.requires.image image told) (as_front image c.read_all.new.into (omega arith) (c.in_ok-read_all.ensures.bytes image told)))

pub returns-in_err-len-clause-front : goal.returns-in_err-len-clause-front
returns-in_err-len-clause-front g c = let sized = c.in_ok-judge_size.ensures.sized in
    on_err _ _ (reads_front _ (start_reads c.args.size _ sized.1 sized.0 c.in_ok-read_all.ensures.reads))

pub returns-clause-start : goal.returns-clause-start
returns-clause-start g c = λ image told.
    c.in_ok-len.ensures.judged image (c.requires.image image told) (as_front image c.read_all.new.into (omega arith) (c.in_ok-read_all.ensures.bytes image told))

pub returns-clause-reads : goal.returns-clause-reads
returns-clause-reads g c = let sized = c.in_ok-judge_size.ensures.sized in start_reads c.args.size _ sized.1 sized.0 c.in_ok-read_all.ensures.reads
