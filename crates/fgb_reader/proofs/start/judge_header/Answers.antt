use Rattle.fgb_header.specs.Views.{header_shown}
use Rattle.fgb_reader.proofs.Starting.{header_judged}
use Rattle.fgb_reader.proofs.start.judge_header.Goals as goal

pub returns : goal.returns
returns c = record { judged = λ image start held. header_judged header_shown image c.args.buffer.now c.read.result start held c.read.ensures.judged }
