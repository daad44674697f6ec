use Rattle.fgb_header.specs.Views.{header_shown}
use Rattle.box_query.proofs.Heading.{header_judged}
use Rattle.box_query.proofs.source.view_header.Goals as goal

pub returns-clause-judged : goal.returns-clause-judged
returns-clause-judged c = λ image start held. header_judged header_shown image c.args.buffer.now c.read.result start held c.read.ensures.judged
