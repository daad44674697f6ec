use Rattle.std.proofs.Common.{ap, ◌∙◌, arith}
use Rattle.flat_layout.proofs.Judging.{exit}
use Rattle.fgb_schema.specs.Features.{own_box}
use Rattle.slice_hits.proofs.Reading.{breaks_prefix, breaks_buffer, is_read, rest_front, rest_buffer}
use Rattle.slice_hits.proofs.features.Features.read.Goals as goal

pub returns-in_err-size-clause-judged : goal.returns-in_err-size-clause-judged
returns-in_err-size-clause-judged c = λ shown. let image = c.args.self.now.bytes.now in
    let refused = c.in_err-size.ensures.judged image (omega arith) (rest_front image c.args.at) in
    exit _ _ c.from_residual.result c.in_err-size.field-0.0 c.from_residual.ensures.1 (breaks_prefix image c.args.at refused.0 refused.1)

pub returns-in_err-feature-clause-judged : goal.returns-in_err-feature-clause-judged
returns-in_err-feature-clause-judged c = λ shown. let image = c.args.self.now.bytes.now in
    let framed = c.in_ok-size.ensures.judged image (omega arith) (rest_front image c.args.at) in
    exit _ _ c.from_residual-in_err-feature.result c.in_err-feature.field-0.0 c.from_residual-in_err-feature.ensures.1
    (breaks_buffer image c.args.at _ shown framed.0 _ (rest_buffer image c.args.at c.in_ok-size.size (omega arith) framed.1) (omega arith) c.in_err-feature.ensures)

pub returns-clause-judged : goal.returns-clause-judged
returns-clause-judged c = λ shown. let image = c.args.self.now.bytes.now in
    let framed = c.in_ok-size.ensures.judged image (omega arith) (rest_front image c.args.at) in
    let held = rest_buffer image c.args.at c.in_ok-size.size (omega arith) framed.1 in
    is_read image c.args.at _ shown framed.0 _ held c.in_ok-feature.ensures.1 (c.bounds.ensures ∙ ap own_box c.in_ok-feature.ensures.0.record_of)
