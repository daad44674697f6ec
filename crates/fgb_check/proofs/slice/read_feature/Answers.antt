use Rattle.std.proofs.Common.{ap, ◌∙◌, arith}
use Rattle.flat_layout.proofs.Judging.{exit}
use Rattle.fgb_schema.specs.Features.{own_box}
use Rattle.fgb_check.proofs.Walking.{breaks_prefix, breaks_buffer, sound_buffer, shown_box}
use Rattle.fgb_check.proofs.Slicing.{rest_front, rest_buffer}
use Rattle.fgb_check.proofs.slice.read_feature.Goals as goal

pub returns-in_err-size : goal.returns-in_err-size
returns-in_err-size c = let image = c.args.bytes.now in
    let refused = c.in_err-size.ensures.judged image (omega arith) (rest_front image c.args.at) in
    exit _ _ c.from_residual.result c.in_err-size.field-0.0 c.from_residual.ensures.1 (breaks_prefix image refused.0 refused.1)

pub returns-in_err-feature : goal.returns-in_err-feature
returns-in_err-feature c = let image = c.args.bytes.now in
    let framed = c.in_ok-size.ensures.judged image (omega arith) (rest_front image c.args.at) in
    exit _ _ c.from_residual-in_err-feature.result c.in_err-feature.field-0.0 c.from_residual-in_err-feature.ensures.1
    (breaks_buffer image _ c.requires.header c.args.at framed.0 _ (rest_buffer image c.args.at c.in_ok-size.size (omega arith) framed.1) (omega arith) c.in_err-feature.ensures)

pub returns : goal.returns
returns c = let image = c.args.bytes.now in
    let framed = c.in_ok-size.ensures.judged image (omega arith) (rest_front image c.args.at) in
    let held = rest_buffer image c.args.at c.in_ok-size.size (omega arith) framed.1 in (
      sound_buffer image _ c.requires.header c.args.at framed.0 _ held (omega (arith, framed.1)) c.in_ok-feature.ensures.1,
      shown_box image _ c.requires.header c.args.at framed.0 _ held (c.bounds.ensures ∙ ap own_box c.in_ok-feature.ensures.0.record_of),
    )
