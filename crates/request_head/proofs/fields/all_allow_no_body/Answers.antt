use Rattle.std.proofs.Common.{sym}
use Rattle.httparse.specs.Spans.{header_bytes}
use Rattle.request_head.specs.Requests.{allows_no_body}
use Rattle.request_head.proofs.Passed.{all_fails, all_more}
use Rattle.request_head.proofs.fields.all_allow_no_body.Goals as goal

pub returns-then-not-allows_no_body : goal.returns-then-not-allows_no_body
returns-then-not-allows_no_body c =
    sym (all_fails allows_no_body (header_bytes c.args.head.now) c.args.fields.now c.loop-field.field-index _ c.loop-field-test.true
    (sym c.if-not-allows_no_body.ensures))

pub loop-field-preserved : goal.loop-field-preserved
loop-field-preserved c =
    all_more allows_no_body (header_bytes c.args.head.now) c.args.fields.now c.loop-field.field-index _ c.loop-field-test.true c.loop-field.invariant
    (sym c.if-not-allows_no_body.ensures)
