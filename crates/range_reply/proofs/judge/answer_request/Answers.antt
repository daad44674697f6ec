use Rattle.std.proofs.Common.{◌∙◌, sym}
use Rattle.range_reply.proofs.Judging.{gives_bad}
use Rattle.range_reply.proofs.judge.answer_request.Goals as goal

pub returns-else-is_served : goal.returns-else-is_served
returns-else-is_served c = gives_bad c.args.size c.args.request.now c.new-else-is_served.result (sym c.is_served.ensures ∙ c.if-is_served.false) c.new-else-is_served.ensures
