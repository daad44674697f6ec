use Rattle.range_reply.proofs.Judging.{answers_none, answers_request}
use Rattle.range_reply.proofs.judge.answer.Goals as goal

pub returns-in-Some : goal.returns-in-Some
returns-in-Some c = answers_request c.args.size c.args.head.now c.answer_request.result c.in-Some.request c.in-Some.ensures.some c.answer_request.ensures

pub returns-in-None : goal.returns-in-None
returns-in-None c = answers_none c.args.size c.args.head.now c.new.result c.in-None.ensures.none c.new.ensures
