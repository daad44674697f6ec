use Rattle.range_reply.proofs.Judging.{range_is, range_is_none, request_at, request_is_none}
use Rattle.range_reply.proofs.laws.heads_are_read_by_the_grammar.Goals as goal

pub returns : goal.returns
returns c = record { request = request_at; no_request = request_is_none; range = range_is; no_range = range_is_none }
