use Rattle.std.proofs.Common.{refl}
use Rattle.fgb_tool.specs.Runs.{nothing}
use Rattle.fgb_tool.proofs.Checking.{line_of_file, line_written, accepted_valid}
use Rattle.fgb_tool.proofs.check.check_file.Goals as goal

pub returns-in_err-write_accepted-in-Accepted-clause-part : goal.returns-in_err-write_accepted-in-Accepted-clause-part
returns-in_err-write_accepted-in-Accepted-clause-part g c = λ image told features nodes file.
    line_of_file image c.in-Ok.verdict c.in-Accepted.features c.in-Accepted.nodes c.in-Accepted.is (c.in-Ok.ensures.judged image told) (g.W.Sink.shown c.args.out.now) (g.W.Sink.shown c.write_accepted.new.out) features nodes file c.in_err-write_accepted-in-Accepted.ensures.writing.part

pub returns-in_err-write_accepted-in-Accepted-clause-broken : goal.returns-in_err-write_accepted-in-Accepted-clause-broken
returns-in_err-write_accepted-in-Accepted-clause-broken g c = λ image told invalid.
    absurd (accepted_valid image c.in-Ok.verdict c.in-Accepted.features c.in-Accepted.nodes c.in-Accepted.is (c.in-Ok.ensures.judged image told) invalid)

pub returns-clause-part : goal.returns-clause-part
returns-clause-part g c = λ image told features nodes file.
    line_of_file image c.in-Ok.verdict c.in-Accepted.features c.in-Accepted.nodes c.in-Accepted.is (c.in-Ok.ensures.judged image told) (g.W.Sink.shown c.args.out.now) (g.W.Sink.shown c.write_accepted.new.out) features nodes file c.in_ok-write_accepted-in-Accepted.ensures.writing.part

pub returns-clause-broken : goal.returns-clause-broken
returns-clause-broken g c = λ image told invalid.
    absurd (accepted_valid image c.in-Ok.verdict c.in-Accepted.features c.in-Accepted.nodes c.in-Accepted.is (c.in-Ok.ensures.judged image told) invalid)

pub returns-in-Err-clause-wrote : goal.returns-in-Err-clause-wrote
returns-in-Err-clause-wrote g c = λ image told. nothing refl

pub returns-in-Refused-clause-wrote : goal.returns-in-Refused-clause-wrote
returns-in-Refused-clause-wrote g c = λ image told. nothing refl

pub returns-in_err-write_accepted-in-Accepted-clause-wrote : goal.returns-in_err-write_accepted-in-Accepted-clause-wrote
returns-in_err-write_accepted-in-Accepted-clause-wrote g c = λ image told.
    line_written image c.in-Ok.verdict c.in-Accepted.features c.in-Accepted.nodes c.in-Accepted.is (c.in-Ok.ensures.judged image told) (g.W.Sink.shown c.args.out.now) (g.W.Sink.shown c.write_accepted.new.out) c.in_err-write_accepted-in-Accepted.ensures.writing.part

pub returns-clause-wrote : goal.returns-clause-wrote
returns-clause-wrote g c = λ image told.
    line_written image c.in-Ok.verdict c.in-Accepted.features c.in-Accepted.nodes c.in-Accepted.is (c.in-Ok.ensures.judged image told) (g.W.Sink.shown c.args.out.now) (g.W.Sink.shown c.write_accepted.new.out) c.in_ok-write_accepted-in-Accepted.ensures.writing.part
