use Rattle.std.proofs.Common.{subst}
use Rattle.fgb_outside.specs.Sink.{AppendsPart}
use Rattle.make_command.specs.Made.{front}
use Rattle.make_command.proofs.text.make_text.Goals as goal

pub returns-in_err-write-in-Ok-clause-part : goal.returns-in_err-write-in-Ok-clause-part
returns-in_err-write-in-Ok-clause-part g c = front c.in-Ok.ensures (subst (AppendsPart (g.W.Sink.shown c.args.out.now) (g.W.Sink.shown c.write.new.self)) c.deref.ensures.value c.write.ensures.part)

pub returns-in_ok-write-in-Ok-clause-part : goal.returns-in_ok-write-in-Ok-clause-part
returns-in_ok-write-in-Ok-clause-part g c = front c.in-Ok.ensures (subst (AppendsPart (g.W.Sink.shown c.args.out.now) (g.W.Sink.shown c.write.new.self)) c.deref.ensures.value c.write.ensures.part)
