use Rattle.wkb_features.proofs.Spelling.{writes_front}
use Rattle.wkb_features.proofs.values.write_values.Goals as goal

pub returns-in_err-write-clause-part : goal.returns-in_err-write-clause-part
returns-in_err-write-clause-part g c =
    writes_front c.args.features.now c.in_ok-values.values.items c.deref.result.now (g.W.Sink.shown c.args.out.now) (g.W.Sink.shown c.write.new.self) c.in_ok-values.ensures.values c.deref.ensures.value c.write.ensures.part

pub returns-clause-part : goal.returns-clause-part
returns-clause-part g c =
    writes_front c.args.features.now c.in_ok-values.values.items c.deref.result.now (g.W.Sink.shown c.args.out.now) (g.W.Sink.shown c.write.new.self) c.in_ok-values.ensures.values c.deref.ensures.value c.write.ensures.part
