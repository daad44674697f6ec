use Rattle.std.proofs.Common.{refl}
use Rattle.fgb_pack.proofs.Writing.{in_head, in_index, in_features, whole}
use Rattle.fgb_pack.proofs.file.write_plan.Goals as goal

pub returns-in_err-write_head-clause-part : goal.returns-in_err-write_head-clause-part
returns-in_err-write_head-clause-part g c =
    in_head c.args.plan.now c.deref.result.now c.args.plan.now.leaves.items c.args.plan.now.spans.items c.deref.ensures.value refl refl
    (g.W.Sink.shown c.args.out.now) (g.W.Sink.shown c.write_head.new.out) (g.W.Sink.shown c.write_head.new.out) (g.W.Sink.shown c.write_head.new.out) (g.S.RangeSource.seen c.args.source.now) c.in_err-write_head.ensures.part

pub returns-in_err-write_index-clause-part : goal.returns-in_err-write_index-clause-part
returns-in_err-write_index-clause-part g c =
    in_index c.args.plan.now c.deref.result.now c.deref-2.result.now c.args.plan.now.spans.items c.deref.ensures.value c.deref-2.ensures.value refl
    (g.W.Sink.shown c.args.out.now) (g.W.Sink.shown c.write_head.new.out) (g.W.Sink.shown c.write_index.new.out) (g.W.Sink.shown c.write_index.new.out) (g.S.RangeSource.seen c.args.source.now) c.in_ok-write_head.ensures.whole c.in_err-write_index.ensures.part

pub returns-in_err-copy_spans-clause-part : goal.returns-in_err-copy_spans-clause-part
returns-in_err-copy_spans-clause-part g c =
    in_features c.args.plan.now c.deref.result.now c.deref-2.result.now c.deref-3.result.now c.deref.ensures.value c.deref-2.ensures.value c.deref-3.ensures.value
    (g.W.Sink.shown c.args.out.now) (g.W.Sink.shown c.write_head.new.out) (g.W.Sink.shown c.write_index.new.out) (g.W.Sink.shown c.copy_spans.new.out) (g.S.RangeSource.seen c.args.source.now) c.in_ok-write_head.ensures.whole c.in_ok-write_index.ensures.whole c.copy_spans.ensures.part

pub returns-clause-whole : goal.returns-clause-whole
returns-clause-whole g c =
    whole c.args.plan.now c.deref.result.now c.deref-2.result.now c.deref-3.result.now c.deref.ensures.value c.deref-2.ensures.value c.deref-3.ensures.value
    (g.W.Sink.shown c.args.out.now) (g.W.Sink.shown c.write_head.new.out) (g.W.Sink.shown c.write_index.new.out) (g.W.Sink.shown c.copy_spans.new.out) (g.S.RangeSource.seen c.args.source.now) c.in_ok-write_head.ensures.whole c.in_ok-write_index.ensures.whole c.in_ok-copy_spans.ensures.whole

pub returns-clause-part : goal.returns-clause-part
returns-clause-part g c =
    in_features c.args.plan.now c.deref.result.now c.deref-2.result.now c.deref-3.result.now c.deref.ensures.value c.deref-2.ensures.value c.deref-3.ensures.value
    (g.W.Sink.shown c.args.out.now) (g.W.Sink.shown c.write_head.new.out) (g.W.Sink.shown c.write_index.new.out) (g.W.Sink.shown c.copy_spans.new.out) (g.S.RangeSource.seen c.args.source.now) c.in_ok-write_head.ensures.whole c.in_ok-write_index.ensures.whole c.copy_spans.ensures.part
