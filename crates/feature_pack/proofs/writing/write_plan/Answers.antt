use Rattle.std.proofs.Common.{refl}
use Rattle.feature_pack.specs.Pieces.{pieces_in}
use Rattle.feature_pack.proofs.Writes.{all_written, in_head, in_index, in_pieces}
use Rattle.feature_pack.proofs.writing.write_plan.Goals as goal

pub returns-in_err-write_head-clause-part : goal.returns-in_err-write_head-clause-part
returns-in_err-write_head-clause-part g c = let shown = g.W.Sink.shown in let plan = c.args.plan.now in
    in_head (pieces_in c.args.buffers.now) plan c.deref.result.now plan.leaves.items plan.numbers.items c.deref.ensures.value refl refl
    (shown c.args.out.now) (shown c.write_head.new.out) (shown c.write_head.new.out) (shown c.write_head.new.out) c.in_err-write_head.ensures.part

pub returns-in_err-write_index-clause-part : goal.returns-in_err-write_index-clause-part
returns-in_err-write_index-clause-part g c = let shown = g.W.Sink.shown in let plan = c.args.plan.now in
    in_index (pieces_in c.args.buffers.now) plan c.deref.result.now c.deref-2.result.now plan.numbers.items c.deref.ensures.value c.deref-2.ensures.value refl
    (shown c.args.out.now) (shown c.write_head.new.out) (shown c.write_index.new.out) (shown c.write_index.new.out) c.in_ok-write_head.ensures.whole c.in_err-write_index.ensures.part

pub returns-in_err-write_pieces-clause-part : goal.returns-in_err-write_pieces-clause-part
returns-in_err-write_pieces-clause-part g c = let shown = g.W.Sink.shown in let plan = c.args.plan.now in
    in_pieces (pieces_in c.args.buffers.now) plan c.deref.result.now c.deref-2.result.now c.deref-3.result.now c.deref.ensures.value c.deref-2.ensures.value c.deref-3.ensures.value
    (shown c.args.out.now) (shown c.write_head.new.out) (shown c.write_index.new.out) (shown c.write_pieces.new.out) c.in_ok-write_head.ensures.whole c.in_ok-write_index.ensures.whole c.in_err-write_pieces.ensures.part

pub returns-clause-whole : goal.returns-clause-whole
returns-clause-whole g c = let shown = g.W.Sink.shown in let plan = c.args.plan.now in
    all_written (pieces_in c.args.buffers.now) plan c.deref.result.now c.deref-2.result.now c.deref-3.result.now c.deref.ensures.value c.deref-2.ensures.value c.deref-3.ensures.value
    (shown c.args.out.now) (shown c.write_head.new.out) (shown c.write_index.new.out) (shown c.write_pieces.new.out) c.in_ok-write_head.ensures.whole c.in_ok-write_index.ensures.whole c.in_ok-write_pieces.ensures.whole

pub returns-clause-part : goal.returns-clause-part
returns-clause-part g c = let shown = g.W.Sink.shown in let plan = c.args.plan.now in
    in_pieces (pieces_in c.args.buffers.now) plan c.deref.result.now c.deref-2.result.now c.deref-3.result.now c.deref.ensures.value c.deref-2.ensures.value c.deref-3.ensures.value
    (shown c.args.out.now) (shown c.write_head.new.out) (shown c.write_index.new.out) (shown c.write_pieces.new.out) c.in_ok-write_head.ensures.whole c.in_ok-write_index.ensures.whole c.write_pieces.ensures.part
