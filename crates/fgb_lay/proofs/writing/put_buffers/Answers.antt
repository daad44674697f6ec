use Rattle.std.proofs.Common.{◌+◌}
use Rattle.laid_features.specs.Buffers.{framed}
use Rattle.sink_page.proofs.Pages.{on_err}
use Rattle.fgb_lay.proofs.Putting.{puts_more, puts_part}
use Rattle.fgb_lay.proofs.Sizes.{left_bytes, left_split}
use Rattle.fgb_lay.proofs.writing.put_buffers.Goals as goal

pub returns-in_err-put_framed-clause-err : goal.returns-in_err-put_framed-clause-err
returns-in_err-put_framed-clause-err g c =
    let buffers = c.args.buffers.now in let i = c.loop-buffer.buffer-index in let lent = c.deref.result.now in
    let split = left_split buffers i c.buffer-item.result c.loop-buffer-test.true c.buffer-item.is lent c.deref.ensures.value in
    on_err c.from_residual.result _
    (puts_part (g.W.Sink.shown c.args.out.now) (g.W.Sink.shown c.loop-buffer.out) c.args.page.now c.loop-buffer.page (left_bytes buffers i) (left_bytes buffers 0) (framed lent)
    (left_bytes buffers (i + 1)) c.loop-buffer.invariant split (g.W.Sink.shown c.put_framed.new.out) c.put_framed.new.self c.in_err-put_framed.ensures.err)

pub loop-buffer-preserved : goal.loop-buffer-preserved
loop-buffer-preserved g c =
    let buffers = c.args.buffers.now in let i = c.loop-buffer.buffer-index in let lent = c.deref.result.now in
    let split = left_split buffers i c.buffer-item.result c.loop-buffer-test.true c.buffer-item.is lent c.deref.ensures.value in
    puts_more (g.W.Sink.shown c.args.out.now) (g.W.Sink.shown c.loop-buffer.out) c.args.page.now c.loop-buffer.page (left_bytes buffers i) (left_bytes buffers 0) (framed lent)
    (left_bytes buffers (i + 1)) c.loop-buffer.invariant split (g.W.Sink.shown c.put_framed.new.out) c.put_framed.new.self c.in_ok-put_framed.ensures.ok
