use Rattle.fgb_lay.specs.Puts.{Puts}
use Rattle.fgb_lay.proofs.Sizes.{left_bytes}
use Rattle.fgb_lay.proofs.writing.put_buffers.Given as goal

abbrev pub invariant-loop-buffer : goal.invariant-loop-buffer
invariant-loop-buffer g l = Puts (g.W.Sink.shown l.fn.out) (g.W.Sink.shown l.out) l.fn.page l.page (left_bytes l.buffers l.buffer-index) (left_bytes l.buffers 0)
