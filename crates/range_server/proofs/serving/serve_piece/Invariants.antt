use Rattle.std.proofs.Common.{length}
use Rattle.range_server.proofs.Served.{HasUsed}
use Rattle.range_server.proofs.serving.serve_piece.Given as goal

abbrev pub invariant-loop-rest : goal.invariant-loop-rest
invariant-loop-rest g l = HasUsed l.image l.fn.core l.core l.piece l.rest (g.L.Link.shown l.fn.link) (g.L.Link.shown l.link) l.fn.receipt l.receipt

abbrev pub decreases-loop-rest : goal.decreases-loop-rest
decreases-loop-rest g l = length l.rest
