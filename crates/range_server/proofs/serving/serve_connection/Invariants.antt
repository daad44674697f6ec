use Rattle.range_server.specs.Paths.{room}
use Rattle.range_server.proofs.Served.{HasServed}
use Rattle.range_server.proofs.serving.serve_connection.Given as goal

abbrev pub invariant-loop-piece : goal.invariant-loop-piece
invariant-loop-piece g l = HasServed l.image l.core (g.L.Link.shown l.fn.link) (g.L.Link.shown l.link) l.receipt

abbrev pub decreases-loop-piece : goal.decreases-loop-piece
decreases-loop-piece g l = room l.core
