use Rattle.std.proofs.Common.{Ok}
use Rattle.range_serving.specs.Serving.{ServesConnections}
use Rattle.range_serving.proofs.serving.serve_connections.Given as goal

abbrev pub invariant-loop : goal.invariant-loop
invariant-loop g l = ServesConnections l.image l.counter (g.A.Accept.shown l.fn.listener) (g.A.Accept.shown l.listener) (Ok l.total)
