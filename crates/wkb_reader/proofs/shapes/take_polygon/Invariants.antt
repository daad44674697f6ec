use Rattle.wkb_grammar.specs.Grammar.{IsLine, line_bytes_in}
use Rattle.wkb_reader.specs.Cursors.{TakesEach}
use Rattle.wkb_reader.specs.Gathered.{HasRings}
use Rattle.wkb_reader.specs.Heads.{order_of}
use Rattle.wkb_reader.proofs.shapes.take_polygon.Given as goal

abbrev pub invariant-loop : goal.invariant-loop
invariant-loop l = TakesEach l.counter l.initial.cursor l.cursor (line_bytes_in (order_of l.order)) (IsLine l.dimension) (HasRings l.dimension 3 l.shape l.points)
