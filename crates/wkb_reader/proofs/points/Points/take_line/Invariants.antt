use Rattle.wkb_grammar.specs.Grammar.{IsPosition, position_bytes}
use Rattle.wkb_reader.specs.Cursors.{TakesEach}
use Rattle.wkb_reader.specs.Gathered.{Adds}
use Rattle.wkb_reader.specs.Heads.{order_of}
use Rattle.wkb_reader.proofs.points.Points.take_line.Given as goal

abbrev pub invariant-loop : goal.invariant-loop
invariant-loop l =
    TakesEach l.counter l.initial.cursor l.cursor (position_bytes (order_of l.order)) (IsPosition l.dimension) (Adds l.dimension l.fn.self l.self)
