use Rattle.std.proofs.Common.{map}
use Rattle.wkb_grammar.specs.Grammar.{bytes_of}
use Rattle.wkb_grammar.specs.ShapesShown.{joined, positions_in}
use Rattle.wkb_reader.specs.Broken.{IsMember}
use Rattle.wkb_reader.specs.Cursors.{TakesEach}
use Rattle.wkb_reader.specs.Gathered.{Adds}
use Rattle.wkb_reader.proofs.members.take_multi_point.Given as goal

abbrev pub invariant-loop : goal.invariant-loop
invariant-loop l =
    TakesEach l.counter l.initial.cursor l.cursor bytes_of (IsMember l.dialect l.level 4 l.dimension) (λ members. Adds l.dimension l.initial.points l.points (joined (map positions_in members)))
