use Rattle.std.proofs.Common.{map}
use Rattle.wkb_grammar.specs.Grammar.{bytes_of}
use Rattle.wkb_grammar.specs.ShapesShown.{positions_in}
use Rattle.wkb_reader.specs.Broken.{IsMember}
use Rattle.wkb_reader.specs.Cursors.{TakesEach}
use Rattle.wkb_reader.specs.Gathered.{HasRings}
use Rattle.wkb_reader.proofs.members.take_multi_line.Given as goal

abbrev pub invariant-loop : goal.invariant-loop
invariant-loop l =
    TakesEach l.counter l.initial.cursor l.cursor bytes_of (IsMember l.dialect l.level 5 l.dimension) (λ members. HasRings l.dimension 5 l.shape l.points (map positions_in members))
