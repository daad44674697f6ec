use Rattle.std.proofs.Common.{length, ap, arith}
use Rattle.fgb_outside.specs.Memory.{Served}
use Rattle.level_bounds.specs.Shapes.{shape_of}
use Rattle.index_reader.proofs.tests.leaves_of_a_source.Goals as goal

pub next-requires : goal.next-requires
next-requires g c = record { shows = c.new-leaves.ensures.shows _ (omega (arith, c.in_ok-levels.ensures, ap (λ (s : Served). length s.image) c.in_ok-source.ensures)) }

pub place-requires : goal.place-requires
place-requires g c =
    let leaf = c.in_ok-leaf.ensures.leaf 60 (shape_of c.in_ok-levels.levels) c.new-leaves.ensures.over in
    let given = rw c.in-Some.is at leaf in
    omega (arith, given.1)
