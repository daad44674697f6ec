use Rattle.std.proofs.Common.{refl, ◌∙◌, arith}
use Rattle.wkb_grammar.specs.Grammar.{line}
use Rattle.wkb_grammar.proofs.Sizes.{line_long}
use Rattle.wkb_reader.specs.Heads.{order_of}
use Rattle.wkb_reader.proofs.Lists.{gathered_even, gathered_level, points_alone, shape_gathered}
use Rattle.wkb_reader.proofs.shapes.take_line.Goals as goal

pub gather-requires-clause-pairs : goal.gather-requires-clause-pairs
gather-requires-clause-pairs c =
    let taken = c.in_ok-take_line.ensures.ok in
    let empty = c.new-points.ensures in
    gathered_even 2 c.args.dimension c.new-points.result c.take_line.new.self taken.taken empty.xy empty.z empty.m taken.shown

pub gather-requires-clause-level : goal.gather-requires-clause-level
gather-requires-clause-level c =
    let taken = c.in_ok-take_line.ensures.ok in
    let empty = c.new-points.ensures in
    gathered_level 2 c.args.dimension c.new-points.result c.take_line.new.self taken.taken empty.xy empty.z empty.m taken.shown
    (points_alone c.args.dimension 2 taken.taken refl refl refl taken.is.0 (λ one. absurd (omega (arith, one)))
    (omega (arith, line_long (order_of c.args.order) taken.taken, taken.passed.moved, c.take_line.new.cursor.small)))

pub returns-clause-ok : goal.returns-clause-ok
returns-clause-ok c dialect =
    let taken = c.in_ok-take_line.ensures.ok in
    let empty = c.new-points.ensures in
    record {
      taken = line taken.taken;
      is = record { is = taken.is; speaks = tt; same = refl };
      passed = taken.passed;
      shown = c.in_ok-shape.ensures ∙ shape_gathered 2 c.args.dimension c.new-points.result c.take_line.new.self taken.taken empty.xy empty.z empty.m taken.shown;
    }
