use Rattle.std.proofs.Common.{◌≡◌, ◌||◌, ◌∙◌, arith}
use Rattle.wkb_writer.proofs.Trees.{part_below}
use Rattle.shape_features.proofs.Lists.{all_parts, one_part_more, or_false, or_true}
use Rattle.shape_features.proofs.header.+stands_in.Goals as goal
use Rattle.shape_features.proofs.header.+stands_in.Goals.{then-stands, else-stands}

pub stands_in-below-requires : goal.stands_in-below-requires
stands_in-below-requires t c = (omega (arith, c.decreases, part_below c.args.shape.now c.loop-i.i c.part.result.now c.part.ensures), tt)

pub loop-i-preserved : goal.loop-i-preserved
loop-i-preserved t c =
    let both : c.if-stands.stands ≡ (c.loop-i.stands || c.stands_in-below.result) =
    elim c.if-stands.branch [
      | then-stands w ↦ or_true c.loop-i.stands c.stands_in-below.result c.if-stands.stands w.if-stands.true (w.stands-is ∙ w.if-stands.true)
      | else-stands w ↦ or_false c.loop-i.stands c.stands_in-below.result c.if-stands.stands w.if-stands.false w.stands-is
    ] in
    one_part_more c.args.which c.args.shape.now c.loop-i.i c.part.result.now c.loop-i.stands c.stands_in-below.result c.if-stands.stands c.part.ensures c.loop-i.invariant c.stands_in-below.ensures both

pub returns : goal.returns
returns t c = all_parts c.args.which c.args.shape.now c.loop-i.i c.loop-i.stands (omega (arith, c.parts-i-end.ensures, c.loop-i-test.false)) c.loop-i.invariant
