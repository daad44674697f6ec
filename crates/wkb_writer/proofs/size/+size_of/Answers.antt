use Rattle.std.proofs.Common.{arith}
use Rattle.geometry_view.specs.Views.{geometry_shown}
use Rattle.wkb_writer.specs.Dimensions.{Fits}
use Rattle.wkb_writer.proofs.SizesOfParts.{all_of_part, all_own, size_after, size_before, size_more}
use Rattle.wkb_writer.proofs.Trees.{part_below}
use Rattle.wkb_writer.proofs.size.+size_of.Goals as goal

pub body_size-size-requires : goal.body_size-size-requires
body_size-size-requires t c = record { fits = all_own (Fits c.args.dimension) (geometry_shown c.args.view.now) c.requires.fits }

pub loop-i-init : goal.loop-i-init
loop-i-init t c = size_before c.args.dimension (geometry_shown c.args.view.now) c.body_size-size.result c.body_size-size.ensures.all c.body_size-size.ensures.small

pub size_of-size-requires : goal.size_of-size-requires
size_of-size-requires t c =
    let s = geometry_shown c.args.view.now in let part = geometry_shown c.part.result in
    (omega (arith, c.decreases, part_below s c.loop-i.i part c.part.ensures.shape), all_of_part (Fits c.args.dimension) s c.loop-i.i part c.part.ensures.shape c.requires.fits)

pub loop-i-preserved : goal.loop-i-preserved
loop-i-preserved t c =
    size_more c.args.dimension (geometry_shown c.args.view.now) c.loop-i.i (geometry_shown c.part.result) c.loop-i.size c.size_of-size.result
    c.part.ensures.shape c.size_of-size.ensures.all c.size_of-size.ensures.small c.loop-i.invariant

pub returns : goal.returns
returns t c =
    let after = size_after c.args.dimension (geometry_shown c.args.view.now) c.loop-i.i c.loop-i.size (omega (arith, c.parts-i-end.ensures, c.loop-i-test.false)) c.loop-i.invariant in
    record { all = after.0; small = after.1 }
