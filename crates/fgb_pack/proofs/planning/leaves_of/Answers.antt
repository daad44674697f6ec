use Rattle.std.proofs.Common.{◌<◌, length}
use Rattle.fgb_pack.proofs.Leaves.{leaves_end, leaves_next}
use Rattle.fgb_pack.proofs.Orders.{at_place}
use Rattle.fgb_pack.proofs.planning.leaves_of.Goals as goal

pub loop-number-preserved : goal.loop-number-preserved
loop-number-preserved c =
    leaves_next c.args.survey.now c.loop-number.offset c.loop-number.number-index c.args.numbers.now c.loop-number.leaves.items c.push.new.self.items _
    c.index.result.now c.index-in-loop-number.result.now c.saturating_add-offset.result c.loop-number-test.true c.requires.each
    (at_place (λ k. k < length c.args.survey.now.boxes.items) c.args.numbers.now c.loop-number.number-index 0 c.requires.known c.loop-number-test.true)
    c.index.ensures c.index-in-loop-number.ensures c.in_ok-push.ensures.items c.saturating_add-offset.ensures c.loop-number.invariant

pub returns : goal.returns
returns c =
    leaves_end c.args.survey.now c.loop-number.offset c.loop-number.number-index c.args.numbers.now c.loop-number.leaves.items _ c.loop-number-test.false c.loop-number.invariant
