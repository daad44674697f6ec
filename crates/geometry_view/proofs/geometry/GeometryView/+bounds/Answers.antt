use Rattle.std.proofs.Common.{arith, rules}
use Rattle.geometry_view.specs.Views.{geometry_shown}
use Rattle.geometry_view.proofs.OwnBoxes.{part_more, all_parts, IsStored}
use Rattle.geometry_view.proofs.geometry.GeometryView.+bounds.Goals as goal

pub loop-i-preserved : goal.loop-i-preserved
loop-i-preserved t c =
    let g = c.args.self.now in
    let stored : IsStored c.bounds.result = record { min_x = search rules; min_y = search rules; max_x = search rules; max_y = search rules } in
    part_more (geometry_shown g) (geometry_shown c.part.result) c.loop-i.i c.loop-i.bounds c.bounds.result c.join-bounds.result c.part.ensures.shape
    (record { same = c.bounds.ensures.value; box = c.bounds.ensures.sound; stored = stored }) c.join-bounds.ensures.value c.loop-i.invariant

pub returns-clause-value : goal.returns-clause-value
returns-clause-value t c = all_parts (geometry_shown c.args.self.now) c.loop-i.i c.loop-i.bounds (omega (arith, c.parts-i-end.ensures)) c.loop-i.invariant
