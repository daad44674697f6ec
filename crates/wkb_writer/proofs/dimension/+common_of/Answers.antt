use Rattle.std.proofs.Common.{sym, subst, arith}
use Rattle.wkb_writer.specs.Commons.{IsCommon}
use Rattle.wkb_writer.specs.Dimensions.{tree}
use Rattle.wkb_writer.proofs.Trees.{part_below}
use Rattle.wkb_writer.proofs.Wholes.{all_trees, first_trees, trees_more}
use Rattle.wkb_writer.proofs.dimension.+common_of.Goals as goal

pub common_of-requires : goal.common_of-requires
common_of-requires g t c κs within = (omega (arith, c.decreases, part_below (g.S.Shows.shown c.args.view.now) c.loop-i.i (g.S.Shows.shown c.part.result) c.part.ensures), within)

pub loop-i-preserved : goal.loop-i-preserved
loop-i-preserved g t c =
    let s = g.S.Shows.shown c.args.view.now in let part = g.S.Shows.shown c.part.result in let i = c.loop-i.i in
    subst (λ shapes. IsCommon shapes c.join-common.result) (sym (trees_more s i part c.part.ensures))
    (c.join-common.ensures (first_trees s i) (tree part) c.loop-i.invariant c.common_of.ensures)

pub returns : goal.returns
returns g t c =
    let s = g.S.Shows.shown c.args.view.now in
    subst (λ shapes. IsCommon shapes c.loop-i.common) (all_trees s c.loop-i.i (omega (arith, c.parts-i-end.ensures, c.loop-i-test.false))) c.loop-i.invariant
