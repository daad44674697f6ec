use Rattle.std.proofs.Common.{◌+◌, ◌<◌, ◌/◌, sym, subst, arith}
use Rattle.level_bounds.specs.Levels.{node_count, place}
use Rattle.level_bounds.specs.Shapes.{shape_of}
use Rattle.level_bounds.proofs.Places.{inner_in_front, node_within, parent_there}
use Rattle.slice_hits.proofs.Numbers.{node_there}
use Rattle.slice_hits.proofs.Climbing.{climbs_up, climbs_on, climbs_out, falls}
use Rattle.slice_hits.proofs.after.next_behind.Goals as goal

pub group-end-requires : goal.group-end-requires
group-end-requires c =
    let t = shape_of c.args.levels.now in let shape = c.args.levels.now.shaped.shaped in
    let here = node_there t shape c.loop-parent.last c.loop-parent.invariant.within in
    let up = c.in-Some.ensures here.level here.index here.is here.stands in
    subst (λ n. n < place t 0 0) (sym up.1) (inner_in_front t here.level (here.index / t.node_size) (parent_there t shape here.level here.index here.is.there up.0))

pub returns-then-last-end : goal.returns-then-last-end
returns-then-last-end c = λ k i is e.
    let t = shape_of c.args.levels.now in let shape = c.args.levels.now.shaped.shaped in
    let climbs = c.loop-parent.invariant.climbs k i is e in
    let up = c.in-Some.ensures climbs.level climbs.index climbs.is climbs.stands in
    let end = c.group-end.ensures.children climbs.level (climbs.index / t.node_size) (parent_there t shape climbs.level climbs.index climbs.is.there up.0) up.1 in
    climbs_on t shape k i c.loop-parent.last climbs up.0 c.group-end.result.1 end.1 c.if-last-end.true

pub loop-parent-smaller : goal.loop-parent-smaller
loop-parent-smaller c =
    let t = shape_of c.args.levels.now in let shape = c.args.levels.now.shaped.shaped in
    let here = node_there t shape c.loop-parent.last c.loop-parent.invariant.within in
    let up = c.in-Some.ensures here.level here.index here.is here.stands in
    falls t shape here.level here.index c.loop-parent.last c.in-Some.parent here.is here.stands up.0 up.1

pub loop-parent-preserved : goal.loop-parent-preserved
loop-parent-preserved c =
    let t = shape_of c.args.levels.now in let shape = c.args.levels.now.shaped.shaped in
    let here = node_there t shape c.loop-parent.last c.loop-parent.invariant.within in
    let there = c.in-Some.ensures here.level here.index here.is here.stands in
    record {
      within = subst (λ n. n < node_count t) (sym there.1) (node_within t (here.level + 1) (here.index / t.node_size) (parent_there t shape here.level here.index here.is.there there.0));
      climbs = λ k i is e.
          let climbs = c.loop-parent.invariant.climbs k i is e in
          let up = c.in-Some.ensures climbs.level climbs.index climbs.is climbs.stands in
          let end = c.group-end.ensures.children climbs.level (climbs.index / t.node_size) (parent_there t shape climbs.level climbs.index climbs.is.there up.0) up.1 in
          climbs_up t shape k i c.loop-parent.last climbs c.in-Some.parent up.0 up.1 c.group-end.result.1 end.1 (omega (arith, c.if-last-end.false));
    }

pub returns : goal.returns
returns c = λ k i is e.
    let t = shape_of c.args.levels.now in let shape = c.args.levels.now.shaped.shaped in
    let climbs = c.loop-parent.invariant.climbs k i is e in
    climbs_out t shape k i c.loop-parent.last climbs (c.in_default.ensures climbs.level climbs.index climbs.is climbs.stands)
