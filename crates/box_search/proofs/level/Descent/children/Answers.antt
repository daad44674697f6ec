use Rattle.std.proofs.Common.{◌+◌, ◌<◌, sym, subst}
use Rattle.level_bounds.specs.Levels.{place}
use Rattle.level_bounds.specs.Shapes.{shape_of}
use Rattle.level_bounds.proofs.Places.{inner_in_front}
use Rattle.tree_search.proofs.Offsets.{number_is}
use Rattle.box_search.proofs.level.Descent.children.Goals as goal

pub group-requires : goal.group-requires
group-requires c = let t = shape_of c.args.self.now.levels.now in
    subst (λ n. n < place t 0 0) (sym (number_is t (c.args.k + 1) c.args.node c.level.result.0 c.level.ensures.first)) (inner_in_front t c.args.k c.args.node c.requires)

pub returns-clause-first : goal.returns-clause-first
returns-clause-first c = let t = shape_of c.args.self.now.levels.now in
    (c.group.ensures.children c.args.k c.args.node c.requires (number_is t (c.args.k + 1) c.args.node c.level.result.0 c.level.ensures.first)).0

pub returns-clause-end : goal.returns-clause-end
returns-clause-end c = let t = shape_of c.args.self.now.levels.now in
    (c.group.ensures.children c.args.k c.args.node c.requires (number_is t (c.args.k + 1) c.args.node c.level.result.0 c.level.ensures.first)).1
