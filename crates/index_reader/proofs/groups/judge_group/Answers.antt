use Rattle.std.proofs.Common.{◌∙◌, subst}
use Rattle.level_bounds.specs.Shapes.{shape_of}
use Rattle.node_items.specs.Faults.{IsFirstOf, group_faults, root_faults}
use Rattle.node_items.specs.Nodes.{stored}
use Rattle.index_reader.proofs.Stored.{holds_stored, holds_children}
use Rattle.index_reader.proofs.groups.judge_group.Goals as goal

pub returns-clause-group : goal.returns-clause-group
returns-clause-group c = λ image end k i are children parent. let t = shape_of c.args.levels.now in
    let holds = holds_stored c.new.result image c.args.place c.args.bytes.now c.args.first end c.new.ensures.bytes c.new.ensures.first are in
    subst (λ at. IsFirstOf (group_faults t (stored image c.args.place) at k i) c.check_group.result) c.new.ensures.place
    (c.check_group.ensures.group k i (stored image c.args.place) children.parent (holds_children c.new.result (stored image c.args.place) t k i c.args.first end children holds) parent)

pub returns-clause-root : goal.returns-clause-root
returns-clause-root c = λ image are first none. let t = shape_of c.args.levels.now in
    let holds = holds_stored c.new.result image c.args.place c.args.bytes.now 0 1 c.new.ensures.bytes (c.new.ensures.first ∙ first) are in
    subst (λ at. IsFirstOf (root_faults t (stored image c.args.place) at) c.check_group.result) c.new.ensures.place
    (c.check_group.ensures.root (stored image c.args.place) holds none)
