use Rattle.node_items.proofs.Faults.{names_told, names_any}
use Rattle.level_bounds.specs.Shapes.{shape_of}
use Rattle.node_items.proofs.group.names_child.Goals as goal

pub returns-in-Some : goal.returns-in-Some
returns-in-Some c k i is e =
    let told = c.in-Some.ensures k i is e in
    names_told (shape_of c.args.levels.now) k i c.in-Some.child c.args.offset told.0 told.1

pub returns-in-None : goal.returns-in-None
returns-in-None c k i is e = names_any (shape_of c.args.levels.now) k i c.args.offset (c.in-None.ensures k i is e)
