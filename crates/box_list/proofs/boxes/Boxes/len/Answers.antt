use Rattle.std.proofs.Common.{◌≡◌, ◌≤◌, length, arith, ap}
use Rattle.box_list.proofs.Lists.{front_length}
use Rattle.box_list.proofs.boxes.Boxes.len.Goals as goal

pub returns-clause-len : goal.returns-clause-len
returns-clause-len c =
    let len = front_length c.self.inside.boxes c.self.inside.count (omega (arith, c.self.invariant.0, c.self.invariant.1)) in
    omega (arith, ap length c.self.view_is, len)

pub returns-clause-some : goal.returns-clause-some
returns-clause-some c =
    let len = front_length c.self.inside.boxes c.self.inside.count (omega (arith, c.self.invariant.0, c.self.invariant.1)) in
    omega (arith, c.self.invariant.2.some, len)
