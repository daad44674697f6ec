use Rattle.order_keys.proofs.Order.{join_least}
use Rattle.order_keys.proofs.bounds.Bounds.join.Goals as goal

pub returns-clause-least : goal.returns-clause-least
returns-clause-least c = λ b first other.
    let least = join_least c.args.self c.args.other b first other in
    rw (c.lesser.ensures, c.lesser-2.ensures, c.greater.ensures, c.greater-2.ensures) least
