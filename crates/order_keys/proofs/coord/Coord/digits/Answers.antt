use Rattle.std.proofs.Common.{rules}
use Rattle.order_keys.proofs.Digits.{of_bytes}
use Rattle.order_keys.proofs.coord.Coord.digits.Goals as goal

pub returns : goal.returns
returns c = search (rules, of_bytes c.args.self.0)
