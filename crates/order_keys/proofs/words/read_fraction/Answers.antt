use Rattle.std.proofs.Common.{rules}
use Rattle.order_keys.proofs.Spelling.{undivided}
use Rattle.order_keys.proofs.words.read_fraction.Goals as goal

pub returns-in_ok-read_decimal-in-None : goal.returns-in_ok-read_decimal-in-None
returns-in_ok-read_decimal-in-None c =
    let e = undivided c.args.is_negative c.args.text.now c.in-None.ensures.cases in
    search (rules, e)
