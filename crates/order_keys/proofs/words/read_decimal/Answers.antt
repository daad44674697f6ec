use Rattle.std.proofs.Common.{rules, ◌≡◌, ◌<◌, ◌^◌, arith, true}
use Rattle.std.proofs.lemmas.Str.Parse.{parse_gives, digits_value_short}
use Rattle.std.specs.Str.Parse.{digits_value}
use Rattle.order_keys.specs.Words.{is_decimal}
use Rattle.order_keys.proofs.Spelling.{decimal, decimal_parts}
use Rattle.order_keys.proofs.words.read_decimal.Goals as goal

pub returns : goal.returns
returns c =
    let passes : is_decimal c.args.digits.now ≡ true = search rules in
    let parts = decimal_parts c.args.digits.now passes in
    let short : digits_value 10 c.args.digits.now < 2 ^ 64 = omega (arith, digits_value_short decimal c.args.digits.now 16 parts.2 parts.1) in
    let parsed = parse_gives decimal 64 c.args.digits.now _ c.parse.ensures.value.0 parts.2 parts.0 short in
    rw (passes, c.ok.ensures.value, parsed)
