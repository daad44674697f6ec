use Rattle.std.proofs.Common.{◌≡◌, true, rules}
use Rattle.std.specs.Int.{w128}
use Rattle.std.proofs.lemmas.Str.Parse.{parse_signed_digits}
use Rattle.order_keys.proofs.Spelling.{decimal}
use Rattle.fgb_where.specs.Values.{is_numeral}
use Rattle.fgb_where.proofs.Numerals.{numeral_parts, numeral_short, ok_if}
use Rattle.fgb_where.proofs.values.read_numeral.Goals as goal

pub returns : goal.returns
returns c =
    let passes : is_numeral c.args.digits.now ≡ true = search rules in
    let parts = numeral_parts c.args.digits.now passes in
    let parsed = ok_if _ _ _ (parse_signed_digits decimal w128 c.args.digits.now _ c.parse.ensures.value.0 parts.2) (parts.0, numeral_short c.args.digits.now passes) in
    rw (passes, c.ok.ensures.value, parsed)
