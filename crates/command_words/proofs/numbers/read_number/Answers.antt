use Rattle.std.proofs.Common.{rules, ◌≡◌, ◌∙◌, Some, true, sym, ap}
use Rattle.std.proofs.lemmas.Str.Parse.{parse_gives}
use Rattle.std.specs.Result.{result_ok}
use Rattle.std.specs.Str.Parse.{digits_value}
use Rattle.order_keys.proofs.Spelling.{decimal}
use Rattle.command_words.specs.Words.{is_number}
use Rattle.command_words.proofs.Wording.{number_parts, number_short}
use Rattle.command_words.proofs.numbers.read_number.Goals as goal

passes : (c : goal.After-ok) → is_number c.args.digits.now ≡ true
passes c = search rules

-- what was read is the number that the digits spell
read : (c : goal.After-ok) → c.ok.result ≡ Some (digits_value 10 c.args.digits.now)
read c =
    let parts = number_parts c.args.digits.now (passes c) in
    let parsed = parse_gives decimal 64 c.args.digits.now _ c.parse.ensures.value.0 parts.2 parts.0 (number_short c.args.digits.now (passes c)) in
    c.ok.ensures.value ∙ ap result_ok parsed

pub returns-clause-some : goal.returns-clause-some
returns-clause-some c = rw (read c) (record { form = passes c; value = search rules })

pub returns-clause-none : goal.returns-clause-none
returns-clause-none c = λ n spells. rw (read c) (sym spells.value)
