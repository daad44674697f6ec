use Rattle.std.proofs.Common.{rules, ◌≡◌, ◌∙◌, sym, subst, true, List, ℕ}
use Rattle.std.specs.Str.Parse.{ParsesUnsigned}
use Rattle.range_text.specs.Ranges.{is_number}
use Rattle.range_text.proofs.Digits.{digits_text, parsed}
use Rattle.range_text.proofs.numbers.read_number.Goals as goal

pub returns-in_err-ok : goal.returns-in_err-ok
returns-in_err-ok c =
    let passes : is_number c.args.digits.now ≡ true = search rules in
    let text = digits_text c.args.digits.now _ c.from_utf8.result passes c.from_utf8.ensures.cases in
    absurd (text.1 (sym c.in_err-ok.ensures.value))

pub returns : goal.returns
returns c =
    let passes : is_number c.args.digits.now ≡ true = search rules in
    let text = digits_text c.args.digits.now _ c.from_utf8.result passes c.from_utf8.ensures.cases in
    let same : c.in_ok-ok.field-0.now ≡ c.args.digits.now = rw (← c.in_ok-ok.ensures.value) at (text.0) in
    let P : List ℕ → Type 0 = λ bytes. ParsesUnsigned 64 10 bytes c.parse.result in
    c.ok-2.ensures.value ∙ parsed c.args.digits.now c.parse.result passes (subst P same c.parse.ensures.value.0)
