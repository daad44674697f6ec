use Rattle.std.proofs.Common.{Some, None, sym, ◌∙◌, lit<}
use Rattle.std.proofs.lemmas.Str.Pattern.{strip_prefix_char}
use Rattle.fgb_where.specs.Values.{numeral_of}
use Rattle.fgb_where.proofs.Numerals.{after_minus, plain, minus_none, minus_some}
use Rattle.fgb_where.proofs.values.read_whole.Goals as goal

pub returns-in_err-read_numeral-in-Some : goal.returns-in_err-read_numeral-in-Some
returns-in_err-read_numeral-in-Some c =
    c.from_residual.ensures ∙ minus_none (numeral_of c.in-Some.digits.now) c.in_err-read_numeral-in-Some.ensures
    ∙ sym (after_minus c.args.text.now c.in-Some.digits.now (strip_prefix_char 45 c.args.text.now (Some c.in-Some.digits) c.in-Some.ensures.cases (lit< tt)))

pub returns-in_ok-read_numeral-in-Some : goal.returns-in_ok-read_numeral-in-Some
returns-in_ok-read_numeral-in-Some c =
    minus_some c.in-Some.digits.now c.in_ok-read_numeral-in-Some.field-0 c.in_ok-read_numeral-in-Some.ensures
    ∙ sym (after_minus c.args.text.now c.in-Some.digits.now (strip_prefix_char 45 c.args.text.now (Some c.in-Some.digits) c.in-Some.ensures.cases (lit< tt)))

pub returns-in-None : goal.returns-in-None
returns-in-None c = c.read_numeral-in-None.ensures ∙ sym (plain c.args.text.now (strip_prefix_char 45 c.args.text.now None c.in-None.ensures.cases (lit< tt)))
