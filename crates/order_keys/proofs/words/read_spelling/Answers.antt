use Rattle.std.proofs.Common.{rules, Some, None, lit<}
use Rattle.std.proofs.lemmas.Str.Pattern.{strip_prefix_char}
use Rattle.order_keys.proofs.Spelling.{after_x, after_minus, plain}
use Rattle.order_keys.proofs.words.read_spelling.Goals as goal

pub returns-in_err-read_pattern : goal.returns-in_err-read_pattern
returns-in_err-read_pattern c =
    let e = after_x c.args.text.now c.in-Some.digits.now (strip_prefix_char 120 c.args.text.now (Some c.in-Some.digits) c.in-Some.ensures.cases (lit< tt)) in
    search (rules, e)

pub returns-in-Some : goal.returns-in-Some
returns-in-Some c =
    let e = after_x c.args.text.now c.in-Some.digits.now (strip_prefix_char 120 c.args.text.now (Some c.in-Some.digits) c.in-Some.ensures.cases (lit< tt)) in
    search (rules, e)

pub returns-in_err-read_fraction : goal.returns-in_err-read_fraction
returns-in_err-read_fraction c =
    let e = after_minus c.args.text.now c.in-Some-strip_prefix.number.now (strip_prefix_char 45 c.args.text.now (Some c.in-Some-strip_prefix.number) c.in-Some-strip_prefix.ensures.cases (lit< tt)) in
    search (rules, e)

pub returns-in-Some-strip_prefix : goal.returns-in-Some-strip_prefix
returns-in-Some-strip_prefix c =
    let e = after_minus c.args.text.now c.in-Some-strip_prefix.number.now (strip_prefix_char 45 c.args.text.now (Some c.in-Some-strip_prefix.number) c.in-Some-strip_prefix.ensures.cases (lit< tt)) in
    search (rules, e)

pub returns-in_err-read_fraction-2 : goal.returns-in_err-read_fraction-2
returns-in_err-read_fraction-2 c =
    let e = plain c.args.text.now
    (strip_prefix_char 120 c.args.text.now None c.in_default.ensures.cases (lit< tt))
    (strip_prefix_char 45 c.args.text.now None c.in_default-strip_prefix.ensures.cases (lit< tt)) in
    search (rules, e)

pub returns : goal.returns
returns c =
    let e = plain c.args.text.now
    (strip_prefix_char 120 c.args.text.now None c.in_default.ensures.cases (lit< tt))
    (strip_prefix_char 45 c.args.text.now None c.in_default-strip_prefix.ensures.cases (lit< tt)) in
    search (rules, e)
