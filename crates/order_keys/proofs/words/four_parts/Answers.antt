use Rattle.std.proofs.Common.{arith, ap, lit<, length}
use Rattle.std.proofs.lemmas.Str.Pattern.{contains_char}
use Rattle.order_keys.proofs.Parts.{alone, cut, none_held, more_than_one}
use Rattle.order_keys.proofs.words.four_parts.Goals as goal

pub returns-in_err-min_x-clause-other : goal.returns-in_err-min_x-clause-other
returns-in_err-min_x-clause-other c =
    let one = alone c.args.text.now c.in_err-min_x.ensures.cases in
    rw (c.from_residual.ensures, one) (λ four. omega arith)

pub returns-in_err-min_y-clause-other : goal.returns-in_err-min_y-clause-other
returns-in_err-min_y-clause-other c =
    let first = cut c.args.text.now c.in_ok-min_x.min_x c.in_ok-min_x.rest c.in_ok-min_x.ensures.cases in
    let last = alone c.in_ok-min_x.rest.now c.in_err-min_y.ensures.cases in
    rw (c.from_residual-in_err-min_y.ensures, first, last) (λ four. omega arith)

pub returns-in_err-max_x-clause-other : goal.returns-in_err-max_x-clause-other
returns-in_err-max_x-clause-other c =
    let first = cut c.args.text.now c.in_ok-min_x.min_x c.in_ok-min_x.rest c.in_ok-min_x.ensures.cases in
    let second = cut c.in_ok-min_x.rest.now c.in_ok-min_y.min_y c.in_ok-min_y.rest c.in_ok-min_y.ensures.cases in
    let last = alone c.in_ok-min_y.rest.now c.in_err-max_x.ensures.cases in
    rw (c.from_residual-in_err-max_x.ensures, first, second, last) (λ four. omega arith)

pub returns-then-contains-clause-other : goal.returns-then-contains-clause-other
returns-then-contains-clause-other c = λ four.
    let first = cut c.args.text.now c.in_ok-min_x.min_x c.in_ok-min_x.rest c.in_ok-min_x.ensures.cases in
    let second = cut c.in_ok-min_x.rest.now c.in_ok-min_y.min_y c.in_ok-min_y.rest c.in_ok-min_y.ensures.cases in
    let third = cut c.in_ok-min_y.rest.now c.in_ok-max_x.max_x c.in_ok-max_x.max_y c.in_ok-max_x.ensures.cases in
    let comma = (contains_char 44 c.in_ok-max_x.max_y.now c.contains.result c.contains.ensures.cases (lit< tt)).0 c.if-contains.true in
    let more = more_than_one c.in_ok-max_x.max_y.now comma.0 comma.1 comma.2 in
    omega (arith, four, ap length first, ap length second, ap length third, more)

pub returns-else-contains-clause-four : goal.returns-else-contains-clause-four
returns-else-contains-clause-four c =
    let first = cut c.args.text.now c.in_ok-min_x.min_x c.in_ok-min_x.rest c.in_ok-min_x.ensures.cases in
    let second = cut c.in_ok-min_x.rest.now c.in_ok-min_y.min_y c.in_ok-min_y.rest c.in_ok-min_y.ensures.cases in
    let third = cut c.in_ok-min_y.rest.now c.in_ok-max_x.max_x c.in_ok-max_x.max_y c.in_ok-max_x.ensures.cases in
    let held = (contains_char 44 c.in_ok-max_x.max_y.now c.contains.result c.contains.ensures.cases (lit< tt)).1 in
    let last = none_held c.in_ok-max_x.max_y.now (λ i inside at. let is = held i inside at in let not = c.if-contains.false in cc) in
    rw (first, second, third, last)
