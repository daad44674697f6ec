use Rattle.std.proofs.Common.{◌≡◌, ◌≢◌, [], length, Some, None, ap, arith, lit<}
use Rattle.std.proofs.lemmas.Bool.Decides.{nat_tests}
use Rattle.std.proofs.lemmas.Str.Pattern.{split_parts}
use Rattle.fgb_where.proofs.Splitting.{first_split, second_split, spelled}
use Rattle.fgb_where.proofs.words.read_condition.Goals as goal

pub returns-in_err-name-clause-only : goal.returns-in_err-name-clause-only
returns-in_err-name-clause-only c = λ name op value spells. absurd (first_split c.args.text.now name op value spells None c.in_err-name.ensures.cases)

pub returns-in_err-word-clause-only : goal.returns-in_err-word-clause-only
returns-in_err-word-clause-only c = λ name op value spells.
    let first = first_split c.args.text.now name op value spells (Some (c.in_ok-name.name, c.in_ok-name.rest)) c.in_ok-name.ensures.cases in
    absurd (second_split c.args.text.now name op value spells c.in_ok-name.rest.now first.1 None c.in_err-word.ensures.cases)

pub returns-in_err-op-clause-only : goal.returns-in_err-op-clause-only
returns-in_err-op-clause-only c = λ name op value spells.
    let first = first_split c.args.text.now name op value spells (Some (c.in_ok-name.name, c.in_ok-name.rest)) c.in_ok-name.ensures.cases in
    let second = second_split c.args.text.now name op value spells c.in_ok-name.rest.now first.1 (Some (c.in_ok-word.word, c.in_ok-word.value)) c.in_ok-word.ensures.cases in
    absurd (c.in_err-op.ensures.only op second.0)

pub returns-clause-some : goal.returns-clause-some
returns-clause-some c =
    let first = split_parts 58 c.args.text.now (Some (c.in_ok-name.name, c.in_ok-name.rest)) c.in_ok-name.ensures.cases (lit< tt) in
    let second = split_parts 58 c.in_ok-name.rest.now (Some (c.in_ok-word.word, c.in_ok-word.value)) c.in_ok-word.ensures.cases (lit< tt) in
    let named : c.in_ok-name.name.now ≢ [] = λ e. let none : length c.in_ok-name.name.now ≡ 0 = ap length e in grind (arith, nat_tests, c.is_empty.ensures, c.if-is_empty.false) in
    spelled c.args.text.now c.in_ok-name.name.now c.in_ok-name.rest.now c.in_ok-word.word.now c.in_ok-word.value.now c.in_ok-op.op first.0 first.1 second.0
    c.in_ok-op.ensures.some named

pub returns-clause-only : goal.returns-clause-only
returns-clause-only c = λ name op value spells.
    let first = first_split c.args.text.now name op value spells (Some (c.in_ok-name.name, c.in_ok-name.rest)) c.in_ok-name.ensures.cases in
    let second = second_split c.args.text.now name op value spells c.in_ok-name.rest.now first.1 (Some (c.in_ok-word.word, c.in_ok-word.value)) c.in_ok-word.ensures.cases in
    (first.0, c.in_ok-op.ensures.only op second.0, second.1)
