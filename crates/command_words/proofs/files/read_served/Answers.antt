use Rattle.std.proofs.Common.{◌∙◌, ◌++◌, sym, ap, subst, Some, None}
use Rattle.command_words.specs.Words.{SpellsWithin}
use Rattle.command_words.proofs.Hosts.{splits, stripped, path_passes}
use Rattle.command_words.proofs.files.read_served.Goals as goal

pub returns-in_err-digits-clause-only : goal.returns-in_err-digits-clause-only
returns-in_err-digits-clause-only c = λ port path spells. absurd (splits c.args.text.now port path spells None c.in_err-digits.ensures.cases)

pub returns-in_err-path-clause-only : goal.returns-in_err-path-clause-only
returns-in_err-path-clause-only c = λ port path spells.
    let split = splits c.args.text.now port path spells (Some (c.in_ok-digits.digits, c.in_ok-digits.field-0-1)) c.in_ok-digits.ensures.cases in
    absurd (c.in_err-path.ensures.cases path (spells.parts ∙ ap (λ d. d ++ path) (sym split.0)))

pub returns-in_err-port-clause-only : goal.returns-in_err-port-clause-only
returns-in_err-port-clause-only c = λ port path spells.
    let split = splits c.args.text.now port path spells (Some (c.in_ok-digits.digits, c.in_ok-digits.field-0-1)) c.in_ok-digits.ensures.cases in
    absurd (c.in_err-port.ensures.only port (subst (λ d. SpellsWithin d 1 65535 port) (sym split.0) spells.spelled))

pub returns-then-not-is_path-clause-only : goal.returns-then-not-is_path-clause-only
returns-then-not-is_path-clause-only c = λ port path spells.
    let split = splits c.args.text.now port path spells (Some (c.in_ok-digits.digits, c.in_ok-digits.field-0-1)) c.in_ok-digits.ensures.cases in
    let left = stripped c.args.text.now c.in_ok-digits.digits.now path c.in_ok-path.path.now c.in_ok-path.ensures.cases (spells.parts ∙ ap (λ d. d ++ path) (sym split.0)) in
    let passes = path_passes path spells.path_is in
    let fails = c.if-not-is_path.ensures in
    absurd (cc)

pub returns-clause-only : goal.returns-clause-only
returns-clause-only c = λ port path spells.
    let split = splits c.args.text.now port path spells (Some (c.in_ok-digits.digits, c.in_ok-digits.field-0-1)) c.in_ok-digits.ensures.cases in (
      c.in_ok-port.ensures.only port (subst (λ d. SpellsWithin d 1 65535 port) (sym split.0) spells.spelled),
      stripped c.args.text.now c.in_ok-digits.digits.now path c.in_ok-path.path.now c.in_ok-path.ensures.cases (spells.parts ∙ ap (λ d. d ++ path) (sym split.0)),
    )
