use Rattle.std.proofs.Common.{◌∙◌, codes, true, sym, ap, subst}
use Rattle.std.proofs.lemmas.Str.Pattern.{starts_text}
use Rattle.command_words.specs.Words.{SpellsServed, file_served}
use Rattle.command_words.proofs.Hosts.{Hosts, hosts, stripped}
use Rattle.command_words.proofs.files.read_file.Goals as goal

pub returns-in_err-strip_prefix-clause-only : goal.returns-in_err-strip_prefix-clause-only
returns-in_err-strip_prefix-clause-only c = λ input names.
    let word = c.args.word.now in
    let host : Hosts word input = hosts word (sym (starts_text true (codes "http://") word c.if-not-starts_with.ensures.cases)) input names in
    absurd (c.in_err-strip_prefix.ensures.cases host.text host.word_is)

pub returns-in_err-port-clause-only : goal.returns-in_err-port-clause-only
returns-in_err-port-clause-only c = λ input names.
    let word = c.args.word.now in
    let host : Hosts word input = hosts word (sym (starts_text true (codes "http://") word c.if-not-starts_with.ensures.cases)) input names in
    let left = stripped word (codes "http://127.0.0.1:") host.text c.in_ok-strip_prefix.field-0.now c.in_ok-strip_prefix.ensures.cases host.word_is in
    absurd (c.in_err-port.ensures.only host.port host.path (subst (λ t. SpellsServed t host.port host.path) (sym left) host.spells))

pub returns-clause-only : goal.returns-clause-only
returns-clause-only c = λ input names.
    let word = c.args.word.now in
    let host : Hosts word input = hosts word (sym (starts_text true (codes "http://") word c.if-not-starts_with.ensures.cases)) input names in
    let left = stripped word (codes "http://127.0.0.1:") host.text c.in_ok-strip_prefix.field-0.now c.in_ok-strip_prefix.ensures.cases host.word_is in
    let same = c.in_ok-port.ensures.only host.port host.path (subst (λ t. SpellsServed t host.port host.path) (sym left) host.spells) in
    ap (λ p. file_served p c.in_ok-port.path.now) same.0 ∙ (ap (file_served host.port) same.1 ∙ host.input_is)
