use Rattle.std.proofs.Common.{true, false, sym, nat_eq}
use Rattle.std.specs.List.{starts_with}
use Rattle.std.proofs.lemmas.Str.Pattern.{starts_text}
use Rattle.command_words.proofs.Finding.{any_at, any_more}
use Rattle.command_words.proofs.given.is_option.Goals as goal

pub returns-then-starts_with : goal.returns-then-starts_with
returns-then-starts_with c =
    let word = c.args.word.now in
    sym (any_at (starts_with nat_eq word) c.args.names.now c.loop-name.name-index _ c.loop-name-test.true (sym (starts_text true _ word c.if-starts_with.ensures.cases)))

pub loop-name-preserved : goal.loop-name-preserved
loop-name-preserved c =
    let word = c.args.word.now in
    any_more (starts_with nat_eq word) c.args.names.now c.loop-name.name-index _ c.loop-name-test.true (sym (starts_text false _ word c.if-starts_with.ensures.cases)) c.loop-name.invariant
