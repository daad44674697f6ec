use Rattle.std.proofs.Common.{◌++◌, ◌<◌, ◌∙◌, length, get_or, ap, arith}
use Rattle.std.proofs.lemmas.Option.{slice_get-get_or}
use Rattle.wkb_features.specs.Refusals.{IsFirstWithout, IsNoValue}
use Rattle.wkb_features.proofs.Spelling.{first_without, refusal_exit, values_more}
use Rattle.wkb_features.proofs.values.spell.Goals as goal

pub returns-in_err-value-clause-refused : goal.returns-in_err-value-clause-refused
returns-in_err-value-clause-refused c =
    let features = c.args.features.now in let places = c.args.places.now in let i = c.loop-i.i in
    let feature = c.index-features-i.result in let place = get_or places i 0 in
    let early : i < length features = omega (arith, c.loop-i-test.true) in
    let there : i < length places = omega (arith, c.loop-i-test.true, c.requires) in
    refusal_exit c.from_residual.result c.in_err-value.field-0.0 (IsNoValue feature place) (IsFirstWithout features places) c.from_residual.ensures.1
    (λ broken lacks. first_without features i c.loop-i.values.items c.loop-i.invariant feature early c.index-features-i.is places place broken (slice_get-get_or places i 0 there) lacks)
    c.in_err-value.ensures.refused

pub loop-i-preserved : goal.loop-i-preserved
loop-i-preserved c =
    let features = c.args.features.now in let i = c.loop-i.i in let before = c.loop-i.values.items in
    let early : i < length features = omega (arith, c.loop-i-test.true) in
    values_more features i before c.loop-i.invariant c.index-features-i.result early c.index-features-i.is c.in_ok-value.value.items c.extend_from_slice.new.self.items c.in_ok-value.ensures.value
    (c.in_ok-extend_from_slice.ensures.items ∙ ap (λ bytes. before ++ bytes) c.deref.ensures.value)
