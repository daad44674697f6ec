use Rattle.std.proofs.Common.{◌∙◌, ℕ, List, [], ◌∷◌, sym, ap}
use Rattle.std.specs.Option.{option_map}
use Rattle.httparse.specs.Spans.{header_bytes}
use Rattle.http1.specs.Text.{eq_ignore_case}
use Rattle.request_head.proofs.Passed.{found_now, found_still, found_twice, some_seen}
use Rattle.response_head.proofs.fields.only_value.Goals as goal

pub returns-then-is_some : goal.returns-then-is_some
returns-then-is_some c =
    found_twice c.args.name.now (header_bytes c.args.head.now) c.args.fields.now c.loop-field.field-index _
    (option_map (λ value. value.now) c.loop-field.found) c.loop-field-test.true c.loop-field.invariant
    (some_seen c.loop-field.found ∙ sym c.if-is_some.ensures)
    (sym (c.if-not-eq_ignore_case.ensures ∙ ap (λ (t : List ℕ). eq_ignore_case t c.args.name.now) c.of.ensures))

pub loop-field-preserved : goal.loop-field-preserved
loop-field-preserved c =
    ap (λ (v : List ℕ). v ∷ []) c.of-in-loop-field.ensures
    ∙ found_now c.args.name.now (header_bytes c.args.head.now) c.args.fields.now c.loop-field.field-index _
    (option_map (λ value. value.now) c.loop-field.found) c.loop-field-test.true c.loop-field.invariant
    (some_seen c.loop-field.found ∙ sym c.if-is_some.ensures)
    (sym (c.if-not-eq_ignore_case.ensures ∙ ap (λ (t : List ℕ). eq_ignore_case t c.args.name.now) c.of.ensures))

pub loop-field-preserved-then-not-eq_ignore_case : goal.loop-field-preserved-then-not-eq_ignore_case
loop-field-preserved-then-not-eq_ignore_case c =
    found_still c.args.name.now (header_bytes c.args.head.now) c.args.fields.now c.loop-field.field-index _
    (option_map (λ value. value.now) c.loop-field.found) c.loop-field-test.true c.loop-field.invariant
    (sym (c.if-not-eq_ignore_case.ensures ∙ ap (λ (t : List ℕ). eq_ignore_case t c.args.name.now) c.of.ensures))
