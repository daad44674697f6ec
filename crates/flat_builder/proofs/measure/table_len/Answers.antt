use Rattle.std.proofs.Common.{ap, arith}
use Rattle.std.proofs.lemmas.List.{take_all}
use Rattle.flat_builder.specs.Laying.{widths, table_len, width_of}
use Rattle.flat_builder.specs.Fields.{fields_of, item_of}
use Rattle.flat_builder.proofs.Chains.{fields_more, length_le-entry_count, entry_count_le}
use Rattle.flat_builder.proofs.measure.table_len.Goals as goal

pub loop-field-init : goal.loop-field-init
unfolding widths
loop-field-init c = record { value = omega arith; few = omega arith }

pub loop-field-preserved : goal.loop-field-preserved
unfolding widths
loop-field-preserved c =
    let fs = c.args.fields.now in
    let i = c.loop-field.field-index in
    let more = ap widths (fields_more fs i c.field-item.result c.loop-field-test.true) in
    let this = ap (λ f. width_of (item_of f.value)) c.field-item.is in
    record { value = omega (arith, more, this); few = omega arith }

pub returns-clause-value : goal.returns-clause-value
unfolding table_len
returns-clause-value c =
    omega (arith, ap (λ fs. widths (fields_of fs)) (take_all c.loop-field.field-index c.args.fields.now (omega arith)))

pub returns-clause-few : goal.returns-clause-few
returns-clause-few c =
    omega (arith, length_le-entry_count c.args.fields.now c.requires, entry_count_le (fields_of c.args.fields.now) c.requires)
