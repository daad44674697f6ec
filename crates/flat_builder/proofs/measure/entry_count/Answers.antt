use Rattle.std.proofs.Common.{◌≡◌, ◌+◌, ◌-◌, ◌≤◌, List, length, Some, slice_get, sym, ap, arith}
use Rattle.std.proofs.lemmas.Option.{get_or_from_slice_get, slice_get_within}
use Rattle.flat_builder.specs.declared.table.Field.{Field}
use Rattle.flat_builder.specs.Trees.{none, IsAscending}
use Rattle.flat_builder.specs.Fields.{fields_of}
use Rattle.flat_builder.proofs.Chains.{last_from, entry_count_le}
use Rattle.flat_builder.proofs.measure.entry_count.Goals as goal

-- the last id is below 1,000
last_below : (fs : List Field) (f : Field) → slice_get fs (length fs - 1) ≡ Some f → IsAscending (fields_of fs) → f.id + 1 ≤ 1000
last_below fs f is ascends =
    let i = length fs - 1 in
    omega (arith, last_from fs none i f (omega (arith, slice_get_within fs i f is)), ap (λ (x : Field). x.id) (get_or_from_slice_get fs i f f is), entry_count_le (fields_of fs) ascends)

pub overflow_add-result : goal.overflow_add-result
overflow_add-result c =
    omega (arith, last_below c.args.fields.now c.in-Some.field.now (sym c.in-Some.ensures.value) c.requires)

pub returns-in-Some-clause-few : goal.returns-in-Some-clause-few
returns-in-Some-clause-few c =
    omega (arith, last_below c.args.fields.now c.in-Some.field.now (sym c.in-Some.ensures.value) c.requires)
