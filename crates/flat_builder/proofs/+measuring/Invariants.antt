use Rattle.std.proofs.Common.{◌≡◌, ◌≤◌}
use Rattle.flat_builder.proofs.Ends.{fields_to, tables_to}
use Rattle.flat_builder.proofs.+measuring.Given as goal

abbrev pub invariant-measure::fields_end-loop-field : goal.invariant-measure::fields_end-loop-field
invariant-measure::fields_end-loop-field l = record {
  value : l.end ≡ fields_to l.fields l.start l.field-index;
  inside : l.end ≤ l.limit;
}

abbrev pub invariant-measure::tables_end-loop-inner : goal.invariant-measure::tables_end-loop-inner
invariant-measure::tables_end-loop-inner l = record {
  value : l.end ≡ tables_to l.all l.start l.inner-index;
  inside : l.end ≤ l.limit;
}
