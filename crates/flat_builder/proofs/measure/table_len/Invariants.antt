use Rattle.std.proofs.Common.{◌≡◌, ◌+◌, ◌*◌, ◌≤◌, take}
use Rattle.flat_builder.specs.Laying.{widths}
use Rattle.flat_builder.specs.Fields.{fields_of}
use Rattle.flat_builder.proofs.measure.table_len.Given as goal

abbrev pub invariant-loop-field : goal.invariant-loop-field
invariant-loop-field l = record {
  value : l.len ≡ 4 + widths (fields_of (take l.field-index l.fields));
  few : l.len ≤ 4 + 8 * l.field-index;
}
