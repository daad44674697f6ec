use Rattle.std.proofs.Common.{◌-◌, ◌≤◌, length, take}
use Rattle.wkb_grammar.specs.Wkb.{most_bytes}
use Rattle.wkb_file.specs.Values.{ValuesOf}
use Rattle.wkb_file.proofs.read.values_in.Given as goal

abbrev pub invariant-loop-at : goal.invariant-loop-at
invariant-loop-at l = record {
  within : l.at ≤ length l.bytes;
  small : length l.bytes ≤ most_bytes;
  values : ValuesOf l.shapes.items (take l.at l.bytes);
}

abbrev pub decreases-loop-at : goal.decreases-loop-at
decreases-loop-at l = length l.bytes - l.at
