use Rattle.std.proofs.Common.{◌≡◌, ℕ, ◌+◌, ◌*◌, ◌≤◌, ◌++◌, List, length, take}
use Rattle.flat_builder.specs.Trees.{entry_count}
use Rattle.flat_builder.specs.Laying.{Slot, of_width}
use Rattle.flat_builder.specs.Fields.{fields_of}
use Rattle.flat_builder.specs.Blanks.{IsFresh, begun, blanks}
use Rattle.flat_builder.proofs.lay.lay_width.Given as goal

abbrev pub invariant-loop-field : goal.invariant-loop-field
invariant-loop-field l = record {
  grown : length l.initial.out.items ≤ length l.out.items;
  laid : (front middle : List ℕ) (before : List Slot) → length front ≡ l.vtable + 4
      → length front + 2 * entry_count (fields_of l.fields) + length middle ≡ l.table + 4 → IsFresh l.width l.fields before
      → l.initial.out.items ≡ begun front (entry_count (fields_of l.fields)) middle (l.table + 4) before
      → l.out.items ≡ begun front (entry_count (fields_of l.fields)) middle (l.table + 4) (before ++ of_width l.width (blanks (take l.field-index l.fields)));
}
