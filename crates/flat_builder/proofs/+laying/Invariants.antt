use Rattle.std.proofs.Common.{◌≡◌, ℕ, ◌+◌, ◌*◌, ◌-◌, ◌++◌, List, length, replicate, take, drop}
use Rattle.flat_builder.specs.Laying.{lay_fields, lay_tables, of_width, slots_bytes}
use Rattle.flat_builder.specs.Fields.{fields_of}
use Rattle.flat_builder.specs.Shown.{tables_of}
use Rattle.flat_builder.specs.Blanks.{blanks, slots_len}
use Rattle.flat_builder.proofs.Ends.{fields_to, tables_to}
use Rattle.flat_builder.proofs.+laying.Given as goal

abbrev pub invariant-lay::lay_children-loop-field : goal.invariant-lay::lay_children-loop-field
invariant-lay::lay_children-loop-field l = record {
  place : l.place ≡ l.fours + slots_len (of_width 4 (blanks (take l.field-index l.fields)));
  reached : length l.out.items ≡ fields_to l.fields (length l.initial.out.items) l.field-index;
  laid : (front rest : List ℕ) → length front ≡ l.fours → l.initial.out.items ≡ front ++ slots_bytes l.fours (of_width 4 (blanks l.fields)) ++ rest
      → l.out.items ≡ front ++ slots_bytes l.fours (of_width 4 ((lay_fields (fields_of (take l.field-index l.fields)) (length l.initial.out.items)).slots ++ blanks (drop l.field-index l.fields)))
      ++ rest ++ (lay_fields (fields_of (take l.field-index l.fields)) (length l.initial.out.items)).bytes;
}

abbrev pub invariant-lay::lay_each-loop-inner : goal.invariant-lay::lay_each-loop-inner
invariant-lay::lay_each-loop-inner l = record {
  place : l.place ≡ l.offsets + 4 * l.inner-index;
  reached : length l.out.items ≡ tables_to l.all (length l.initial.out.items) l.inner-index;
  laid : (front : List ℕ) → length front ≡ l.offsets → l.initial.out.items ≡ front ++ replicate (4 * length l.all) 0
      → l.out.items ≡ front ++ slots_bytes l.offsets (lay_tables (tables_of (take l.inner-index l.all)) (length l.initial.out.items)).slots
      ++ replicate (4 * (length l.all - l.inner-index)) 0 ++ (lay_tables (tables_of (take l.inner-index l.all)) (length l.initial.out.items)).bytes;
}
