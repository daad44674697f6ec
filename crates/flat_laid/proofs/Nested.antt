-- Trees that are laid read back, by recursion down the tree.
use Rattle.std.proofs.Common.{ℕ, ◌+◌, ◌*◌, ◌^◌, ◌<◌, ◌≤◌, List, length, refl, arith}
use Rattle.flat_builder.specs.Trees.{Item, number, string, vector, table, tables, Fields, none, put, Tables, empty, push, table_count}
use Rattle.flat_builder.specs.Laying.{table_place, children_place, slot_of, lay, lay_fields}
use Rattle.flat_laid.specs.Lies.{HasField, Lies, HasFields, HasTables, lies_at}
use Rattle.flat_laid.specs.Trees.{IsLayable, AreLayable, EachLayable}
use Rattle.flat_laid.proofs.Parts.{IsAt, at_front, at_rest}
use Rattle.flat_laid.proofs.Layables.{Each}
use Rattle.flat_laid.proofs.Children.{FieldAt, table_read}
use Rattle.flat_laid.proofs.Held.{number_held, string_held, vector_held, table_held, tables_held, HasEntries, entries_laid, next_of, last_of, entry_held}

mutual
  unfolding lay

  -- an item that is laid behind the end of a table's fields
  pub item_lies : (it : Item) (b : List ℕ) (t id end next : ℕ) → length b < 2 ^ 31 → IsLayable it → end ≤ next → FieldAt b t end (slot_of id it next)
      → IsAt b next (lay it next) → HasField b it t id (Lies b it (lies_at b it t id))
  item_lies (number w v) b t id end next low fit behind f h = number_held b w v t id end next fit.1 f
  item_lies (string bytes) b t id end next low fit behind f h = string_held b bytes t id end next low behind f h
  item_lies (vector w elements) b t id end next low fit behind f h = vector_held b elements w t id end next low behind fit f h
  item_lies (table fs) b t id end next low fit behind f h =
      let r = table_read b fs next low fit h in
      let k = children_place fs next in
      table_held b fs t id end next low behind f r (fields_lie fs b (table_place fs next) k k low fit (omega arith) r.each r.children)
  item_lies (tables ts) b t id end next low fit behind f h =
      tables_held b ts t id end next low behind f h (tables_lie ts b next (next + 4 + 4 * table_count ts) low fit (entries_laid b ts next h))

  pub fields_lie : (fs : Fields) (b : List ℕ) (t end c : ℕ) → length b < 2 ^ 31 → AreLayable fs → end ≤ c → Each (FieldAt b t end) fs c
      → IsAt b c (lay_fields fs c).bytes → HasFields b fs t
  fields_lie none b t end c low fit behind each h = tt
  fields_lie (put before id it) b t end c low fit behind each h =
      let earlier = (lay_fields before c).bytes in
      let next = c + length earlier in (
        fields_lie before b t end c low fit.0 behind each.0 (at_front b earlier (lay it next) c h),
        item_lies it b t id end next low fit.3 (omega arith) each.1 (at_rest b earlier (lay it next) c next refl h),
      )

  pub tables_lie : (ts : Tables) (b : List ℕ) (v c : ℕ) → length b < 2 ^ 31 → EachLayable ts → HasEntries b ts v c → HasTables b ts v
  tables_lie empty b v c low fit h = tt
  tables_lie (push before fs) b v c low fit h =
      let l = last_of b before fs v c h in
      let next = next_of before c in
      let r = table_read b fs next low fit.1 l.last in
      let k = children_place fs next in
      let e = entry_held b before fs v c low l r (fields_lie fs b (table_place fs next) k k low fit.1 (omega arith) r.each r.children) in
      (tables_lie before b v c low fit.0 l.earlier, e.0, e.1)
