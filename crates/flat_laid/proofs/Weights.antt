-- What reading all of a tree weighs is no more than its bytes.
use Rattle.std.proofs.Common.{ℕ, ◌+◌, ◌-◌, ◌*◌, ◌≤◌, List, ◌∷◌, ◌++◌, length, replicate, arith, length-append}
use Rattle.std.specs.List.{flat_map}
use Rattle.byteorder.specs.Endian.{little_bytes}
use Rattle.byteorder.specs.Numbers.{length-bytes_low_first}
use Rattle.flat_builder.specs.Trees.{Item, number, string, vector, table, tables, Fields, none, put, Tables, empty, push, table_count}
use Rattle.flat_builder.specs.Laying.{Slot, filling, slots_bytes, by_width, vtable_len, table_len, table_place, children_place, stands, vtable_bytes, table_bytes, text_bytes, vector_bytes, whole_table, lay, lay_fields, lay_tables}
use Rattle.flat_builder.proofs.Slots.{length-slots_bytes}
use Rattle.flat_builder.proofs.Lengths.{length-pieces}
use Rattle.flat_laid.specs.Trees.{item_weight, fields_weight, tables_weight}
use Rattle.flat_laid.proofs.Layables.{slots_len-tables}

string_weighs : (bytes : List ℕ) (c : ℕ) → length bytes ≤ length (text_bytes bytes c)
unfolding text_bytes
string_weighs bytes c = omega (arith, length-append bytes (0 ∷ filling 4 (c + 4 + length bytes + 1)))

elements_weigh : (w : ℕ) (elements : List ℕ) (v : ℕ) → w * length elements ≤ length (vector_bytes w elements v)
unfolding vector_bytes
elements_weigh w elements v =
    let pieces = flat_map (little_bytes w) elements in
    omega (arith, length-append pieces (filling 4 (v + 4 + w * length elements)), length-pieces (little_bytes w) w (length-bytes_low_first 0 w) elements)

table_weighs : (fs : Fields) (slots : List Slot) (c : ℕ) → 4 ≤ length (table_bytes fs slots c)
unfolding table_bytes
table_weighs fs slots c =
    let t = table_place fs c in
    let front = vtable_bytes fs slots ++ filling 8 (c + vtable_len fs) in
    let distance = little_bytes 4 (t - c) in
    let own = slots_bytes (t + 4) slots in
    let rest = filling 4 (t + table_len fs) in
    omega (arith, length-append (front ++ distance ++ own) rest, length-append (front ++ distance) own, length-append front distance)

mutual
  unfolding lay whole_table

  pub item_weighs : (it : Item) (c : ℕ) → item_weight it ≤ length (lay it c)
  item_weighs (number w v) c = omega arith
  item_weighs (string bytes) c = string_weighs bytes c
  item_weighs (vector w elements) c =
      let v = stands (vector w elements) c in
      let zeros : List ℕ = replicate (v - c) 0 in
      omega (arith, length-append zeros (vector_bytes w elements v), elements_weigh w elements v)
  item_weighs (table fs) c =
      let k = children_place fs c in
      let laid = lay_fields fs k in
      let slots = by_width laid.slots in
      omega (arith, length-append (table_bytes fs slots c) laid.bytes, table_weighs fs slots c, fields_weigh fs k)
  item_weighs (tables ts) c =
      let k = c + 4 + 4 * table_count ts in
      let laid = lay_tables ts k in
      let entries = slots_bytes (c + 4) laid.slots in
      omega (arith, length-append entries laid.bytes, length-slots_bytes (c + 4) laid.slots, slots_len-tables ts k, tables_weigh ts k)

  pub fields_weigh : (fs : Fields) (c : ℕ) → fields_weight fs ≤ length (lay_fields fs c).bytes
  fields_weigh none c = omega arith
  fields_weigh (put before id it) c =
      let earlier = (lay_fields before c).bytes in
      let next = c + length earlier in
      omega (arith, length-append earlier (lay it next), fields_weigh before c, item_weighs it next)

  pub tables_weigh : (ts : Tables) (c : ℕ) → tables_weight ts ≤ length (lay_tables ts c).bytes
  tables_weigh empty c = omega arith
  tables_weigh (push before fs) c =
      let earlier = (lay_tables before c).bytes in
      let next = c + length earlier in
      let k = children_place fs next in
      let laid = lay_fields fs k in
      let slots = by_width laid.slots in
      omega (arith, length-append earlier (lay (table fs) next), length-append (table_bytes fs slots next) laid.bytes, table_weighs fs slots next, tables_weigh before c, fields_weigh fs k)
