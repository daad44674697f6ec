-- The bytes of a tree of tables (FlatBuffers, "Internals"). A place counts from the buffer's first byte, and a cursor is
-- the place from which on something is laid. Numbers are little-endian.
use Rattle.std.specs.Prelude.{ℕ, ◌+◌, ◌*◌, ◌-◌, ◌==◌, Bool, true, false, List, [], ◌∷◌, ◌++◌, length, filter, replicate, if◌then◌else◌}
use Rattle.std.specs.Int.{next_multiple_of}
use Rattle.std.specs.List.{flat_map, range_with_len}
use Rattle.byteorder.specs.Endian.{little_bytes}
use Rattle.flat_builder.specs.Trees.{Item, number, string, vector, table, tables, Fields, none, put, Tables, empty, push, entry_count, table_count}

-- the next place from p on that is a multiple of m
unfoldable pub round_up : ℕ → ℕ → ℕ
round_up m p = next_multiple_of p m

-- the zero bytes from p up to there
unfoldable pub filling : ℕ → ℕ → List ℕ
filling m p = replicate (round_up m p - p) 0

-- ---- fields in their table
-- a field: its id, its bytes, and the number that it holds, or the place that its offset leads to
pub record Slot : Type 0 where
  pub id : ℕ
  pub width : ℕ
  pub leads : Bool
  pub number : ℕ

-- the bytes of a field that stands at p: its number, or how far behind p lies what it leads to
unfoldable pub slot_bytes : ℕ → Slot → List ℕ
slot_bytes p s = little_bytes s.width (if s.leads then s.number - p else s.number)

-- the bytes of fields that stand one behind the other from p on
unfoldable pub slots_bytes : ℕ → List Slot → List ℕ
slots_bytes p [] = []
slots_bytes p (s ∷ rest) = slot_bytes p s ++ slots_bytes (p + s.width) rest

-- the fields of w bytes
unfoldable pub of_width : ℕ → List Slot → List Slot
of_width w slots = filter (λ s. s.width == w) slots

-- the order in which fields stand in their table: those of 8 bytes, of 4, of 2, of 1, by ids within a width
unfoldable pub by_width : List Slot → List Slot
by_width slots = of_width 8 slots ++ of_width 4 slots ++ of_width 2 slots ++ of_width 1 slots

-- where the field of this id stands in its table, if the first of these stands at p, or 0 where it is absent
unfoldable pub place_among : ℕ → List Slot → ℕ → ℕ
place_among p [] id = 0
place_among p (s ∷ rest) id = if s.id == id then p else place_among (p + s.width) rest id

-- ---- sizes
-- how many bytes a field has in its table: an offset has 4
unfoldable pub width_of : Item → ℕ
width_of (number w v) = w
width_of (string bytes) = 4
width_of (vector w elements) = 4
width_of (table fs) = 4
width_of (tables ts) = 4

unfoldable pub widths : Fields → ℕ
widths none = 0
widths (put before id it) = widths before + width_of it

-- the bytes of the vtable, and of the table
unfoldable pub vtable_len : Fields → ℕ
vtable_len fs = 4 + 2 * entry_count fs

unfoldable pub table_len : Fields → ℕ
table_len fs = 4 + widths fs

-- ---- places
-- where the table stands whose vtable stands at c
unfoldable pub table_place : Fields → ℕ → ℕ
table_place fs c = round_up 8 (c + vtable_len fs)

-- where that begins to which its fields lead
unfoldable pub children_place : Fields → ℕ → ℕ
children_place fs c = round_up 4 (table_place fs c + table_len fs)

-- where an item stands that is laid from c on: of a vector and a string, the count
unfoldable pub stands : Item → ℕ → ℕ
stands (number w v) c = c
stands (string bytes) c = c
stands (vector w elements) c = if w == 8 then round_up 8 c else c
stands (table fs) c = table_place fs c
stands (tables ts) c = c

-- the field that holds an item, which is laid from c on where an offset leads to it
unfoldable pub slot_of : ℕ → Item → ℕ → Slot
slot_of id (number w v) c = record { id = id; width = w; leads = false; number = v }
slot_of id (string bytes) c = record { id = id; width = 4; leads = true; number = stands (string bytes) c }
slot_of id (vector w elements) c = record { id = id; width = 4; leads = true; number = stands (vector w elements) c }
slot_of id (table fs) c = record { id = id; width = 4; leads = true; number = stands (table fs) c }
slot_of id (tables ts) c = record { id = id; width = 4; leads = true; number = stands (tables ts) c }

-- ---- bytes
-- the vtable: its size, the table's size, and for each id where the field stands in the table, or 0
unfoldable pub vtable_bytes : Fields → List Slot → List ℕ
vtable_bytes fs slots =
    little_bytes 2 (vtable_len fs) ++ little_bytes 2 (table_len fs)
    ++ flat_map (λ id. little_bytes 2 (place_among 4 slots id)) (range_with_len 0 (entry_count fs))

-- the vtable at c and the table, up to where its children begin
unfoldable pub table_bytes : Fields → List Slot → ℕ → List ℕ
table_bytes fs slots c =
    vtable_bytes fs slots ++ filling 8 (c + vtable_len fs)
    ++ little_bytes 4 (table_place fs c - c) ++ slots_bytes (table_place fs c + 4) slots
    ++ filling 4 (table_place fs c + table_len fs)

-- a string: its count, its bytes and a zero byte
unfoldable pub text_bytes : List ℕ → ℕ → List ℕ
text_bytes bytes c = little_bytes 4 (length bytes) ++ bytes ++ 0 ∷ filling 4 (c + 4 + length bytes + 1)

-- a vector whose count stands at v: its count and its elements of w bytes
unfoldable pub vector_bytes : ℕ → List ℕ → ℕ → List ℕ
vector_bytes w elements v =
    little_bytes 4 (length elements) ++ flat_map (little_bytes w) elements ++ filling 4 (v + 4 + w * length elements)

-- some fields or tables that are laid: what leads to them, and their bytes
pub record Laid : Type 0 where
  pub slots : List Slot
  pub bytes : List ℕ

-- a table with its children
unfoldable pub whole_table : Fields → Laid → ℕ → List ℕ
whole_table fs laid c = table_bytes fs (by_width laid.slots) c ++ laid.bytes

unfoldable mutual
  -- the bytes of an item from c up to the next cursor; a number stands in its table alone
  pub lay : Item → ℕ → List ℕ
  lay (number w v) c = []
  lay (string bytes) c = text_bytes bytes c
  lay (vector w elements) c =
      replicate (stands (vector w elements) c - c) 0 ++ vector_bytes w elements (stands (vector w elements) c)
  lay (table fs) c = whole_table fs (lay_fields fs (children_place fs c)) c
  lay (tables ts) c =
      let laid = lay_tables ts (c + 4 + 4 * table_count ts) in
      little_bytes 4 (table_count ts) ++ slots_bytes (c + 4) laid.slots ++ laid.bytes

  -- the fields of a table, whose children are laid from c on, by ids
  pub lay_fields : Fields → ℕ → Laid
  lay_fields none c = record { slots = []; bytes = [] }
  lay_fields (put before id it) c =
      let laid = lay_fields before c in
      let next = c + length laid.bytes in
      record { slots = laid.slots ++ slot_of id it next ∷ []; bytes = laid.bytes ++ lay it next }

  -- the tables of a vector, which are laid from c on
  pub lay_tables : Tables → ℕ → Laid
  lay_tables empty c = record { slots = []; bytes = [] }
  lay_tables (push before fs) c =
      let laid = lay_tables before c in
      let next = c + length laid.bytes in
      record {
        slots = laid.slots ++ slot_of (table_count before) (table fs) next ∷ [];
        bytes = laid.bytes ++ whole_table fs (lay_fields fs (children_place fs next)) next;
      }

-- a buffer: the place of its root table, and the table
unfoldable pub laid : Fields → List ℕ
laid fs = little_bytes 4 (table_place fs 4) ++ lay (table fs) 4
