-- A table before what its offsets lead to is laid, and the parts of its fields.
use Rattle.std.specs.Prelude.{◌≡◌, ◌≢◌, ℕ, ◌+◌, ◌<◌, ◌≤◌, ⊤, true, false, List, [], ◌∷◌, ◌++◌, length, get_or, map, Option, Some, None, MatchOption}
use Rattle.std.specs.List.{flat_map, range_with_len}
use Rattle.byteorder.specs.Endian.{little_bytes}
use Rattle.flat_builder.specs.declared.table.Field.{Field}
use Rattle.flat_builder.specs.declared.value.FlatVector.{FlatVector}
use Rattle.flat_builder.specs.declared.value.FlatVector.TheVariants.{Bytes, Words, Longs}
use Rattle.flat_builder.specs.Trees.{Item, number, string, vector, table, tables}
use Rattle.flat_builder.specs.Laying.{Slot, place_among, slot_of, slots_bytes, width_of}
use Rattle.flat_builder.specs.Fields.{item_of}

-- a vector's elements, and the bytes of each
abbrev pub elements_in : FlatVector → List ℕ
elements_in (Bytes v) = v.items
elements_in (Words v) = v.items
elements_in (Longs v) = v.items

abbrev pub width_in : FlatVector → ℕ
width_in (Bytes v) = 1
width_in (Words v) = 4
width_in (Longs v) = 8

-- what a field holds before an offset stands in it
abbrev pub held : Item → ℕ
held (number w v) = v
held (string bytes) = 0
held (vector w elements) = 0
held (table fs) = 0
held (tables ts) = 0

abbrev pub blank_of : ℕ → Item → Slot
blank_of id it = record { id = id; width = width_of it; leads = false; number = held it }

abbrev pub blank : Field → Slot
blank f = blank_of f.id (item_of f.value)

abbrev pub blanks : List Field → List Slot
blanks fs = map blank fs

-- the entries of a vtable for the ids below this one, where these fields stand in the table
unfoldable pub entries : ℕ → List Slot → List ℕ
entries count slots = flat_map (λ id. little_bytes 2 (place_among 4 slots id)) (range_with_len 0 count)

-- the bytes of some fields together
abbrev pub slots_len : List Slot → ℕ
slots_len [] = 0
slots_len (s ∷ rest) = s.width + slots_len rest

-- a call gives the end, if it is not behind the limit
abbrev pub EndsAt : ℕ → ℕ → Option ℕ → Type 0
EndsAt limit end result = MatchOption result (limit < end) (λ e. (e ≡ end) × (e ≤ limit))

-- a vtable's entries and its table, from the front on: so many entries, what lies between, and the fields from p on
unfoldable pub begun : List ℕ → ℕ → List ℕ → ℕ → List Slot → List ℕ
begun front count middle p slots = front ++ entries count slots ++ middle ++ slots_bytes p slots

-- no field of this id is among these
abbrev pub Lacks : ℕ → List Slot → Type 0
Lacks id [] = ⊤
Lacks id (s ∷ rest) = (s.id ≢ id) × Lacks id rest

-- no field of this width is among those that are laid
abbrev pub IsFresh : ℕ → List Field → List Slot → Type 0
IsFresh w fs slots = (i : ℕ) (d : Field) → i < length fs → (blank (get_or fs i d)).width ≡ w → Lacks (get_or fs i d).id slots

-- where an offset leads to an item that is laid from c on, and that a number has none
abbrev pub LeadsTo : Item → ℕ → Option ℕ → Type 0
LeadsTo it c None = slot_of 0 it c ≡ blank_of 0 it
LeadsTo it c (Some p) = (width_of it ≡ 4) × (slot_of 0 it c ≡ record { id = 0; width = 4; leads = true; number = p }) × (c ≤ p)
