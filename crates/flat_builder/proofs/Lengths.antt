-- Where what is laid ends.
use Rattle.std.proofs.Common.{◌≡◌, ℕ, ◌+◌, ◌*◌, ◌-◌, ◌≤◌, List, [], ◌∷◌, ◌++◌, length, replicate, refl, sym, ap, ◌∙◌, subst, add_assoc, arith, length-append}
use Rattle.std.specs.Bool.{⊤}
use Rattle.std.proofs.lemmas.List.{length-replicate}
use Rattle.std.proofs.lemmas.List.FromFn.{length-range_with_len}
use Rattle.std.specs.List.{flat_map, range_with_len}
use Rattle.byteorder.specs.Endian.{little_bytes}
use Rattle.byteorder.specs.Numbers.{length-bytes_low_first}
use Rattle.flat_builder.specs.Trees.{Item, number, string, vector, table, tables, Fields, none, put, Tables, empty, push, entry_count, table_count}
use Rattle.flat_builder.specs.Laying.{Slot, round_up, filling, slots_bytes, by_width, place_among, width_of, widths, vtable_len, table_len, table_place, children_place, stands, slot_of, vtable_bytes, table_bytes, text_bytes, vector_bytes, whole_table, lay, lay_fields, lay_tables, laid}
use Rattle.flat_builder.specs.Blanks.{slots_len}
use Rattle.flat_builder.proofs.Slots.{slots_len-append, length-slots_bytes, IsWidth, AllWidths, AllWidths-append, AllWidths-one, slots_len-by_width}

pub round_up_le : (m p : ℕ) → p ≤ round_up m p
unfolding round_up
round_up_le m p = omega arith

pub length-filling : (m p : ℕ) → p + length (filling m p) ≡ round_up m p
unfolding filling
length-filling m p = omega (arith, length-replicate {A = ℕ} (round_up m p - p) 0, round_up_le m p)

pub length-pieces : (f : ℕ → List ℕ) (w : ℕ) → ((x : ℕ) → length (f x) ≡ w) → (xs : List ℕ) → length (flat_map f xs) ≡ w * length xs
length-pieces f w each [] = omega arith
length-pieces f w each (x ∷ xs) = omega (arith, length-append (f x) (flat_map f xs), each x, length-pieces f w each xs)

pub stands_le : (it : Item) (c : ℕ) → c ≤ stands it c
unfolding stands table_place
stands_le (number w v) c = omega arith
stands_le (string bytes) c = omega arith
stands_le (vector w elements) c = grind (arith, round_up_le)
stands_le (table fs) c = omega (arith, round_up_le 8 (c + vtable_len fs))
stands_le (tables ts) c = omega arith

pub string_end : (bytes : List ℕ) (c : ℕ) → c + length (lay (string bytes) c) ≡ round_up 4 (c + 5 + 1 * length bytes)
unfolding lay text_bytes
string_end bytes c =
    let at : c + 4 + length bytes + 1 ≡ c + 5 + 1 * length bytes = omega arith in
    omega (arith, length-append bytes (0 ∷ filling 4 (c + 4 + length bytes + 1)), length-filling 4 (c + 4 + length bytes + 1), ap (round_up 4) at)

pub vector_end : (w : ℕ) (elements : List ℕ) (c : ℕ) → c + length (lay (vector w elements) c) ≡ round_up 4 (stands (vector w elements) c + 4 + w * length elements)
unfolding lay vector_bytes
vector_end w elements c =
    let v = stands (vector w elements) c in
    let pieces = flat_map (little_bytes w) elements in
    omega (
      arith,
      stands_le (vector w elements) c,
      length-replicate {A = ℕ} (v - c) 0,
      length-append (replicate (v - c) 0) (vector_bytes w elements v),
      length-append pieces (filling 4 (v + 4 + w * length elements)),
      length-pieces (little_bytes w) w (length-bytes_low_first 0 w) elements,
      length-filling 4 (v + 4 + w * length elements),
    )

pub length-vtable_bytes : (fs : Fields) (slots : List Slot) → length (vtable_bytes fs slots) ≡ vtable_len fs
unfolding vtable_bytes vtable_len
length-vtable_bytes fs slots =
    omega (arith, length-pieces (λ id. little_bytes 2 (place_among 4 slots id)) 2 (λ id. refl) (range_with_len 0 (entry_count fs)), length-range_with_len 0 (entry_count fs))

-- the table ends where its children begin
pub table_bytes_end : (fs : Fields) (slots : List Slot) (c : ℕ) → slots_len slots ≡ widths fs → c + length (table_bytes fs slots c) ≡ children_place fs c
unfolding table_bytes table_place children_place table_len
table_bytes_end fs slots c same =
    let vtable = vtable_bytes fs slots in
    let front = filling 8 (c + vtable_len fs) in
    let t = table_place fs c in
    let distance = little_bytes 4 (t - c) in
    let own = slots_bytes (t + 4) slots in
    let behind = filling 4 (t + table_len fs) in
    omega (
      arith,
      same,
      length-append (vtable ++ front ++ distance ++ own) behind,
      length-append (vtable ++ front ++ distance) own,
      length-append (vtable ++ front) distance,
      length-append vtable front,
      length-vtable_bytes fs slots,
      length-filling 8 (c + vtable_len fs),
      length-bytes_low_first 0 4 (t - c),
      length-slots_bytes (t + 4) slots,
      length-filling 4 (t + table_len fs),
    )

pub width-slot_of : (id : ℕ) (it : Item) (c : ℕ) → (slot_of id it c).width ≡ width_of it
unfolding slot_of width_of
width-slot_of id (number w v) c = refl
width-slot_of id (string bytes) c = refl
width-slot_of id (vector w elements) c = refl
width-slot_of id (table fs) c = refl
width-slot_of id (tables ts) c = refl

slots_len-lay_fields : (fs : Fields) (c : ℕ) → slots_len (lay_fields fs c).slots ≡ widths fs
unfolding lay widths
slots_len-lay_fields none c = refl
slots_len-lay_fields (put before id it) c =
    let next = c + length (lay_fields before c).bytes in
    omega (arith, slots_len-lay_fields before c, slots_len-append (lay_fields before c).slots (slot_of id it next ∷ []), width-slot_of id it next)

-- each field has 8, 4, 2 or 1 bytes
unfoldable pub HasWidths : Fields → Type 0
HasWidths none = ⊤
HasWidths (put before id it) = HasWidths before × IsWidth (width_of it)

AllWidths-lay_fields : (fs : Fields) (c : ℕ) → HasWidths fs → AllWidths (lay_fields fs c).slots
unfolding lay HasWidths AllWidths
AllWidths-lay_fields none c h = tt
AllWidths-lay_fields (put before id it) c h =
    let next = c + length (lay_fields before c).bytes in
    AllWidths-append (lay_fields before c).slots (slot_of id it next ∷ []) (AllWidths-lay_fields before c h.0)
    (AllWidths-one (slot_of id it next) (subst IsWidth (sym (width-slot_of id it next)) h.1))

-- where the table at c and all that it leads to end
pub table_end : (fs : Fields) (c : ℕ) → HasWidths fs → c + length (lay (table fs) c) ≡ children_place fs c + length (lay_fields fs (children_place fs c)).bytes
unfolding lay whole_table
table_end fs c h =
    let laid = lay_fields fs (children_place fs c) in
    omega (
      arith,
      length-append (table_bytes fs (by_width laid.slots) c) laid.bytes,
      table_bytes_end fs (by_width laid.slots) c (slots_len-by_width laid.slots (AllWidths-lay_fields fs (children_place fs c) h) ∙ slots_len-lay_fields fs (children_place fs c)),
    )

-- what one more field leads to ends where it ends
pub fields_end : (before : Fields) (id : ℕ) (it : Item) (c next : ℕ) → next ≡ c + length (lay_fields before c).bytes → c + length (lay_fields (put before id it) c).bytes ≡ next + length (lay it next)
unfolding lay
fields_end before id it c next here =
    ap (λ n. c + n) (length-append (lay_fields before c).bytes (lay it (c + length (lay_fields before c).bytes)))
    ∙ sym (add_assoc c (length (lay_fields before c).bytes) _)
    ∙ ap (λ n. n + length (lay it n)) (sym here)

pub slots_len-lay_tables : (ts : Tables) (c : ℕ) → slots_len (lay_tables ts c).slots ≡ 4 * table_count ts
unfolding lay slot_of
slots_len-lay_tables empty c = refl
slots_len-lay_tables (push before fs) c =
    omega (arith, slots_len-lay_tables before c, slots_len-append (lay_tables before c).slots (slot_of (table_count before) (table fs) (c + length (lay_tables before c).bytes) ∷ []))

pub tables_end : (ts : Tables) (c : ℕ) → c + length (lay (tables ts) c) ≡ c + 4 + 4 * table_count ts + length (lay_tables ts (c + 4 + 4 * table_count ts)).bytes
unfolding lay
tables_end ts c =
    let laid = lay_tables ts (c + 4 + 4 * table_count ts) in
    omega (arith, length-append (slots_bytes (c + 4) laid.slots) laid.bytes, length-slots_bytes (c + 4) laid.slots, slots_len-lay_tables ts (c + 4 + 4 * table_count ts))

pub push_end : (before : Tables) (fs : Fields) (c next : ℕ) → next ≡ c + length (lay_tables before c).bytes → c + length (lay_tables (push before fs) c).bytes ≡ next + length (lay (table fs) next)
unfolding lay
push_end before fs c next here =
    let add = λ (n : ℕ). lay (table fs) n in
    ap (λ n. c + n) (length-append (lay_tables before c).bytes (add (c + length (lay_tables before c).bytes)))
    ∙ sym (add_assoc c (length (lay_tables before c).bytes) _)
    ∙ ap (λ n. n + length (add n)) (sym here)

-- the four bytes of the root's place come first
pub laid_end : (fs : Fields) (n : ℕ) → n ≡ 4 → n + length (lay (table fs) n) ≡ length (laid fs)
unfolding laid
laid_end fs n is = ap (λ m. m + length (lay (table fs) m)) is ∙ omega arith
