-- What the ids, the widths and the slots of a table that can be laid are.
use Rattle.std.proofs.Common.{◌≡◌, ◌⊎◌, ℕ, ◌+◌, ◌*◌, ◌<◌, ◌≤◌, ◌==◌, ◌||◌, Bool, true, false, List, [], ◌∷◌, ◌++◌, length, inl, inr, refl, sym, ◌∙◌, subst, arith}
use Rattle.std.specs.Bool.{⊤}
use Rattle.std.proofs.lemmas.Bool.Decides.{nat_tests}
use Rattle.std.proofs.lemmas.List.Elements.{filter-append}
use Rattle.flat_builder.specs.Trees.{Item, number, string, vector, table, tables, Fields, none, put, Tables, empty, push, entry_count, table_count}
use Rattle.flat_builder.specs.Laying.{Slot, width_of, widths, slot_of, by_width, lay_fields, lay_tables, lay}
use Rattle.flat_builder.specs.Blanks.{slots_len}
use Rattle.flat_builder.proofs.Slots.{IsWidth, eight, four, two, one, AllWidths, AllWidths-append, AllWidths-one, slots_len-append, slots_len-by_width}
use Rattle.flat_laid.specs.Lies.{has_field}
use Rattle.flat_laid.specs.Trees.{IsLayable, AreLayable}
use Rattle.flat_laid.proofs.Slots.{of_id}

width_by : (w : ℕ) → (w ≡ 1) ⊎ (w ≡ 2) ⊎ (w ≡ 4) ⊎ (w ≡ 8) → IsWidth w
width_by w (inl e) = subst IsWidth (sym e) one
width_by w (inr (inl e)) = subst IsWidth (sym e) two
width_by w (inr (inr (inl e))) = subst IsWidth (sym e) four
width_by w (inr (inr (inr e))) = subst IsWidth (sym e) eight

pub IsWidth-layable : (it : Item) → IsLayable it → IsWidth (width_of it)
unfolding width_of
IsWidth-layable (number w v) h = width_by w h.0
IsWidth-layable (string bytes) h = four
IsWidth-layable (vector w elements) h = four
IsWidth-layable (table fs) h = four
IsWidth-layable (tables ts) h = four

width_le : (w : ℕ) → IsWidth w → w ≤ 8
width_le w eight = omega arith
width_le w four = omega arith
width_le w two = omega arith
width_le w one = omega arith

-- a table has at most 1,000 entries, and no more than 8 bytes for each
pub entries_le : (fs : Fields) → AreLayable fs → entry_count fs ≤ 1000
entries_le none h = omega arith
entries_le (put before id it) h = omega (arith, h.2)

widths_grow : (fs : Fields) → AreLayable fs → widths fs ≤ 8 * entry_count fs
unfolding widths
widths_grow none h = omega arith
widths_grow (put before id it) h = omega (arith, widths_grow before h.0, h.1, width_le (width_of it) (IsWidth-layable it h.3))

pub widths_le : (fs : Fields) → AreLayable fs → widths fs ≤ 8000
widths_le fs h = omega (arith, widths_grow fs h, entries_le fs h)

-- no field has an id from the entry count on
pub no_field_past : (fs : Fields) (id : ℕ) → AreLayable fs → entry_count fs ≤ id → has_field fs id ≡ false
no_field_past none id h past = refl
no_field_past (put before other it) id h past = rw (no_field_past before id h.0 (omega (arith, h.1))) (grind (arith, nat_tests))

-- the slot of a field has its id and its width
pub slot_of_field : (id : ℕ) (it : Item) (c : ℕ) → ((slot_of id it c).id ≡ id) × ((slot_of id it c).width ≡ width_of it)
unfolding slot_of width_of
slot_of_field id (number w v) c = (refl, refl)
slot_of_field id (string bytes) c = (refl, refl)
slot_of_field id (vector w elements) c = (refl, refl)
slot_of_field id (table fs) c = (refl, refl)
slot_of_field id (tables ts) c = (refl, refl)

-- an id without a field has no slot
lost_step : (id k : ℕ) (s : Slot) (earlier : Bool) (before : List Slot) → s.id ≡ id → ((id == k) || earlier) ≡ false → (earlier ≡ false → of_id k before ≡ []) → of_id k (before ++ s ∷ []) ≡ []
lost_step id k s true before same lacks known = absurd (grind (arith, nat_tests))
lost_step id k s false before same lacks known =
    let other : (s.id == k) ≡ false = grind (arith, nat_tests) in
    filter-append (λ (r : Slot). r.id == k) before (s ∷ []) ∙ rw (known refl, other) refl

pub no_slot : (fs : Fields) (c k : ℕ) → has_field fs k ≡ false → of_id k (lay_fields fs c).slots ≡ []
unfolding lay
no_slot none c k lacks = refl
no_slot (put before id it) c k lacks =
    let next = c + length (lay_fields before c).bytes in
    lost_step id k (slot_of id it next) (has_field before k) (lay_fields before c).slots (slot_of_field id it next).0 lacks (no_slot before c k)

widths_laid : (fs : Fields) (c : ℕ) → AreLayable fs → AllWidths (lay_fields fs c).slots × (slots_len (lay_fields fs c).slots ≡ widths fs)
unfolding lay widths AllWidths
widths_laid none c h = (tt, refl)
widths_laid (put before id it) c h =
    let next = c + length (lay_fields before c).bytes in
    let s = slot_of id it next in
    let earlier = widths_laid before c h.0 in
    let wide : IsWidth s.width = subst IsWidth (sym (slot_of_field id it next).1) (IsWidth-layable it h.3) in (
      AllWidths-append (lay_fields before c).slots (s ∷ []) earlier.0 (AllWidths-one s wide),
      omega (arith, earlier.1, slots_len-append (lay_fields before c).slots (s ∷ []), (slot_of_field id it next).1),
    )

-- the bytes of the fields in their table
pub slots_len-table : (fs : Fields) (c : ℕ) → AreLayable fs → slots_len (by_width (lay_fields fs c).slots) ≡ widths fs
slots_len-table fs c h = let laid = widths_laid fs c h in slots_len-by_width (lay_fields fs c).slots laid.0 ∙ laid.1

pub slots_len-tables : (ts : Tables) (c : ℕ) → slots_len (lay_tables ts c).slots ≡ 4 * table_count ts
unfolding lay slot_of
slots_len-tables empty c = refl
slots_len-tables (push before fs) c =
    omega (arith, slots_len-tables before c, slots_len-append (lay_tables before c).slots (slot_of (table_count before) (table fs) (c + length (lay_tables before c).bytes) ∷ []))

-- ---- a fact on the slot of each field
abbrev pub Each : (Slot → Type 0) → Fields → ℕ → Type 0
Each P none c = ⊤
Each P (put before id it) c = Each P before c × P (slot_of id it (c + length (lay_fields before c).bytes))

pub Each-weaker : (P Q : Slot → Type 0) (fs : Fields) (c : ℕ) → ((s : Slot) → P s → Q s) → Each P fs c → Each Q fs c
Each-weaker P Q none c f h = tt
Each-weaker P Q (put before id it) c f h = (Each-weaker P Q before c f h.0, f _ h.1)

-- it is the only one of its id among the slots
pub record IsOnly (slots : List Slot) (count : ℕ) (s : Slot) : Type 0 where
  pub only : of_id s.id slots ≡ s ∷ []
  pub low : s.id < count
  pub wide : IsWidth s.width

only_earlier : (slots : List Slot) (count id : ℕ) (new s : Slot) → new.id ≡ id → count ≤ id → IsOnly slots count s → IsOnly (slots ++ new ∷ []) (id + 1) s
only_earlier slots count id new s same past own =
    let other : (new.id == s.id) ≡ false = grind (arith, nat_tests) in
    record {
      only = filter-append (λ (r : Slot). r.id == s.id) slots (new ∷ []) ∙ rw (own.only, other) refl;
      low = omega (arith, own.low);
      wide = own.wide;
    }

only_new : (slots : List Slot) (id : ℕ) (new : Slot) → new.id ≡ id → of_id id slots ≡ [] → IsWidth new.width → IsOnly (slots ++ new ∷ []) (id + 1) new
only_new slots id new same lacks wide =
    let own : (new.id == new.id) ≡ true = grind (arith, nat_tests) in
    record {
      only = filter-append (λ (r : Slot). r.id == new.id) slots (new ∷ []) ∙ rw (subst (λ k. of_id k slots ≡ []) (sym same) lacks, own) refl;
      low = omega arith;
      wide = wide;
    }

pub each_only : (fs : Fields) (c : ℕ) → AreLayable fs → Each (IsOnly (lay_fields fs c).slots (entry_count fs)) fs c
unfolding lay
each_only none c h = tt
each_only (put before id it) c h =
    let next = c + length (lay_fields before c).bytes in
    let slots = (lay_fields before c).slots in
    let new = slot_of id it next in (
      Each-weaker (IsOnly slots (entry_count before)) (IsOnly (slots ++ new ∷ []) (id + 1)) before c
          (λ s own. only_earlier slots (entry_count before) id new s (slot_of_field id it next).0 h.1 own) (each_only before c h.0),
      only_new slots id new (slot_of_field id it next).0 (no_slot before c id (no_field_past before id h.0 h.1))
          (subst IsWidth (sym (slot_of_field id it next).1) (IsWidth-layable it h.3)),
    )
