-- What a table that is laid shows of its fields, and where what they lead to begins.
use Rattle.std.proofs.Common.{◌≡◌, ℕ, ◌+◌, ◌^◌, ◌<◌, ◌≤◌, true, false, List, [], ◌∷◌, length, refl, sym, ap, ◌∙◌, subst, arith}
use Rattle.std.proofs.lemmas.Bool.Decides.{nat_tests}
use Rattle.flat_layout.specs.Layout.{is_table, is_absent, is_field, field_place, table_size, slot}
use Rattle.flat_builder.specs.Trees.{Fields, table, entry_count}
use Rattle.flat_builder.specs.Laying.{Slot, slot_bytes, slots_bytes, by_width, place_among, widths, table_len, table_place, children_place, table_bytes, whole_table, lay, lay_fields}
use Rattle.flat_builder.specs.Blanks.{slots_len}
use Rattle.flat_builder.proofs.Lengths.{round_up_le, table_bytes_end}
use Rattle.flat_laid.specs.Lies.{has_field}
use Rattle.flat_laid.specs.Trees.{AreLayable}
use Rattle.flat_laid.proofs.Parts.{IsAt, at_front, at_rest}
use Rattle.flat_laid.proofs.Slots.{of_id, of_id-by_width, by_width-none, by_width-one, place_among-found, place_among-absent}
use Rattle.flat_laid.proofs.Vtables.{Shows, has_parts, shows}
use Rattle.flat_laid.proofs.Layables.{entries_le, widths_le, no_slot, slots_len-table, Each, Each-weaker, IsOnly, each_only}

-- the field of this slot is in the table at t, in front of the end
pub record FieldAt (b : List ℕ) (t end : ℕ) (s : Slot) : Type 0 where
  pub present : is_absent b t s.id ≡ false
  pub fits : is_field s.width b t s.id ≡ true
  pub bytes : IsAt b (field_place b t s.id) (slot_bytes (field_place b t s.id) s)
  pub before : field_place b t s.id + s.width ≤ end

field_at : (b : List ℕ) (fs : Fields) (slots : List Slot) (t end : ℕ) (s : Slot) → Shows b fs slots t → slots_len slots ≡ widths fs → t + table_len fs ≤ end
    → of_id s.id slots ≡ s ∷ [] → s.id < entry_count fs → IsAt b (t + 4) (slots_bytes (t + 4) slots) → FieldAt b t end s
unfolding table_len is_absent is_field field_place
field_at b fs slots t end s shown long behind only low own =
    let found = place_among-found b t 4 s.id slots s only own in
    let here : slot b t s.id ≡ place_among 4 slots s.id = shown.entries s.id (λ past. absurd (omega arith)) in
    let from : 4 ≤ slot b t s.id = omega (arith, found.from, here) in
    let upto : slot b t s.id + s.width ≤ table_size b t = omega (arith, found.upto, here, long, shown.long) in
    record {
      present = grind (arith, nat_tests);
      fits = grind (arith, nat_tests);
      bytes = subst (λ n. IsAt b (t + n) (slot_bytes (t + n) s)) (sym here) found.bytes;
      before = omega (arith, found.upto, here, long);
    }

absent_by : (b : List ℕ) (t id : ℕ) → slot b t id ≡ 0 → is_absent b t id ≡ true
unfolding is_absent
absent_by b t id none_there = rw none_there refl

pub children_behind : (fs : Fields) (c : ℕ) → table_place fs c + table_len fs ≤ children_place fs c
unfolding children_place
children_behind fs c = round_up_le 4 (table_place fs c + table_len fs)

-- what a reader finds in a table, whose children begin at k
pub record IsRead (b : List ℕ) (fs : Fields) (t k : ℕ) : Type 0 where
  pub inside : is_table b t ≡ true
  pub others : (id : ℕ) → has_field fs id ≡ false → is_absent b t id ≡ true
  pub each : Each (FieldAt b t k) fs k
  pub children : IsAt b k (lay_fields fs k).bytes

pub table_read : (b : List ℕ) (fs : Fields) (c : ℕ) → length b < 2 ^ 31 → AreLayable fs → IsAt b c (lay (table fs) c)
    → IsRead b fs (table_place fs c) (children_place fs c)
unfolding lay whole_table
table_read b fs c low fit h =
    let t = table_place fs c in
    let k = children_place fs c in
    let fields = lay_fields fs k in
    let slots = by_width fields.slots in
    let long : slots_len slots ≡ widths fs = slots_len-table fs k fit in
    let parts = has_parts b fs slots c long (at_front b (table_bytes fs slots c) fields.bytes c h) in
    let shown = shows b fs slots c t long low (entries_le fs fit) (widths_le fs fit) parts in
    let lost : (id : ℕ) → has_field fs id ≡ false → place_among 4 slots id ≡ 0 =
    λ id lacks. place_among-absent 4 id slots (of_id-by_width id fields.slots ∙ ap by_width (no_slot fs k id lacks) ∙ by_width-none) in
    record {
      inside = shown.inside;
      others = λ id lacks. absent_by b t id (shown.entries id (λ past. lost id lacks) ∙ lost id lacks);
      each =
          Each-weaker (IsOnly fields.slots (entry_count fs)) (FieldAt b t k) fs k
          (λ s own. field_at b fs slots t k s shown long (children_behind fs c)
          (of_id-by_width s.id fields.slots ∙ ap by_width own.only ∙ by_width-one s own.wide) own.low parts.own)
          (each_only fs k fit);
      children = at_rest b (table_bytes fs slots c) fields.bytes c k (table_bytes_end fs slots c long) h;
    }
