-- What a vtable and a table that are laid show.
use Rattle.std.proofs.Common.{◌≡◌, ℕ, ◌+◌, ◌-◌, ◌*◌, ◌^◌, ◌<◌, ◌≤◌, true, List, ◌++◌, length, refl, sym, ap, ◌∙◌, inl, inr, arith, length-append}
use Rattle.std.specs.List.{flat_map, range_with_len}
use Rattle.std.proofs.lemmas.List.FromFn.{length-range_with_len}
use Rattle.std.proofs.lemmas.Bool.{cases_lt}
use Rattle.std.proofs.lemmas.Bool.Decides.{nat_tests}
use Rattle.byteorder.specs.Endian.{little_bytes}
use Rattle.byteorder.specs.Numbers.{length-bytes_low_first}
use Rattle.flat_layout.specs.Layout.{number_at, vtable_place, is_vtable_inside, vtable_size, table_size, is_table, entry, slot}
use Rattle.flat_builder.specs.Trees.{Fields, entry_count}
use Rattle.flat_builder.specs.Laying.{Slot, filling, slots_bytes, place_among, widths, vtable_len, table_len, table_place, vtable_bytes, table_bytes}
use Rattle.flat_builder.specs.Blanks.{slots_len}
use Rattle.flat_builder.proofs.Slots.{length-slots_bytes}
use Rattle.flat_builder.proofs.Lengths.{length-filling, length-pieces}
use Rattle.flat_laid.proofs.Parts.{IsAt, at_front, at_rest, number_is, nth_at}
use Rattle.flat_laid.proofs.Slots.{place_among_le}

-- the parts of a table at t whose vtable stands at c
pub record HasParts (b : List ℕ) (fs : Fields) (slots : List Slot) (c t : ℕ) : Type 0 where
  pub vtable : IsAt b c (vtable_bytes fs slots)
  pub distance : IsAt b t (little_bytes 4 (t - c))
  pub own : IsAt b (t + 4) (slots_bytes (t + 4) slots)
  pub back : c + vtable_len fs ≤ t
  pub inside : t + table_len fs ≤ length b

length-vtable_bytes : (fs : Fields) (slots : List Slot) → length (vtable_bytes fs slots) ≡ vtable_len fs
unfolding vtable_bytes vtable_len
length-vtable_bytes fs slots =
    omega (arith, length-pieces (λ id. little_bytes 2 (place_among 4 slots id)) 2 (λ id. refl) (range_with_len 0 (entry_count fs)), length-range_with_len 0 (entry_count fs))

pub has_parts : (b : List ℕ) (fs : Fields) (slots : List Slot) (c : ℕ) → slots_len slots ≡ widths fs
    → IsAt b c (table_bytes fs slots c) → HasParts b fs slots c (table_place fs c)
unfolding table_bytes table_place table_len
has_parts b fs slots c long h =
    let t = table_place fs c in
    let vtable = vtable_bytes fs slots in
    let gap = filling 8 (c + vtable_len fs) in
    let distance = little_bytes 4 (t - c) in
    let own = slots_bytes (t + 4) slots in
    let rest = filling 4 (t + table_len fs) in
    let with_own = at_front b (vtable ++ gap ++ distance ++ own) rest c h in
    let with_distance = at_front b (vtable ++ gap ++ distance) own c with_own in
    let here : c + length (vtable ++ gap) ≡ t = omega (arith, length-append vtable gap, length-vtable_bytes fs slots, length-filling 8 (c + vtable_len fs)) in
    let next : c + length (vtable ++ gap ++ distance) ≡ t + 4 = omega (arith, here, length-append (vtable ++ gap) distance, length-bytes_low_first 0 4 (t - c)) in
    let fields = at_rest b (vtable ++ gap ++ distance) own c (t + 4) next with_own in
    record {
      vtable = at_front b vtable gap c (at_front b (vtable ++ gap) distance c with_distance);
      distance = at_rest b (vtable ++ gap) distance c t here with_distance;
      own = fields;
      back = omega (arith, here, length-append vtable gap, length-vtable_bytes fs slots);
      inside = omega (arith, fields.inside, length-slots_bytes (t + 4) slots, long);
    }

place_by : (b : List ℕ) (t c : ℕ) → number_at 4 b t ≡ t - c → c ≤ t → t < 2 ^ 31 → vtable_place b t ≡ c
unfolding vtable_place
place_by b t c distance back low = grind (arith, nat_tests)

table_by : (b : List ℕ) (t c n m : ℕ) → number_at 4 b t ≡ t - c → vtable_place b t ≡ c → vtable_size b t ≡ 4 + 2 * n → table_size b t ≡ 4 + m
    → c + (4 + 2 * n) ≤ length b → t + (4 + m) ≤ length b → is_table b t ≡ true
unfolding is_table is_vtable_inside
table_by b t c n m distance place small big short long = grind (arith, nat_tests)

slot_inside : (b : List ℕ) (t c n id k : ℕ) → vtable_place b t ≡ c → vtable_size b t ≡ 4 + 2 * n → id < n → number_at 2 b (c + 4 + 2 * id) ≡ k → slot b t id ≡ k
unfolding slot entry
slot_inside b t c n id k place small low here = rw (small, place) (grind (arith, nat_tests))

slot_past : (b : List ℕ) (t n id : ℕ) → vtable_size b t ≡ 4 + 2 * n → n ≤ id → slot b t id ≡ 0
unfolding slot
slot_past b t n id small past = grind (arith, nat_tests)

-- the numbers that a reader takes from them
pub record Shows (b : List ℕ) (fs : Fields) (slots : List Slot) (t : ℕ) : Type 0 where
  pub inside : is_table b t ≡ true
  pub long : table_size b t ≡ table_len fs
  pub entries : (id : ℕ) → (entry_count fs ≤ id → place_among 4 slots id ≡ 0) → slot b t id ≡ place_among 4 slots id

pub shows : (b : List ℕ) (fs : Fields) (slots : List Slot) (c t : ℕ) → slots_len slots ≡ widths fs → length b < 2 ^ 31 → entry_count fs ≤ 1000 → widths fs ≤ 8000
    → HasParts b fs slots c t → Shows b fs slots t
unfolding vtable_bytes vtable_len table_len vtable_size table_size
shows b fs slots c t long low few short h =
    let n = entry_count fs in
    let sizes = little_bytes 2 (4 + 2 * n) ++ little_bytes 2 (4 + widths fs) in
    let entries = flat_map (λ id. little_bytes 2 (place_among 4 slots id)) (range_with_len 0 n) in
    let both = at_front b sizes entries c h.vtable in
    let distance : number_at 4 b t ≡ t - c = number_is 4 b t (t - c) h.distance (omega (arith, h.inside)) in
    let place : vtable_place b t ≡ c = place_by b t c distance (omega (arith, h.back)) (omega (arith, h.inside)) in
    let first : number_at 2 b c ≡ 4 + 2 * n = number_is 2 b c (4 + 2 * n) (at_front b (little_bytes 2 (4 + 2 * n)) (little_bytes 2 (4 + widths fs)) c both) (omega arith) in
    let second : number_at 2 b (c + 2) ≡ 4 + widths fs =
    number_is 2 b (c + 2) (4 + widths fs) (at_rest b (little_bytes 2 (4 + 2 * n)) (little_bytes 2 (4 + widths fs)) c (c + 2) (omega arith) both) (omega arith) in
    let small : vtable_size b t ≡ 4 + 2 * n = ap (number_at 2 b) place ∙ first in
    let big : table_size b t ≡ 4 + widths fs = ap (λ p. number_at 2 b (p + 2)) place ∙ second in
    let rest = at_rest b sizes entries c (c + 4) (omega arith) h.vtable in
    record {
      inside = table_by b t c n (widths fs) distance place small big (omega (arith, h.back, h.inside)) h.inside;
      long = big;
      entries = λ id past. elim (cases_lt id n) [
        | inl within ↦
            slot_inside b t c n id (place_among 4 slots id) place small within
            (number_is 2 b (c + 4 + 2 * id) (place_among 4 slots id) (nth_at b 2 (place_among 4 slots) 0 n (c + 4) id id within (omega arith) rest) (omega (arith, place_among_le 4 id slots)))
        | inr behind ↦ slot_past b t n id small behind ∙ sym (past behind)
      ];
    }
