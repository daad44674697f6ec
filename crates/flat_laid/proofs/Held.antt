-- Items of all kinds, held by a field, read back.
use Rattle.std.proofs.Common.{◌≡◌, ℕ, ◌+◌, ◌-◌, ◌*◌, ◌^◌, ◌<◌, ◌≤◌, true, false, List, [], ◌∷◌, ◌++◌, length, refl, sym, subst, arith, length-append}
use Rattle.std.proofs.lemmas.Bool.Decides.{nat_tests}
use Rattle.byteorder.specs.Endian.{little_bytes}
use Rattle.flat_layout.specs.Layout.{number_at, target, is_offset, is_table, is_absent, is_field, field_place, led_to, count, is_vector, entry_place}
use Rattle.flat_builder.specs.Trees.{number, string, vector, table, tables, Fields, Tables, push, table_count}
use Rattle.flat_builder.specs.Laying.{slot_bytes, slots_bytes, width_of, table_place, children_place, stands, slot_of, lay, lay_tables}
use Rattle.flat_builder.specs.Blanks.{slots_len}
use Rattle.flat_builder.proofs.Slots.{slots_bytes-append, length-slots_bytes}
use Rattle.flat_builder.proofs.Lengths.{stands_le}
use Rattle.flat_laid.specs.Lies.{IsText, IsVector, IsTable, HasField, Lies, HasFields, HasTables}
use Rattle.flat_laid.specs.Trees.{IsLayable}
use Rattle.flat_laid.proofs.Parts.{IsAt, at_front, at_rest, number_is, size_of}
use Rattle.flat_laid.proofs.Texts.{leads_to, string_lies, vector_lies}
use Rattle.flat_laid.proofs.Layables.{slots_len-tables}
use Rattle.flat_laid.proofs.Children.{FieldAt, IsRead}

vector_room : (w : ℕ) (b : List ℕ) (p : ℕ) → is_vector w b p ≡ true → p + 4 ≤ length b
unfolding is_vector
vector_room w b p h = grind (arith, nat_tests)

-- a field whose offset leads to n, where something holds
lead_held : (b : List ℕ) (t id end n : ℕ) (P : ℕ → Type 0) → length b < 2 ^ 31 → end ≤ n → n + 4 ≤ length b
    → FieldAt b t end (record { id = id; width = 4; leads = true; number = n }) → P n
    → (is_absent b t id ≡ false) × (is_field 4 b t id ≡ true) × (is_offset b (field_place b t id) ≡ true) × P (led_to b t id)
unfolding slot_bytes led_to
lead_held b t id end n P low behind room f held =
    let leads = leads_to b (field_place b t id) n low f.bytes (omega (arith, f.before)) room in
    (f.present, f.fits, leads.is, subst P (sym leads.to) held)

pub number_held : (b : List ℕ) (w v t id end next : ℕ) → v < 2 ^ (8 * w) → FieldAt b t end (slot_of id (number w v) next) → HasField b (number w v) t id (number_at w b (field_place b t id) ≡ v)
unfolding slot_of slot_bytes width_of
number_held b w v t id end next low f = record {
  present = f.present;
  fits = f.fits;
  led = tt;
  item = number_is w b (field_place b t id) v f.bytes (subst (λ m. v < m) (size_of w) low);
}

pub string_held : (b bytes : List ℕ) (t id end next : ℕ) → length b < 2 ^ 31 → end ≤ next → FieldAt b t end (slot_of id (string bytes) next)
    → IsAt b next (lay (string bytes) next) → HasField b (string bytes) t id (IsText b bytes (led_to b t id))
unfolding slot_of width_of stands
string_held b bytes t id end next low behind f h =
    let text = string_lies b bytes next low h in
    let r = lead_held b t id end next (IsText b bytes) low behind (vector_room 1 b next text.inside) f text in
    record { present = r.0; fits = r.1; led = r.2; item = r.3 }

pub vector_held : (b elements : List ℕ) (w t id end next : ℕ) → length b < 2 ^ 31 → end ≤ next → IsLayable (vector w elements) → FieldAt b t end (slot_of id (vector w elements) next)
    → IsAt b next (lay (vector w elements) next) → HasField b (vector w elements) t id (IsVector b w elements (led_to b t id))
unfolding slot_of width_of
vector_held b elements w t id end next low behind fit f h =
    let some : 0 < w = grind arith in
    let read = vector_lies b elements w next low some fit.1 h in
    let v = stands (vector w elements) next in
    let r = lead_held b t id end v (IsVector b w elements) low (omega (arith, stands_le (vector w elements) next)) (vector_room w b v read.inside) f read in
    record { present = r.0; fits = r.1; led = r.2; item = r.3 }

pub table_room : (b : List ℕ) (t : ℕ) → is_table b t ≡ true → t + 4 ≤ length b
unfolding is_table
table_room b t h = grind (arith, nat_tests)

pub table_reads : (b : List ℕ) (fs : Fields) (t k p : ℕ) → IsRead b fs t k → p ≡ t → HasFields b fs t → IsTable b fs p (HasFields b fs p)
table_reads b fs t k p r here fields =
    subst (λ n. IsTable b fs n (HasFields b fs n)) (sym here) (record { inside = r.inside; fields = fields; others = r.others })

pub table_held : (b : List ℕ) (fs : Fields) (t id end next : ℕ) → length b < 2 ^ 31 → end ≤ next → FieldAt b t end (slot_of id (table fs) next)
    → IsRead b fs (table_place fs next) (children_place fs next) → HasFields b fs (table_place fs next)
    → HasField b (table fs) t id (IsTable b fs (led_to b t id) (HasFields b fs (led_to b t id)))
unfolding slot_of width_of stands
table_held b fs t id end next low behind f r fields =
    let place = table_place fs next in
    let h = lead_held b t id end place (λ n. IsTable b fs n (HasFields b fs n)) low (omega (arith, stands_le (table fs) next)) (table_room b place r.inside) f
    (table_reads b fs place (children_place fs next) place r refl fields) in
    record { present = h.0; fits = h.1; led = h.2; item = h.3 }

-- the tables of a vector, which are laid from c on, and what leads to them
pub record HasEntries (b : List ℕ) (ts : Tables) (v c : ℕ) : Type 0 where
  pub behind : v + 4 + 4 * table_count ts ≤ c
  pub entries : IsAt b (v + 4) (slots_bytes (v + 4) (lay_tables ts c).slots)
  pub children : IsAt b c (lay_tables ts c).bytes

pub entries_laid : (b : List ℕ) (ts : Tables) (c : ℕ) → IsAt b c (lay (tables ts) c) → HasEntries b ts c (c + 4 + 4 * table_count ts)
unfolding lay
entries_laid b ts c h =
    let k = c + 4 + 4 * table_count ts in
    let laid = lay_tables ts k in
    let counted = little_bytes 4 (table_count ts) in
    let entries = slots_bytes (c + 4) laid.slots in
    let here : c + length (counted ++ entries) ≡ k = omega (arith, length-append counted entries, length-slots_bytes (c + 4) laid.slots, slots_len-tables ts k) in
    record {
      behind = omega arith;
      entries = at_rest b counted entries c (c + 4) (omega arith) (at_front b (counted ++ entries) laid.bytes c h);
      children = at_rest b (counted ++ entries) laid.bytes c k here h;
    }

tables_by : (b : List ℕ) (v n : ℕ) → number_at 4 b v ≡ n → v + 4 + 4 * n ≤ length b → (is_vector 4 b v ≡ true) × (count b v ≡ n)
unfolding is_vector count
tables_by b v n counted room = (rw counted (grind (arith, nat_tests)), counted)

-- the count of a vector of tables
tables_counted : (b : List ℕ) (ts : Tables) (v : ℕ) → length b < 2 ^ 31 → IsAt b v (lay (tables ts) v) → (is_vector 4 b v ≡ true) × (count b v ≡ table_count ts)
unfolding lay
tables_counted b ts v low h =
    let k = v + 4 + 4 * table_count ts in
    let laid = lay_tables ts k in
    let counted = little_bytes 4 (table_count ts) in
    let entries = slots_bytes (v + 4) laid.slots in
    let first = at_front b counted entries v (at_front b (counted ++ entries) laid.bytes v h) in
    let room : k ≤ length b = omega (arith, (entries_laid b ts v h).children.inside) in
    tables_by b v (table_count ts) (number_is 4 b v (table_count ts) first (omega arith)) room

pub tables_held : (b : List ℕ) (ts : Tables) (t id end next : ℕ) → length b < 2 ^ 31 → end ≤ next → FieldAt b t end (slot_of id (tables ts) next)
    → IsAt b next (lay (tables ts) next) → HasTables b ts next → HasField b (tables ts) t id (Lies b (tables ts) (led_to b t id))
unfolding slot_of width_of stands
tables_held b ts t id end next low behind f h held =
    let read = tables_counted b ts next low h in
    let r = lead_held b t id end next (λ p. Lies b (tables ts) p) low behind (vector_room 4 b next read.0) f (read.0, read.1, held) in
    record { present = r.0; fits = r.1; led = r.2; item = r.3 }

-- where the last table of a vector is laid
abbrev pub next_of : Tables → ℕ → ℕ
next_of before c = c + length (lay_tables before c).bytes

-- the last table of a vector, and what leads to it
pub record HasLast (b : List ℕ) (before : Tables) (fs : Fields) (v c : ℕ) : Type 0 where
  pub earlier : HasEntries b before v c
  pub entry : IsAt b (v + 4 + 4 * table_count before) (little_bytes 4 (table_place fs (next_of before c) - (v + 4 + 4 * table_count before)))
  pub last : IsAt b (next_of before c) (lay (table fs) (next_of before c))
  pub behind : v + 4 + 4 * table_count before + 4 ≤ next_of before c

pub last_of : (b : List ℕ) (before : Tables) (fs : Fields) (v c : ℕ) → HasEntries b (push before fs) v c → HasLast b before fs v c
unfolding lay slot_of slots_bytes slot_bytes stands
last_of b before fs v c h =
    let laid = lay_tables before c in
    let next = next_of before c in
    let s = slot_of (table_count before) (table fs) next in
    let q = v + 4 + 4 * table_count before in
    let here : v + 4 + slots_len laid.slots ≡ q = omega (arith, slots_len-tables before c) in
    let split = subst (IsAt b (v + 4)) (slots_bytes-append (v + 4) laid.slots (s ∷ [])) h.entries in
    let behind = at_rest b (slots_bytes (v + 4) laid.slots) (slots_bytes (v + 4 + slots_len laid.slots) (s ∷ [])) (v + 4) q (omega (arith, here, length-slots_bytes (v + 4) laid.slots)) split in
    let own : IsAt b q (slots_bytes q (s ∷ [])) = subst (λ n. IsAt b q (slots_bytes n (s ∷ []))) here behind in
    record {
      earlier = record {
        behind = omega (arith, h.behind);
        entries = at_front b (slots_bytes (v + 4) laid.slots) (slots_bytes (v + 4 + slots_len laid.slots) (s ∷ [])) (v + 4) split;
        children = at_front b laid.bytes (lay (table fs) next) c h.children;
      };
      entry = at_front b (slot_bytes q s) [] q own;
      last = at_rest b laid.bytes (lay (table fs) next) c next refl h.children;
      behind = omega (arith, h.behind);
    }

pub entry_held : (b : List ℕ) (before : Tables) (fs : Fields) (v c : ℕ) → length b < 2 ^ 31 → HasLast b before fs v c
    → IsRead b fs (table_place fs (next_of before c)) (children_place fs (next_of before c)) → HasFields b fs (table_place fs (next_of before c))
    → (is_offset b (entry_place b v (table_count before)) ≡ true) × IsTable b fs (target b (entry_place b v (table_count before))) (HasFields b fs (target b (entry_place b v (table_count before))))
unfolding entry_place stands
entry_held b before fs v c low h r fields =
    let next = next_of before c in
    let place = table_place fs next in
    let leads = leads_to b (v + 4 + 4 * table_count before) place low h.entry (omega (arith, h.behind, stands_le (table fs) next)) (table_room b place r.inside) in
    (leads.is, table_reads b fs place (children_place fs next) _ r leads.to fields)
