-- A vtable and its table, from their first bytes on.
use Rattle.std.proofs.Common.{◌≡◌, ℕ, zero, suc, ◌+◌, ◌*◌, ◌-◌, List, [], ◌∷◌, ◌++◌, length, replicate, fold, refl, sym, ap, ◌∙◌, arith, length-append, append_assoc}
use Rattle.std.specs.List.{flat_map, range_with_len}
use Rattle.std.proofs.lemmas.List.{append-nil, length-replicate, replicate-append-replicate}
use Rattle.byteorder.specs.Endian.{little_bytes}
use Rattle.flat_builder.specs.declared.table.Field.{Field}
use Rattle.flat_builder.specs.Trees.{Fields, none, entry_count}
use Rattle.flat_builder.specs.Fields.{put_field, fields_of}
use Rattle.flat_builder.specs.Laying.{Slot, by_width, filling, place_among, round_up, slots_bytes, table_bytes, table_len, table_place, vtable_bytes, vtable_len, widths}
use Rattle.flat_builder.specs.Blanks.{IsFresh, begun, blanks, entries, slots_len}
use Rattle.flat_builder.proofs.Entries.{Lacks-append, length-begun}
use Rattle.flat_builder.proofs.Lengths.{length-filling}
use Rattle.flat_builder.proofs.Slots.{AllWidths, slots_len-by_width}
use Rattle.flat_builder.proofs.Widths.{IsWidth-value}

-- what stands in front of the entries of a vtable, and between them and the fields
abbrev pub front_of : List ℕ → Fields → List ℕ
front_of old fs = old ++ little_bytes 2 (vtable_len fs) ++ little_bytes 2 (table_len fs)

abbrev pub middle_of : Fields → ℕ → List ℕ
middle_of fs c = filling 8 (c + vtable_len fs) ++ little_bytes 4 (table_place fs c - c)

pub length-front_of : (old : List ℕ) (fs : Fields) → length (front_of old fs) ≡ length old + 4
length-front_of old fs =
    omega (arith, length-append (old ++ little_bytes 2 (vtable_len fs)) (little_bytes 2 (table_len fs)), length-append old (little_bytes 2 (vtable_len fs)))

pub length-middle_of : (fs : Fields) (c : ℕ) → c + vtable_len fs + length (middle_of fs c) ≡ table_place fs c + 4
unfolding table_place
length-middle_of fs c =
    omega (arith, length-append (filling 8 (c + vtable_len fs)) (little_bytes 4 (table_place fs c - c)), length-filling 8 (c + vtable_len fs))

no_entries_from : (a n : ℕ) → flat_map (λ id. little_bytes 2 (place_among 4 [] id)) (range_with_len a n) ≡ replicate (2 * n) 0
unfolding place_among
no_entries_from a zero = refl
no_entries_from a (suc n) = ap (λ t. 0 ∷ (0 ∷ t)) (no_entries_from (a + 1) n) ∙ replicate-append-replicate 2 (2 * n) 0 ∙ ap (λ k. replicate k 0) (omega arith)

no_entries : (n : ℕ) → entries n [] ≡ replicate (2 * n) 0
unfolding entries
no_entries n = no_entries_from 0 n

long_front : (old d : List ℕ) (fs : Fields) → d ≡ front_of old fs ++ replicate (2 * entry_count fs) 0 → length d ≡ length old + vtable_len fs
unfolding vtable_len
long_front old d fs is =
    omega (arith, ap length is, length-append (front_of old fs) (replicate (2 * entry_count fs) 0), length-replicate {A = ℕ} (2 * entry_count fs) 0, length-front_of old fs)

-- how far the fields reach that are laid
pub length-laid : (old g : List ℕ) (fs : Fields) (slots : List Slot) → g ≡ begun (front_of old fs) (entry_count fs) (middle_of fs (length old)) (table_place fs (length old) + 4) slots
    → length g ≡ table_place fs (length old) + 4 + slots_len slots
unfolding vtable_len
length-laid old g fs slots is =
    omega (arith, ap length is, length-begun (front_of old fs) (entry_count fs) (middle_of fs (length old)) (table_place fs (length old) + 4) slots, length-front_of old fs, length-middle_of fs (length old))

-- the calls that lay the two sizes and the entries
pub opened : (old a b d : List ℕ) (fs : Fields) (vtable_size table_size many : ℕ) → vtable_size ≡ vtable_len fs → table_size ≡ table_len fs → many ≡ entry_count fs
    → a ≡ old ++ little_bytes 2 vtable_size → b ≡ a ++ little_bytes 2 table_size → d ≡ b ++ replicate (2 * many) 0
    → d ≡ front_of old fs ++ replicate (2 * entry_count fs) 0
opened old a b d fs vtable_size table_size many is_vtable is_table is_many is_a is_b is_d =
    is_d ∙ ap (λ xs. xs ++ replicate (2 * many) 0) (is_b ∙ ap (λ xs. xs ++ little_bytes 2 table_size) is_a
    ∙ ap (λ n. old ++ little_bytes 2 n ++ little_bytes 2 table_size) is_vtable ∙ ap (λ n. old ++ little_bytes 2 (vtable_len fs) ++ little_bytes 2 n) is_table)
    ∙ ap (λ n. front_of old fs ++ replicate (2 * n) 0) is_many

-- the filling behind them leads up to the table
pub table_at : (old d e : List ℕ) (fs : Fields) → d ≡ front_of old fs ++ replicate (2 * entry_count fs) 0 → e ≡ d ++ filling 8 (length d) → length e ≡ table_place fs (length old)
unfolding table_place
table_at old d e fs is_d is_e =
    omega (arith, ap length is_e, length-append d (filling 8 (length d)), length-filling 8 (length d), ap (round_up 8) (long_front old d fs is_d))

-- and the distance begins the table
pub begins : (old d e g : List ℕ) (fs : Fields) (distance : ℕ) → d ≡ front_of old fs ++ replicate (2 * entry_count fs) 0 → e ≡ d ++ filling 8 (length d)
    → distance ≡ table_place fs (length old) - length old → g ≡ e ++ little_bytes 4 distance
    → g ≡ begun (front_of old fs) (entry_count fs) (middle_of fs (length old)) (table_place fs (length old) + 4) []
unfolding begun slots_bytes
begins old d e g fs distance is_d is_e is_distance is_g =
    let front = front_of old fs in
    let zeros : List ℕ = replicate (2 * entry_count fs) 0 in
    let c = length old in
    let fill = filling 8 (c + vtable_len fs) in
    let at_e : e ≡ front ++ zeros ++ fill = is_e ∙ ap (λ n. d ++ filling 8 n) (long_front old d fs is_d) ∙ ap (λ xs. xs ++ fill) is_d in
    is_g ∙ ap (λ xs. xs ++ little_bytes 4 distance) at_e ∙ ap (λ n. front ++ zeros ++ fill ++ little_bytes 4 n) is_distance
    ∙ append_assoc (front ++ zeros) fill (little_bytes 4 (table_place fs c - c))
    ∙ ap (λ z. front ++ z ++ middle_of fs c) (sym (no_entries (entry_count fs)))
    ∙ sym (append-nil (front ++ entries (entry_count fs) [] ++ middle_of fs c))

-- the table is laid once its fields are, and is filled up
pub ends : (old g : List ℕ) (fs : Fields) (slots : List Slot) → slots_len slots ≡ widths fs
    → g ≡ begun (front_of old fs) (entry_count fs) (middle_of fs (length old)) (table_place fs (length old) + 4) slots
    → g ++ filling 4 (length g) ≡ old ++ table_bytes fs slots (length old)
unfolding table_bytes table_len vtable_bytes begun entries
ends old g fs slots wide is =
    let c = length old in
    let own = slots_bytes (table_place fs c + 4) slots in
    let inner = entries (entry_count fs) slots in
    let fill = filling 4 (table_place fs c + table_len fs) in
    let long : length g ≡ table_place fs c + table_len fs = omega (arith, wide, length-laid old g fs slots is) in
    let grouped : front_of old fs ++ inner ++ middle_of fs c ++ own ++ fill
    ≡ old ++ (little_bytes 2 (vtable_len fs) ++ little_bytes 2 (table_len fs) ++ inner ++ filling 8 (c + vtable_len fs) ++ little_bytes 4 (table_place fs c - c) ++ own ++ fill) = simp append_assoc in
    ap (λ n. g ++ filling 4 n) long ∙ ap (λ xs. xs ++ fill) is ∙ grouped

pub fresh_none : (w : ℕ) (fs : List Field) → IsFresh w fs []
fresh_none w fs = λ i d inside same. tt

pub fresh_append : (w : ℕ) (fs : List Field) (xs ys : List Slot) → IsFresh w fs xs → IsFresh w fs ys → IsFresh w fs (xs ++ ys)
fresh_append w fs xs ys a b = λ i d inside same. Lacks-append _ xs ys (a i d inside same) (b i d inside same)

blanks_len : (fs : List Field) (before : Fields) → widths before + slots_len (blanks fs) ≡ widths (fold put_field before fs)
unfolding widths
blanks_len [] before = omega arith
blanks_len (f ∷ fs) before = omega (arith, blanks_len fs (put_field before f))

AllWidths-blanks : (fs : List Field) → AllWidths (blanks fs)
unfolding AllWidths
AllWidths-blanks [] = tt
AllWidths-blanks (f ∷ fs) = (IsWidth-value f.value, AllWidths-blanks fs)

pub blanks_widths : (fs : List Field) → slots_len (by_width (blanks fs)) ≡ widths (fields_of fs)
unfolding widths
blanks_widths fs = omega (arith, slots_len-by_width (blanks fs) (AllWidths-blanks fs), blanks_len fs none)
