-- What a table leads to is laid behind it, and the offsets are written.
use Rattle.std.proofs.Common.{◌≡◌, ◌≢◌, ℕ, ◌+◌, ◌*◌, ◌-◌, ◌<◌, ◌≤◌, true, false, cond, eqb, List, [], ◌∷◌, ◌++◌, length, take, drop, get_or, fold, replicate, refl, sym, ap, ◌∙◌, arith, length-append, append_assoc}
use Rattle.byteorder.specs.Endian.{little_bytes}
use Rattle.std.proofs.lemmas.List.{drop_more, length-replicate, length-take-le, replicate-append-replicate, take_more, take-append-drop, map-append}
use Rattle.std.proofs.lemmas.Bool.{ne_eqb}
use Rattle.flat_builder.specs.declared.table.Field.{Field}
use Rattle.flat_builder.specs.Trees.{Item, number, string, vector, table, tables, Fields, none, push, table_count}
use Rattle.flat_builder.specs.Fields.{item_of, put_field, fields_of}
use Rattle.flat_builder.specs.Shown.{tables_of}
use Rattle.flat_builder.specs.Laying.{Slot, lay, lay_fields, lay_tables, of_width, slot_bytes, slot_of, slots_bytes, stands, table_place}
use Rattle.flat_builder.specs.Blanks.{blank, blank_of, blanks, slots_len}
use Rattle.flat_builder.proofs.Chains.{fields_more, tables_more}
use Rattle.flat_builder.proofs.Entries.{patched, of_width-append, of_width-left, of_width-took}
use Rattle.flat_builder.proofs.Lengths.{slots_len-lay_tables, width-slot_of}
use Rattle.flat_builder.proofs.ValueEnds.{table_count-tables_of}
use Rattle.flat_builder.proofs.Slots.{length-slots_bytes, slots_bytes-append, slots_len-append}

-- one field more that is laid
pub one_more : (fs : List Field) (i : ℕ) (f : Field) → f ≡ get_or fs i f → i < length fs → fields_of (take (i + 1) fs) ≡ put_field (fields_of (take i fs)) f
one_more fs i f is inside = fields_more fs i f inside ∙ ap (put_field (fields_of (take i fs))) (sym is)

pub slots_more : (fs : List Field) (i : ℕ) (f : Field) (c n : ℕ) → f ≡ get_or fs i f → i < length fs → n ≡ c + length (lay_fields (fields_of (take i fs)) c).bytes
    → (lay_fields (fields_of (take (i + 1) fs)) c).slots ≡ (lay_fields (fields_of (take i fs)) c).slots ++ slot_of f.id (item_of f.value) n ∷ []
unfolding lay
slots_more fs i f c n is inside here =
    ap (λ t. (lay_fields t c).slots) (one_more fs i f is inside) ∙ ap (λ m. (lay_fields (fields_of (take i fs)) c).slots ++ slot_of f.id (item_of f.value) m ∷ []) (sym here)

pub bytes_more : (fs : List Field) (i : ℕ) (f : Field) (c n : ℕ) → f ≡ get_or fs i f → i < length fs → n ≡ c + length (lay_fields (fields_of (take i fs)) c).bytes
    → (lay_fields (fields_of (take (i + 1) fs)) c).bytes ≡ (lay_fields (fields_of (take i fs)) c).bytes ++ lay (item_of f.value) n
unfolding lay
bytes_more fs i f c n is inside here =
    ap (λ t. (lay_fields t c).bytes) (one_more fs i f is inside) ∙ ap (λ m. (lay_fields (fields_of (take i fs)) c).bytes ++ lay (item_of f.value) m) (sym here)

pub blanks_left : (fs : List Field) (i : ℕ) (f : Field) → f ≡ get_or fs i f → i < length fs → blanks (drop i fs) ≡ blank f ∷ blanks (drop (i + 1) fs)
blanks_left fs i f is inside = ap blanks (drop_more fs i f inside) ∙ ap (λ (x : Field). blank x ∷ blanks (drop (i + 1) fs)) (sym is)

-- the id of a field is not among its bytes
pub slot_bytes-id : (p id : ℕ) (it : Item) (c : ℕ) → slot_bytes p (slot_of id it c) ≡ slot_bytes p (slot_of 0 it c)
unfolding slot_bytes slot_of
slot_bytes-id p id (number w v) c = refl
slot_bytes-id p id (string bytes) c = refl
slot_bytes-id p id (vector w elements) c = refl
slot_bytes-id p id (table fs) c = refl
slot_bytes-id p id (tables ts) c = refl

-- one of some fields with those in front of it and behind it
spread : (p : ℕ) (front : List Slot) (s : Slot) (back : List Slot) → slots_bytes p (front ++ s ∷ back) ≡ slots_bytes p front ++ slot_bytes (p + slots_len front) s ++ slots_bytes (p + slots_len front + s.width) back
unfolding slots_bytes
spread p front s back = slots_bytes-append p front (s ∷ back) ∙ sym (append_assoc (slots_bytes p front) (slot_bytes (p + slots_len front) s) (slots_bytes (p + slots_len front + s.width) back))

took : (done todo : List Slot) (s : Slot) → s.width ≡ 4 → of_width 4 (done ++ s ∷ todo) ≡ of_width 4 done ++ s ∷ of_width 4 todo
took done todo s own = of_width-append 4 done (s ∷ todo) ∙ ap (λ t. of_width 4 done ++ t) (of_width-took 4 s todo own)

left_out : (done todo : List Slot) (s : Slot) → s.width ≢ 4 → of_width 4 (done ++ s ∷ todo) ≡ of_width 4 done ++ of_width 4 todo
left_out done todo s other = of_width-append 4 done (s ∷ todo) ∙ ap (λ t. of_width 4 done ++ t) (of_width-left 4 s todo other)

-- a field of 4 bytes is written over, and what it leads to is laid
pub four_step : (front rest bytes laid old new : List ℕ) (fours place : ℕ) (done todo : List Slot) (s t : Slot) → s.width ≡ 4 → t.width ≡ 4
    → length front ≡ fours → place ≡ fours + slots_len (of_width 4 done) → old ≡ front ++ slots_bytes fours (of_width 4 (done ++ s ∷ todo)) ++ rest ++ bytes
    → ((first last : List ℕ) → length first ≡ place → old ≡ first ++ slot_bytes place s ++ last → new ≡ first ++ slot_bytes place t ++ last ++ laid)
    → new ≡ front ++ slots_bytes fours (of_width 4 ((done ++ t ∷ []) ++ todo)) ++ rest ++ (bytes ++ laid)
four_step front rest bytes laid old new fours place done todo s t own own' at here is writes =
    let earlier = of_width 4 done in
    let later = of_width 4 todo in
    let q = fours + slots_len earlier in
    let first = front ++ slots_bytes fours earlier in
    let behind = slots_bytes (q + 4) later in
    let last = behind ++ rest ++ bytes in
    let laid_out = λ (u : Slot) (wide : u.width ≡ 4). ap (slots_bytes fours) (took done todo u wide) ∙ spread fours earlier u later
    ∙ ap (λ n. slots_bytes fours earlier ++ slot_bytes q u ++ slots_bytes (q + n) later) wide ∙ ap (λ n. slots_bytes fours earlier ++ slot_bytes n u ++ behind) (sym here) in
    let apart : front ++ (slots_bytes fours earlier ++ slot_bytes place s ++ behind) ++ rest ++ bytes ≡ first ++ slot_bytes place s ++ last = simp append_assoc in
    let together : first ++ slot_bytes place t ++ last ++ laid ≡ front ++ (slots_bytes fours earlier ++ slot_bytes place t ++ behind) ++ rest ++ (bytes ++ laid) = simp append_assoc in
    let long : length first ≡ place = omega (arith, here, at, length-append front (slots_bytes fours earlier), length-slots_bytes fours earlier) in
    writes first last long (is ∙ ap (λ x. front ++ x ++ rest ++ bytes) (laid_out s own) ∙ apart)
    ∙ together
    ∙ ap (λ x. front ++ x ++ rest ++ (bytes ++ laid)) (sym (ap (λ xs. slots_bytes fours (of_width 4 xs)) (append_assoc done (t ∷ []) todo) ∙ laid_out t own'))

-- a field of another width leads to nothing
pub other_step : (front rest bytes laid old new : List ℕ) (fours : ℕ) (done todo : List Slot) (s t : Slot) → s.width ≢ 4 → t.width ≢ 4
    → old ≡ front ++ slots_bytes fours (of_width 4 (done ++ s ∷ todo)) ++ rest ++ bytes → new ≡ old ++ laid
    → new ≡ front ++ slots_bytes fours (of_width 4 ((done ++ t ∷ []) ++ todo)) ++ rest ++ (bytes ++ laid)
other_step front rest bytes laid old new fours done todo s t other other' is laid_is =
    let same = left_out done todo s other ∙ sym (ap (of_width 4) (append_assoc done (t ∷ []) todo) ∙ left_out done todo t other') in
    laid_is ∙ ap (λ xs. xs ++ laid) (is ∙ ap (λ x. front ++ slots_bytes fours x ++ rest ++ bytes) same)
    ∙ append_assoc (front ++ slots_bytes fours (of_width 4 ((done ++ t ∷ []) ++ todo)) ++ rest) bytes laid

single_is : (w : ℕ) (s : Slot) → slots_len (of_width w (s ∷ [])) ≡ cond (eqb s.width w) s.width 0
unfolding of_width
single_is w s = elim (eqb s.width w) as (λ b. slots_len (cond b (s ∷ []) []) ≡ cond b s.width 0) [ true ↦ omega arith | false ↦ refl ]

-- its bytes among the fields of 4 bytes
pub single_four : (s : Slot) → s.width ≡ 4 → slots_len (of_width 4 (s ∷ [])) ≡ 4
single_four s own = single_is 4 s ∙ ap (λ n. cond (eqb n 4) n 0) own

pub single_other : (s : Slot) → s.width ≢ 4 → slots_len (of_width 4 (s ∷ [])) ≡ 0
single_other s other = single_is 4 s ∙ ap (λ b. cond b s.width 0) (ne_eqb s.width 4 other)

pub single_len : (w : ℕ) (s t : Slot) → s.width ≡ t.width → slots_len (of_width w (s ∷ [])) ≡ slots_len (of_width w (t ∷ []))
single_len w s t same = single_is w s ∙ ap (λ n. cond (eqb n w) n 0) same ∙ sym (single_is w t)

-- the fields of a width are as long as they were when they were blank
widths_from : (w : ℕ) (fs : List Field) (before : Fields) (c : ℕ) → slots_len (of_width w (lay_fields (fold put_field before fs) c).slots) ≡ slots_len (of_width w (lay_fields before c).slots) + slots_len (of_width w (blanks fs))
unfolding lay of_width
widths_from w [] before c = omega arith
widths_from w (f ∷ fs) before c =
    let next = c + length (lay_fields before c).bytes in
    let own = slot_of f.id (item_of f.value) next in
    omega (
      arith,
      widths_from w fs (put_field before f) c,
      ap slots_len (of_width-append w (lay_fields before c).slots (own ∷ [])),
      slots_len-append (of_width w (lay_fields before c).slots) (of_width w (own ∷ [])),
      single_len w own (blank f) (width-slot_of f.id (item_of f.value) next),
      ap slots_len (of_width-append w (blank f ∷ []) (blanks fs)),
      slots_len-append (of_width w (blank f ∷ [])) (of_width w (blanks fs)),
    )

pub widths_laid : (w : ℕ) (fs : List Field) (c : ℕ) → slots_len (of_width w (lay_fields (fields_of fs) c).slots) ≡ slots_len (of_width w (blanks fs))
unfolding lay of_width
widths_laid w fs c = omega (arith, widths_from w fs none c)

-- how far the fields of a width reach, with one more
pub blanks_more : (w : ℕ) (fs : List Field) (i : ℕ) (f : Field) → f ≡ get_or fs i f → i < length fs
    → slots_len (of_width w (blanks (take (i + 1) fs))) ≡ slots_len (of_width w (blanks (take i fs))) + slots_len (of_width w (blank f ∷ []))
blanks_more w fs i f is inside =
    ap (λ xs. slots_len (of_width w (blanks xs))) (take_more fs i f inside ∙ ap (λ (x : Field). take i fs ++ x ∷ []) (sym is))
    ∙ ap (λ xs. slots_len (of_width w xs)) (map-append blank (take i fs) (f ∷ []))
    ∙ ap slots_len (of_width-append w (blanks (take i fs)) (blank f ∷ []))
    ∙ slots_len-append (of_width w (blanks (take i fs))) (of_width w (blank f ∷ []))

pub blanks_le : (w : ℕ) (fs : List Field) (j : ℕ) → slots_len (of_width w (blanks (take j fs))) ≤ slots_len (of_width w (blanks fs))
blanks_le w fs j =
    omega (
      arith,
      ap (λ xs. slots_len (of_width w (blanks xs))) (take-append-drop j fs),
      ap (λ xs. slots_len (of_width w xs)) (map-append blank (take j fs) (drop j fs)),
      ap slots_len (of_width-append w (blanks (take j fs)) (blanks (drop j fs))),
      slots_len-append (of_width w (blanks (take j fs))) (of_width w (blanks (drop j fs))),
    )

-- nor among those of a blank one
pub blank_bytes-id : (p id : ℕ) (it : Item) → slot_bytes p (blank_of id it) ≡ slot_bytes p (blank_of 0 it)
unfolding slot_bytes
blank_bytes-id p id it = refl

-- ---- the tables of a vector
tables_slots : (ts : List Fields) (i : ℕ) (t : Fields) (c n : ℕ) → t ≡ get_or ts i t → i < length ts → n ≡ c + length (lay_tables (tables_of (take i ts)) c).bytes
    → (lay_tables (tables_of (take (i + 1) ts)) c).slots ≡ (lay_tables (tables_of (take i ts)) c).slots ++ slot_of (table_count (tables_of (take i ts))) (table t) n ∷ []
unfolding lay
tables_slots ts i t c n is inside here =
    ap (λ all. (lay_tables all c).slots) (tables_more ts i t inside ∙ ap (push (tables_of (take i ts))) (sym is))
    ∙ ap (λ m. (lay_tables (tables_of (take i ts)) c).slots ++ slot_of (table_count (tables_of (take i ts))) (table t) m ∷ []) (sym here)

tables_bytes : (ts : List Fields) (i : ℕ) (t : Fields) (c n : ℕ) → t ≡ get_or ts i t → i < length ts → n ≡ c + length (lay_tables (tables_of (take i ts)) c).bytes
    → (lay_tables (tables_of (take (i + 1) ts)) c).bytes ≡ (lay_tables (tables_of (take i ts)) c).bytes ++ lay (table t) n
unfolding lay
tables_bytes ts i t c n is inside here =
    ap (λ all. (lay_tables all c).bytes) (tables_more ts i t inside ∙ ap (push (tables_of (take i ts))) (sym is))
    ∙ ap (λ m. (lay_tables (tables_of (take i ts)) c).bytes ++ lay (table t) m) (sym here)

-- one table more: its offset is written over zero bytes, and it is laid
pub each_step : (front old mid new : List ℕ) (ts : List Fields) (i : ℕ) (t : Fields) (c offsets place stands left : ℕ) → let done = lay_tables (tables_of (take i ts)) c in
    t ≡ get_or ts i t → i < length ts → length old ≡ c + length done.bytes → length front ≡ offsets → place ≡ offsets + 4 * i → stands ≡ table_place t (length old) → length ts - i ≡ left + 1
    → old ≡ front ++ slots_bytes offsets done.slots ++ replicate (4 * (length ts - i)) 0 ++ done.bytes
    → mid ≡ take place old ++ little_bytes 4 (stands - place) ++ drop (place + 4) old → new ≡ mid ++ lay (table t) (length old)
    → new ≡ front ++ slots_bytes offsets (lay_tables (tables_of (take (i + 1) ts)) c).slots ++ replicate (4 * left) 0 ++ (lay_tables (tables_of (take (i + 1) ts)) c).bytes
unfolding slots_bytes slot_bytes slot_of stands
each_step front old mid new ts i t c offsets place stands left is inside here at placed stood many so_far over laid =
    let done = lay_tables (tables_of (take i ts)) c in
    let n = length old in
    let earlier = slots_bytes offsets done.slots in
    let zeros : List ℕ = replicate (4 * left) 0 in
    let four : List ℕ = replicate 4 0 in
    let rest = zeros ++ done.bytes in
    let x : List ℕ = little_bytes 4 (stands - place) in
    let own = slot_of (table_count (tables_of (take i ts))) (table t) n in
    let spent : slots_len done.slots ≡ 4 * i = slots_len-lay_tables (tables_of (take i ts)) c ∙ ap (λ k. 4 * k) (table_count-tables_of (take i ts) ∙ length-take-le i ts (omega arith)) in
    let one : 4 * (left + 1) ≡ 4 + 4 * left = omega arith in
    let zeros_are : replicate (4 * (length ts - i)) 0 ≡ four ++ zeros = ap (λ k. replicate (4 * k) 0) many ∙ ap (λ k. replicate k 0) one ∙ sym (replicate-append-replicate 4 (4 * left) 0) in
    let before = so_far ∙ ap (λ z. front ++ earlier ++ z ++ done.bytes) zeros_are ∙ ap (λ w. w ++ done.bytes) (sym (append_assoc (front ++ earlier) four zeros)) ∙ append_assoc ((front ++ earlier) ++ four) zeros done.bytes in
    let after = over ∙ patched (front ++ earlier) four rest x old place (place + 4) before (omega (arith, length-append front earlier, length-slots_bytes offsets done.slots, spent, placed, at)) refl in
    let reached : offsets + slots_len done.slots ≡ place = omega (arith, spent, placed) in
    let offset : slots_bytes (offsets + slots_len done.slots) (own ∷ []) ≡ x = ap (λ m. little_bytes 4 (table_place t n - m)) reached ∙ ap (λ m. little_bytes 4 (m - place)) (sym stood) in
    let more : slots_bytes offsets (lay_tables (tables_of (take (i + 1) ts)) c).slots ≡ earlier ++ x =
    ap (slots_bytes offsets) (tables_slots ts i t c n is inside here) ∙ slots_bytes-append offsets done.slots (own ∷ []) ∙ ap (λ e. earlier ++ e) offset in
    let own_bytes = lay (table t) n in
    laid ∙ ap (λ m. m ++ own_bytes) after
    ∙ ap (λ w. w ++ rest ++ own_bytes) (append_assoc front earlier x)
    ∙ append_assoc (front ++ (earlier ++ x)) rest own_bytes
    ∙ ap (λ w. front ++ (earlier ++ x) ++ w) (append_assoc zeros done.bytes own_bytes)
    ∙ sym (append_assoc (front ++ (earlier ++ x)) zeros (done.bytes ++ own_bytes))
    ∙ ap (λ e. front ++ e ++ zeros ++ (done.bytes ++ own_bytes)) (sym more)
    ∙ ap (λ b. front ++ slots_bytes offsets (lay_tables (tables_of (take (i + 1) ts)) c).slots ++ zeros ++ b) (sym (tables_bytes ts i t c n is inside here))

-- the vector is its count, the offsets and the tables
pub tables_laid : (old counted zeroed new : List ℕ) (ts : List Fields) (n : ℕ) → let laid = lay_tables (tables_of ts) (length zeroed) in
    n ≡ length ts → counted ≡ old ++ little_bytes 4 n → zeroed ≡ counted ++ replicate (4 * n) 0
    → new ≡ counted ++ slots_bytes (length counted) laid.slots ++ laid.bytes → new ≡ old ++ lay (tables (tables_of ts)) (length old)
unfolding lay
tables_laid old counted zeroed new ts n many is_counted is_zeroed is =
    let all = tables_of ts in
    let count : n ≡ table_count all = many ∙ sym (table_count-tables_of ts) in
    let first : List ℕ = little_bytes 4 (table_count all) in
    let at_counted : counted ≡ old ++ first = is_counted ∙ ap (λ m. old ++ little_bytes 4 m) count in
    let q = length old + 4 in
    let start = q + 4 * table_count all in
    let long : length counted ≡ q = omega (arith, ap length is_counted, length-append old (little_bytes 4 n)) in
    let longer : length zeroed ≡ start = omega (arith, long, count, ap length is_zeroed, length-append counted (replicate (4 * n) 0), length-replicate {A = ℕ} (4 * n) 0) in
    is ∙ ap (λ m. counted ++ slots_bytes m (lay_tables all (length zeroed)).slots ++ (lay_tables all (length zeroed)).bytes) long
    ∙ ap (λ m. counted ++ slots_bytes q (lay_tables all m).slots ++ (lay_tables all m).bytes) longer
    ∙ ap (λ w. w ++ slots_bytes q (lay_tables all start).slots ++ (lay_tables all start).bytes) at_counted
    ∙ ap (λ w. w ++ (lay_tables all start).bytes) (append_assoc old first (slots_bytes q (lay_tables all start).slots))
    ∙ append_assoc old (first ++ slots_bytes q (lay_tables all start).slots) (lay_tables all start).bytes
