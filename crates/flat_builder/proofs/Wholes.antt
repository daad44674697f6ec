-- A table with its offsets written is the table that is laid.
use Rattle.std.proofs.Common.{◌≡◌, ◌≢◌, ℕ, zero, suc, ◌+◌, ◌-◌, ◌≤◌, true, false, cond, eqb, List, [], ◌∷◌, ◌++◌, length, filter, map, fold, refl, sym, ap, ◌∙◌, arith, length-append, append_assoc}
use Rattle.std.specs.List.{flat_map, range_with_len}
use Rattle.std.proofs.lemmas.List.{append-nil, map-append}
use Rattle.byteorder.specs.Endian.{little_bytes}
use Rattle.flat_builder.specs.declared.table.Field.{Field}
use Rattle.flat_builder.specs.Trees.{Item, number, string, vector, table, tables, Fields, none, entry_count}
use Rattle.flat_builder.specs.Fields.{item_of, put_field, fields_of}
use Rattle.flat_builder.specs.Laying.{Slot, by_width, children_place, filling, lay, lay_fields, of_width, place_among, slot_of, slots_bytes, table_bytes, table_len, table_place, vtable_bytes, vtable_len, whole_table, width_of}
use Rattle.flat_builder.specs.Blanks.{blank, blank_of, blanks, slots_len}
use Rattle.flat_builder.proofs.Entries.{of_width-append, of_width-left}
use Rattle.flat_builder.proofs.Beginning.{blanks_widths}
use Rattle.flat_builder.proofs.Children.{widths_laid}
use Rattle.flat_builder.proofs.Slots.{length-slots_bytes, slots_bytes-append}
use Rattle.flat_builder.proofs.Lengths.{length-filling, length-vtable_bytes, table_bytes_end, width-slot_of}

-- ---- where the fields stand does not turn on what they hold
abbrev shape : Slot → ℕ × ℕ
shape s = (s.id, s.width)

abbrev place_by : ℕ → List (ℕ × ℕ) → ℕ → ℕ
place_by p [] id = 0
place_by p (s ∷ rest) id = cond (eqb s.0 id) p (place_by (p + s.1) rest id)

place_among-shapes : (p : ℕ) (xs : List Slot) (id : ℕ) → place_among p xs id ≡ place_by p (map shape xs) id
unfolding place_among
place_among-shapes p [] id = refl
place_among-shapes p (s ∷ xs) id = ap (cond (eqb s.id id) p) (place_among-shapes (p + s.width) xs id)

shapes-of_width : (w : ℕ) (xs : List Slot) → map shape (of_width w xs) ≡ filter (λ s. eqb s.1 w) (map shape xs)
unfolding of_width
shapes-of_width w [] = refl
shapes-of_width w (s ∷ xs) =
    elim (eqb s.width w) as (λ b. map shape (cond b (s ∷ of_width w xs) (of_width w xs)) ≡ cond b (shape s ∷ filter (λ t. eqb t.1 w) (map shape xs)) (filter (λ t. eqb t.1 w) (map shape xs))) [
      | true ↦ ap (λ rest. shape s ∷ rest) (shapes-of_width w xs)
      | false ↦ shapes-of_width w xs
    ]

abbrev by_shape : List (ℕ × ℕ) → List (ℕ × ℕ)
by_shape xs = filter (λ s. eqb s.1 8) xs ++ filter (λ s. eqb s.1 4) xs ++ filter (λ s. eqb s.1 2) xs ++ filter (λ s. eqb s.1 1) xs

shapes-by_width : (xs : List Slot) → map shape (by_width xs) ≡ by_shape (map shape xs)
unfolding by_width
shapes-by_width xs =
    map-append shape (of_width 8 xs ++ of_width 4 xs ++ of_width 2 xs) (of_width 1 xs)
    ∙ ap (λ t. t ++ map shape (of_width 1 xs)) (map-append shape (of_width 8 xs ++ of_width 4 xs) (of_width 2 xs) ∙ ap (λ t. t ++ map shape (of_width 2 xs)) (map-append shape (of_width 8 xs) (of_width 4 xs)))
    ∙ ap (λ t. t ++ map shape (of_width 4 xs) ++ map shape (of_width 2 xs) ++ map shape (of_width 1 xs)) (shapes-of_width 8 xs)
    ∙ ap (λ t. filter (λ s. eqb s.1 8) (map shape xs) ++ t ++ map shape (of_width 2 xs) ++ map shape (of_width 1 xs)) (shapes-of_width 4 xs)
    ∙ ap (λ t. filter (λ s. eqb s.1 8) (map shape xs) ++ filter (λ s. eqb s.1 4) (map shape xs) ++ t ++ map shape (of_width 1 xs)) (shapes-of_width 2 xs)
    ∙ ap (λ t. filter (λ s. eqb s.1 8) (map shape xs) ++ filter (λ s. eqb s.1 4) (map shape xs) ++ filter (λ s. eqb s.1 2) (map shape xs) ++ t) (shapes-of_width 1 xs)

same_entries : (a n : ℕ) (xs ys : List Slot) → ((id : ℕ) → place_among 4 xs id ≡ place_among 4 ys id)
    → flat_map (λ id. little_bytes 2 (place_among 4 xs id)) (range_with_len a n) ≡ flat_map (λ id. little_bytes 2 (place_among 4 ys id)) (range_with_len a n)
same_entries a zero xs ys same = refl
same_entries a (suc n) xs ys same =
    ap (λ p. little_bytes 2 p ++ flat_map (λ id. little_bytes 2 (place_among 4 xs id)) (range_with_len (a + 1) n)) (same a)
    ∙ ap (λ rest. little_bytes 2 (place_among 4 ys a) ++ rest) (same_entries (a + 1) n xs ys same)

vtable_bytes-shapes : (fs : Fields) (xs ys : List Slot) → map shape xs ≡ map shape ys → vtable_bytes fs (by_width xs) ≡ vtable_bytes fs (by_width ys)
unfolding vtable_bytes
vtable_bytes-shapes fs xs ys same =
    let place = λ (id : ℕ). place_among-shapes 4 (by_width xs) id ∙ ap (λ t. place_by 4 t id) (shapes-by_width xs ∙ ap by_shape same ∙ sym (shapes-by_width ys)) ∙ sym (place_among-shapes 4 (by_width ys) id) in
    ap (λ rest. little_bytes 2 (vtable_len fs) ++ little_bytes 2 (table_len fs) ++ rest) (same_entries 0 (entry_count fs) (by_width xs) (by_width ys) place)

id-slot_of : (id : ℕ) (it : Item) (c : ℕ) → (slot_of id it c).id ≡ id
unfolding slot_of
id-slot_of id (number w v) c = refl
id-slot_of id (string bytes) c = refl
id-slot_of id (vector w elements) c = refl
id-slot_of id (table fs) c = refl
id-slot_of id (tables ts) c = refl

shape-slot_of : (id : ℕ) (it : Item) (c : ℕ) → shape (slot_of id it c) ≡ (id, width_of it)
shape-slot_of id it c = ap (λ n. (n, (slot_of id it c).width)) (id-slot_of id it c) ∙ ap (λ n. (id, n)) (width-slot_of id it c)

shapes_from : (fs : List Field) (before : Fields) (c : ℕ) → map shape (lay_fields (fold put_field before fs) c).slots ≡ map shape (lay_fields before c).slots ++ map shape (blanks fs)
unfolding lay
shapes_from [] before c = sym (append-nil (map shape (lay_fields before c).slots))
shapes_from (f ∷ fs) before c =
    let next = c + length (lay_fields before c).bytes in
    let slots = (lay_fields before c).slots in
    let own = slot_of f.id (item_of f.value) next in
    shapes_from fs (put_field before f) c
    ∙ ap (λ t. t ++ map shape (blanks fs)) (map-append shape slots (own ∷ []) ∙ ap (λ s. map shape slots ++ s ∷ []) (shape-slot_of f.id (item_of f.value) next))
    ∙ append_assoc (map shape slots) ((f.id, width_of (item_of f.value)) ∷ []) (map shape (blanks fs))

shapes_same : (fs : List Field) (c : ℕ) → map shape (lay_fields (fields_of fs) c).slots ≡ map shape (blanks fs)
unfolding lay
shapes_same fs c = shapes_from fs none c

-- ---- a field that has not 4 bytes holds its number from the first
lost : (w : ℕ) (s t : Slot) → s.width ≡ 4 → t.width ≡ 4 → w ≢ 4 → of_width w (s ∷ []) ≡ of_width w (t ∷ [])
lost w s t own own' other = of_width-left w s [] (λ e. other (sym e ∙ own)) ∙ sym (of_width-left w t [] (λ e. other (sym e ∙ own')))

single_same : (w id : ℕ) (it : Item) (c : ℕ) → w ≢ 4 → of_width w (slot_of id it c ∷ []) ≡ of_width w (blank_of id it ∷ [])
unfolding slot_of width_of
single_same w id (number v n) c other = refl
single_same w id (string bytes) c other = lost w (slot_of id (string bytes) c) (blank_of id (string bytes)) refl refl other
single_same w id (vector v elements) c other = lost w (slot_of id (vector v elements) c) (blank_of id (vector v elements)) refl refl other
single_same w id (table fs) c other = lost w (slot_of id (table fs) c) (blank_of id (table fs)) refl refl other
single_same w id (tables ts) c other = lost w (slot_of id (tables ts) c) (blank_of id (tables ts)) refl refl other

same_from : (w : ℕ) → w ≢ 4 → (fs : List Field) (before : Fields) (c : ℕ) → of_width w (lay_fields (fold put_field before fs) c).slots ≡ of_width w (lay_fields before c).slots ++ of_width w (blanks fs)
unfolding lay of_width
same_from w other [] before c = sym (append-nil (of_width w (lay_fields before c).slots))
same_from w other (f ∷ fs) before c =
    let next = c + length (lay_fields before c).bytes in
    let slots = (lay_fields before c).slots in
    let own = slot_of f.id (item_of f.value) next in
    same_from w other fs (put_field before f) c
    ∙ ap (λ t. t ++ of_width w (blanks fs)) (of_width-append w slots (own ∷ []) ∙ ap (λ t. of_width w slots ++ t) (single_same w f.id (item_of f.value) next other))
    ∙ append_assoc (of_width w slots) (of_width w (blank f ∷ [])) (of_width w (blanks fs))
    ∙ ap (λ t. of_width w slots ++ t) (sym (of_width-append w (blank f ∷ []) (blanks fs)))

same_of_width : (w : ℕ) → w ≢ 4 → (fs : List Field) (c : ℕ) → of_width w (lay_fields (fields_of fs) c).slots ≡ of_width w (blanks fs)
unfolding lay of_width
same_of_width w other fs c = same_from w other fs none c

-- ---- the fields of 4 bytes with what stands in front of them and behind them
abbrev pub front_of_fours : List ℕ → Fields → List Slot → ℕ → List ℕ
front_of_fours old fs slots c =
    old ++ vtable_bytes fs (by_width slots) ++ filling 8 (c + vtable_len fs) ++ little_bytes 4 (table_place fs c - c) ++ slots_bytes (table_place fs c + 4) (of_width 8 slots)

abbrev pub behind_fours : Fields → List Slot → ℕ → ℕ → List ℕ
behind_fours fs slots c fours = slots_bytes (fours + slots_len (of_width 4 slots)) (of_width 2 slots ++ of_width 1 slots) ++ filling 4 (table_place fs c + table_len fs)

pub fours_split : (old : List ℕ) (fs : Fields) (slots : List Slot) (c fours : ℕ) → fours ≡ table_place fs c + 4 + slots_len (of_width 8 slots)
    → old ++ table_bytes fs (by_width slots) c ≡ front_of_fours old fs slots c ++ slots_bytes fours (of_width 4 slots) ++ behind_fours fs slots c fours
unfolding table_bytes by_width
fours_split old fs slots c fours here =
    let p = table_place fs c + 4 in
    let w8 = of_width 8 slots in
    let w4 = of_width 4 slots in
    let last = of_width 2 slots ++ of_width 1 slots in
    let vtable = vtable_bytes fs (by_width slots) in
    let first = filling 8 (c + vtable_len fs) in
    let distance : List ℕ = little_bytes 4 (table_place fs c - c) in
    let fill = filling 4 (table_place fs c + table_len fs) in
    let order : by_width slots ≡ w8 ++ (w4 ++ last) = simp append_assoc in
    let parts : slots_bytes p (by_width slots) ≡ slots_bytes p w8 ++ (slots_bytes fours w4 ++ slots_bytes (fours + slots_len w4) last) =
    ap (slots_bytes p) order ∙ slots_bytes-append p w8 (w4 ++ last) ∙ ap (λ n. slots_bytes p w8 ++ slots_bytes n (w4 ++ last)) (sym here)
    ∙ ap (λ t. slots_bytes p w8 ++ t) (slots_bytes-append fours w4 last) in
    let grouped : old ++ (vtable ++ first ++ distance ++ (slots_bytes p w8 ++ (slots_bytes fours w4 ++ slots_bytes (fours + slots_len w4) last)) ++ fill)
    ≡ (old ++ vtable ++ first ++ distance ++ slots_bytes p w8) ++ slots_bytes fours w4 ++ (slots_bytes (fours + slots_len w4) last ++ fill) = simp append_assoc in
    ap (λ t. old ++ (vtable ++ first ++ distance ++ t ++ fill)) parts ∙ grouped

-- with the offsets written and the children behind it, it is the table that is laid
pub whole_laid : (old new : List ℕ) (fs : List Field) (c fours k : ℕ) → let laid = lay_fields (fields_of fs) k in
    fours ≡ table_place (fields_of fs) c + 4 + slots_len (of_width 8 (blanks fs)) → k ≡ children_place (fields_of fs) c
    → new ≡ front_of_fours old (fields_of fs) (blanks fs) c ++ slots_bytes fours (of_width 4 laid.slots) ++ behind_fours (fields_of fs) (blanks fs) c fours ++ laid.bytes
    → new ≡ old ++ lay (table (fields_of fs)) c
unfolding lay whole_table
whole_laid old new fs c fours k here at is =
    let t = fields_of fs in
    let laid = lay_fields t k in
    let none_8 : (8 ≢ 4) = λ e. absurd (omega (arith, e)) in
    let none_2 : (2 ≢ 4) = λ e. absurd (omega (arith, e)) in
    let none_1 : (1 ≢ 4) = λ e. absurd (omega (arith, e)) in
    let eights = sym (same_of_width 8 none_8 fs k) in
    let twos = sym (same_of_width 2 none_2 fs k) in
    let ones = sym (same_of_width 1 none_1 fs k) in
    let vtable = vtable_bytes-shapes t (blanks fs) laid.slots (sym (shapes_same fs k)) in
    let distance : List ℕ = little_bytes 4 (table_place t c - c) in
    let first = filling 8 (c + vtable_len t) in
    let front : front_of_fours old t (blanks fs) c ≡ front_of_fours old t laid.slots c =
    ap (λ v. old ++ v ++ first ++ distance ++ slots_bytes (table_place t c + 4) (of_width 8 (blanks fs))) vtable
    ∙ ap (λ w. old ++ vtable_bytes t (by_width laid.slots) ++ first ++ distance ++ slots_bytes (table_place t c + 4) w) eights in
    let fill = filling 4 (table_place t c + table_len t) in
    let behind : behind_fours t (blanks fs) c fours ≡ behind_fours t laid.slots c fours =
    ap (λ n. slots_bytes (fours + n) (of_width 2 (blanks fs) ++ of_width 1 (blanks fs)) ++ fill) (sym (widths_laid 4 fs k))
    ∙ ap (λ w. slots_bytes (fours + slots_len (of_width 4 laid.slots)) (w ++ of_width 1 (blanks fs)) ++ fill) twos
    ∙ ap (λ w. slots_bytes (fours + slots_len (of_width 4 laid.slots)) (of_width 2 laid.slots ++ w) ++ fill) ones in
    is
    ∙ ap (λ f. f ++ slots_bytes fours (of_width 4 laid.slots) ++ behind_fours t (blanks fs) c fours ++ laid.bytes) front
    ∙ ap (λ b. front_of_fours old t laid.slots c ++ slots_bytes fours (of_width 4 laid.slots) ++ b ++ laid.bytes) behind
    ∙ ap (λ w. w ++ laid.bytes) (sym (fours_split old t laid.slots c fours (here ∙ ap (λ n. table_place t c + 4 + slots_len n) eights)))
    ∙ append_assoc old (table_bytes t (by_width laid.slots) c) laid.bytes
    ∙ ap (λ n. old ++ (table_bytes t (by_width (lay_fields t n).slots) c ++ (lay_fields t n).bytes)) at

pub length-front_of_fours : (old : List ℕ) (fs : Fields) (slots : List Slot) → length (front_of_fours old fs slots (length old)) ≡ table_place fs (length old) + 4 + slots_len (of_width 8 slots)
unfolding table_place
length-front_of_fours old fs slots =
    let c = length old in
    let vtable = vtable_bytes fs (by_width slots) in
    let first = filling 8 (c + vtable_len fs) in
    let distance : List ℕ = little_bytes 4 (table_place fs c - c) in
    let eights = slots_bytes (table_place fs c + 4) (of_width 8 slots) in
    omega (
      arith,
      length-append (old ++ vtable ++ first ++ distance) eights,
      length-append (old ++ vtable ++ first) distance,
      length-append (old ++ vtable) first,
      length-append old vtable,
      length-vtable_bytes fs (by_width slots),
      length-filling 8 (c + vtable_len fs),
      length-slots_bytes (table_place fs c + 4) (of_width 8 slots),
    )

-- the fields of 4 bytes are in the table
pub fours_fit : (old out : List ℕ) (fs : List Field) (fours : ℕ) → fours ≡ table_place (fields_of fs) (length old) + 4 + slots_len (of_width 8 (blanks fs))
    → out ≡ old ++ table_bytes (fields_of fs) (by_width (blanks fs)) (length old) → fours + slots_len (of_width 4 (blanks fs)) ≤ length out
fours_fit old out fs fours here is =
    let t = fields_of fs in
    let c = length old in
    let front = front_of_fours old t (blanks fs) c in
    let own = slots_bytes fours (of_width 4 (blanks fs)) in
    let back = behind_fours t (blanks fs) c fours in
    omega (arith, here, ap length (is ∙ fours_split old t (blanks fs) c fours here), length-append (front ++ own) back, length-append front own, length-front_of_fours old t (blanks fs), length-slots_bytes fours (of_width 4 (blanks fs)))

-- and its children begin behind it
pub children_begin : (old out : List ℕ) (fs : List Field) → out ≡ old ++ table_bytes (fields_of fs) (by_width (blanks fs)) (length old) → length out ≡ children_place (fields_of fs) (length old)
children_begin old out fs is =
    omega (arith, ap length is, length-append old (table_bytes (fields_of fs) (by_width (blanks fs)) (length old)), table_bytes_end (fields_of fs) (by_width (blanks fs)) (length old) (blanks_widths fs))
