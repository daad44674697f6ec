-- The entries of a vtable, and a field more that is laid.
use Rattle.std.proofs.Common.{◌≡◌, ◌≢◌, ℕ, zero, suc, ◌+◌, ◌*◌, ◌-◌, ◌<◌, ◌≤◌, eqb, eq-eqb, true, false, cond, List, [], ◌∷◌, ◌++◌, length, take, drop, get_or, fold, refl, sym, subst, ap, ◌∙◌, arith, length-append, append_assoc}
use Rattle.std.specs.List.{flat_map, range_with_len}
use Rattle.std.proofs.lemmas.Bool.{ne_eqb}
use Rattle.std.proofs.lemmas.List.{append-nil, drop_at, take_at, take_more, take-append-drop, map-append}
use Rattle.std.proofs.lemmas.List.Elements.{filter-append}
use Rattle.std.proofs.lemmas.List.Concat.{flat_map-append}
use Rattle.std.proofs.lemmas.List.FromFn.{length-range_with_len}
use Rattle.byteorder.specs.Endian.{little_bytes}
use Rattle.flat_builder.specs.declared.table.Field.{Field}
use Rattle.flat_builder.specs.Trees.{Fields, none, entry_count, IsAscending}
use Rattle.flat_builder.specs.Fields.{put_field, fields_of}
use Rattle.flat_builder.specs.Laying.{Slot, of_width, place_among, slot_bytes, slots_bytes}
use Rattle.flat_builder.specs.Blanks.{IsFresh, Lacks, begun, blank, blanks, entries, slots_len}
use Rattle.flat_builder.proofs.Chains.{fields_more, ascends_from, count_from}
use Rattle.flat_builder.proofs.Ends.{fields_split}
use Rattle.flat_builder.proofs.Lengths.{length-pieces}
use Rattle.flat_builder.proofs.Slots.{length-slots_bytes, slots_bytes-append}
use Rattle.flat_builder.proofs.Slots.{length-slots_bytes, slots_bytes-append}

-- a part in the midst of some bytes is written over
pub patched : (front old rest x bytes : List ℕ) (p q : ℕ) → bytes ≡ front ++ old ++ rest → length front ≡ p → p + length old ≡ q → take p bytes ++ x ++ drop q bytes ≡ front ++ x ++ rest
patched front old rest x bytes p q same here there =
    ap (λ b. take p b ++ x ++ drop q b) same
    ∙ ap (λ t. t ++ x ++ drop q (front ++ old ++ rest)) (ap (take p) (append_assoc front old rest) ∙ take_at front (old ++ rest) p here)
    ∙ ap (λ t. front ++ x ++ t) (drop_at (front ++ old) rest q (omega (arith, length-append front old)))

-- a field that is not among the first ones is looked for behind them
pub place_among-behind : (p : ℕ) (xs ys : List Slot) (id : ℕ) → Lacks id xs → place_among p (xs ++ ys) id ≡ place_among (p + slots_len xs) ys id
unfolding place_among
place_among-behind p [] ys id lacks = ap (λ q. place_among q ys id) (omega arith)
place_among-behind p (s ∷ xs) ys id lacks =
    ap (λ b. cond b p (place_among (p + s.width) (xs ++ ys) id)) (ne_eqb s.id id lacks.0)
    ∙ place_among-behind (p + s.width) xs ys id lacks.1
    ∙ ap (λ q. place_among q ys id) (omega arith)

-- the field itself stands behind them
pub place_among-here : (p : ℕ) (xs ys : List Slot) (s : Slot) → Lacks s.id xs → place_among p (xs ++ s ∷ ys) s.id ≡ p + slots_len xs
unfolding place_among
place_among-here p xs ys s lacks = place_among-behind p xs (s ∷ ys) s.id lacks ∙ ap (λ b. cond b (p + slots_len xs) (place_among (p + slots_len xs + s.width) ys s.id)) (eq-eqb s.id s.id refl)

-- another field stands where it stood
place_among-other : (p : ℕ) (xs : List Slot) (s : Slot) (id : ℕ) → s.id ≢ id → place_among p (xs ++ s ∷ []) id ≡ place_among p xs id
unfolding place_among
place_among-other p [] s id other = ap (λ b. cond b p 0) (ne_eqb s.id id other)
place_among-other p (x ∷ xs) s id other = ap (cond (eqb x.id id) p) (place_among-other (p + x.width) xs s id other)

abbrev entries_from : ℕ → ℕ → List Slot → List ℕ
entries_from a n xs = flat_map (λ id. little_bytes 2 (place_among 4 xs id)) (range_with_len a n)

-- the entries of other fields stay
others_stay : (a n : ℕ) (xs : List Slot) (s : Slot) → ((j : ℕ) → a ≤ j → j < a + n → s.id ≢ j) → entries_from a n (xs ++ s ∷ []) ≡ entries_from a n xs
others_stay a zero xs s other = refl
others_stay a (suc n) xs s other =
    ap (λ p. little_bytes 2 p ++ entries_from (a + 1) n (xs ++ s ∷ [])) (place_among-other 4 xs s a (other a (omega arith) (omega arith)))
    ∙ ap (λ rest. little_bytes 2 (place_among 4 xs a) ++ rest) (others_stay (a + 1) n xs s (λ j from to. other j (omega arith) (omega arith)))

-- some numbers in a row, with one in their midst
range_split : (a k m n : ℕ) → n ≡ k + m + 1 → range_with_len a n ≡ range_with_len a k ++ (a + k) ∷ range_with_len (a + k + 1) m
range_split a zero m zero is = absurd (omega arith)
range_split a zero m (suc n) is =
    ap (λ j. a ∷ range_with_len (a + 1) j) (omega arith) ∙ ap (λ b. b ∷ range_with_len (b + 1) m) (omega arith)
range_split a (suc k) m zero is = absurd (omega arith)
range_split a (suc k) m (suc n) is =
    ap (λ r. a ∷ r) (range_split (a + 1) k m n (omega arith))
    ∙ ap (λ b. a ∷ (range_with_len (a + 1) k ++ b ∷ range_with_len (b + 1) m)) (omega arith)

length-entries : (a n : ℕ) (xs : List Slot) → length (entries_from a n xs) ≡ 2 * n
length-entries a n xs =
    omega (arith, length-pieces (λ id. little_bytes 2 (place_among 4 xs id)) 2 (λ id. refl) (range_with_len a n), length-range_with_len a n)

pub length-entries_of : (n : ℕ) (xs : List Slot) → length (entries n xs) ≡ 2 * n
unfolding entries
length-entries_of n xs = length-entries 0 n xs

-- an entry with those in front of it and behind it
entries_split : (k m n : ℕ) (xs : List Slot) → n ≡ k + m + 1 → entries_from 0 n xs ≡ entries_from 0 k xs ++ little_bytes 2 (place_among 4 xs k) ++ entries_from (k + 1) m xs
entries_split k m n xs is =
    let entry = λ (id : ℕ). little_bytes 2 (place_among 4 xs id) in
    let first : 0 + k ≡ k = omega arith in
    ap (flat_map entry) (range_split 0 k m n is)
    ∙ flat_map-append entry (range_with_len 0 k) ((0 + k) ∷ range_with_len (0 + k + 1) m)
    ∙ ap (λ j. entries_from 0 k xs ++ (entry j ++ entries_from (j + 1) m xs)) first
    ∙ sym (append_assoc (entries_from 0 k xs) (entry k) (entries_from (k + 1) m xs))

-- a field more: its entry is written over, and its bytes stand behind the others
pub field_laid : (front middle : List ℕ) (count p q : ℕ) (xs : List Slot) (s : Slot) (bytes after : List ℕ) (place : ℕ)
    → Lacks s.id xs → s.id < count → s.leads ≡ false → place ≡ 4 + slots_len xs → q ≡ length front + 2 * s.id
    → bytes ≡ begun front count middle p xs → after ≡ take q bytes ++ little_bytes 2 place ++ drop (q + 2) bytes
    → after ++ little_bytes s.width s.number ≡ begun front count middle p (xs ++ s ∷ [])
unfolding begun entries slot_bytes slots_bytes
field_laid front middle count p q xs s bytes after place lacks inside own here there before written =
    let k = s.id in
    let m = count - k - 1 in
    let first = entries_from 0 k xs in
    let last = entries_from (k + 1) m xs in
    let old : List ℕ = little_bytes 2 (place_among 4 xs k) in
    let x : List ℕ = little_bytes 2 place in
    let rest = last ++ middle ++ slots_bytes p xs in
    let own_bytes : List ℕ = little_bytes s.width s.number in
    let grouped : front ++ (first ++ old ++ last) ++ middle ++ slots_bytes p xs ≡ (front ++ first) ++ old ++ rest = simp append_assoc in
    let whole = before ∙ ap (λ (e : List ℕ). front ++ e ++ middle ++ slots_bytes p xs) (entries_split k m count xs (omega arith)) ∙ grouped in
    let over = written ∙ patched (front ++ first) old rest x bytes q (q + 2) whole (omega (arith, length-append front first, length-entries 0 k xs)) (omega arith) in
    let entry : place_among 4 (xs ++ s ∷ []) k ≡ place = place_among-here 4 xs [] s lacks ∙ sym here in
    let below : (j : ℕ) → 0 ≤ j → j < 0 + k → k ≢ j = λ j from to. omega arith in
    let above : (j : ℕ) → k + 1 ≤ j → j < k + 1 + m → k ≢ j = λ j from to. omega arith in
    let now : entries_from 0 count (xs ++ s ∷ []) ≡ first ++ x ++ last =
    entries_split k m count (xs ++ s ∷ []) (omega arith)
    ∙ ap (λ e. e ++ little_bytes 2 (place_among 4 (xs ++ s ∷ []) k) ++ entries_from (k + 1) m (xs ++ s ∷ [])) (others_stay 0 k xs s below)
    ∙ ap (λ n. first ++ little_bytes 2 n ++ entries_from (k + 1) m (xs ++ s ∷ [])) entry
    ∙ ap (λ e. first ++ x ++ e) (others_stay (k + 1) m xs s above) in
    let more : slots_bytes p (xs ++ s ∷ []) ≡ slots_bytes p xs ++ own_bytes =
    slots_bytes-append p xs (s ∷ [])
    ∙ ap (λ e. slots_bytes p xs ++ e) (append-nil (slot_bytes (p + slots_len xs) s) ∙ ap (λ b. little_bytes s.width (cond b (s.number - (p + slots_len xs)) s.number)) own) in
    let joined : (front ++ first) ++ x ++ rest ++ own_bytes ≡ front ++ (first ++ x ++ last) ++ middle ++ (slots_bytes p xs ++ own_bytes) = simp append_assoc in
    ap (λ e. e ++ own_bytes) over
    ∙ joined
    ∙ ap (λ e. front ++ e ++ middle ++ (slots_bytes p xs ++ own_bytes)) (sym now)
    ∙ ap (λ e. front ++ entries_from 0 count (xs ++ s ∷ []) ++ middle ++ e) (sym more)

-- ---- ids that no earlier field has
pub Lacks-append : (id : ℕ) (xs ys : List Slot) → Lacks id xs → Lacks id ys → Lacks id (xs ++ ys)
Lacks-append id [] ys a b = b
Lacks-append id (s ∷ xs) ys a b = (a.0, Lacks-append id xs ys a.1 b)

Lacks-of_width : (id w : ℕ) (xs : List Slot) → Lacks id xs → Lacks id (of_width w xs)
unfolding of_width
Lacks-of_width id w [] a = tt
Lacks-of_width id w (s ∷ xs) a = elim (eqb s.width w) as (λ b. Lacks id (cond b (s ∷ of_width w xs) (of_width w xs))) [
  | true ↦ (a.0, Lacks-of_width id w xs a.1)
  | false ↦ Lacks-of_width id w xs a.1
]

-- ids that ascend are below each id that may follow
lacks_before : (fs : List Field) (before : Fields) (id : ℕ) → IsAscending (fold put_field before fs) → entry_count (fold put_field before fs) ≤ id → Lacks id (blanks fs)
lacks_before [] before id ascends below = tt
lacks_before (f ∷ fs) before id ascends below =
    (λ same. absurd (omega (arith, same, count_from fs (put_field before f) ascends)), lacks_before fs (put_field before f) id ascends below)

-- and above each that came before
lacks_after : (fs : List Field) (before : Fields) (id : ℕ) → IsAscending (fold put_field before fs) → id < entry_count before → Lacks id (blanks fs)
lacks_after [] before id ascends above = tt
lacks_after (f ∷ fs) before id ascends above =
    let behind = (ascends_from fs (put_field before f) ascends).1 in
    (λ same. absurd (omega (arith, same, behind)), lacks_after fs (put_field before f) id ascends (omega (arith, behind)))

-- a field's id, and the fields in front of it and behind it
pub lacks_front : (fs : List Field) (i : ℕ) (d : Field) → IsAscending (fields_of fs) → i < length fs → Lacks (get_or fs i d).id (blanks (take i fs))
lacks_front fs i d ascends inside =
    let front = subst IsAscending (sym (fields_split fs i)) ascends in
    let this = subst IsAscending (sym (fields_split fs (i + 1))) ascends in
    let own = subst IsAscending (fields_more fs i d inside) (ascends_from (drop (i + 1) fs) (fields_of (take (i + 1) fs)) this) in
    lacks_before (take i fs) none (get_or fs i d).id own.0 own.1

blanks_split : (fs : List Field) (i : ℕ) (d : Field) → i < length fs → blanks (take i fs) ++ blank (get_or fs i d) ∷ blanks (drop (i + 1) fs) ≡ blanks fs
blanks_split fs i d inside =
    sym (map-append blank (take i fs) (get_or fs i d ∷ drop (i + 1) fs)) ∙ ap blanks (sym (append_assoc (take i fs) (get_or fs i d ∷ []) (drop (i + 1) fs))
    ∙ ap (λ t. t ++ drop (i + 1) fs) (sym (take_more fs i d inside))
    ∙ take-append-drop (i + 1) fs)

pub lacks_behind : (fs : List Field) (i : ℕ) (d : Field) → IsAscending (fields_of fs) → i < length fs → Lacks (get_or fs i d).id (blanks (drop (i + 1) fs))
lacks_behind fs i d ascends inside =
    let whole = subst IsAscending (sym (fields_split fs (i + 1))) ascends in
    lacks_after (drop (i + 1) fs) (fields_of (take (i + 1) fs)) (get_or fs i d).id whole (omega (arith, ap entry_count (fields_more fs i d inside)))

-- a field has an entry
pub id_below : (fs : List Field) (i : ℕ) (d : Field) → IsAscending (fields_of fs) → i < length fs → (get_or fs i d).id < entry_count (fields_of fs)
id_below fs i d ascends inside =
    let whole = subst IsAscending (sym (fields_split fs (i + 1))) ascends in
    omega (arith, count_from (drop (i + 1) fs) (fields_of (take (i + 1) fs)) whole, ap entry_count (fields_split fs (i + 1)), ap entry_count (fields_more fs i d inside))

pub of_width-append : (w : ℕ) (xs ys : List Slot) → of_width w (xs ++ ys) ≡ of_width w xs ++ of_width w ys
unfolding of_width
of_width-append w xs ys = filter-append (λ s. eqb s.width w) xs ys

pub of_width-took : (w : ℕ) (s : Slot) (ys : List Slot) → s.width ≡ w → of_width w (s ∷ ys) ≡ s ∷ of_width w ys
unfolding of_width
of_width-took w s ys same = ap (λ b. cond b (s ∷ of_width w ys) (of_width w ys)) (eq-eqb s.width w same)

pub of_width-left : (w : ℕ) (s : Slot) (ys : List Slot) → s.width ≢ w → of_width w (s ∷ ys) ≡ of_width w ys
unfolding of_width
of_width-left w s ys other = ap (λ b. cond b (s ∷ of_width w ys) (of_width w ys)) (ne_eqb s.width w other)

-- no field of one width has the id of a field of another
pub fresh_of : (fs : List Field) (w v : ℕ) → IsAscending (fields_of fs) → w ≢ v → IsFresh w fs (of_width v (blanks fs))
fresh_of fs w v ascends other = λ i d inside same.
    let f = get_or fs i d in
    let front = blanks (take i fs) in
    let back = blanks (drop (i + 1) fs) in
    let parts : of_width v front ++ of_width v back ≡ of_width v (blanks fs) =
    ap (λ t. of_width v front ++ t) (sym (of_width-left v (blank f) back (λ e. other (sym same ∙ e))))
    ∙ sym (of_width-append v front (blank f ∷ back))
    ∙ ap (of_width v) (blanks_split fs i d inside) in
    subst (Lacks f.id) parts (Lacks-append f.id (of_width v front) (of_width v back)
    (Lacks-of_width f.id v front (lacks_front fs i d ascends inside)) (Lacks-of_width f.id v back (lacks_behind fs i d ascends inside)))

-- one field more, of this width or another
pub width_more : (w : ℕ) (fs : List Field) (i : ℕ) (d : Field) → i < length fs → (blank (get_or fs i d)).width ≡ w
    → of_width w (blanks (take (i + 1) fs)) ≡ of_width w (blanks (take i fs)) ++ blank (get_or fs i d) ∷ []
unfolding of_width
width_more w fs i d inside same =
    ap (λ xs. of_width w (blanks xs)) (take_more fs i d inside)
    ∙ ap (of_width w) (map-append blank (take i fs) (get_or fs i d ∷ []))
    ∙ of_width-append w (blanks (take i fs)) (blank (get_or fs i d) ∷ [])
    ∙ ap (λ t. of_width w (blanks (take i fs)) ++ t) (of_width-took w (blank (get_or fs i d)) [] same)

pub width_same : (w : ℕ) (fs : List Field) (i : ℕ) (d : Field) → i < length fs → (blank (get_or fs i d)).width ≢ w
    → of_width w (blanks (take (i + 1) fs)) ≡ of_width w (blanks (take i fs))
unfolding of_width
width_same w fs i d inside other =
    ap (λ xs. of_width w (blanks xs)) (take_more fs i d inside)
    ∙ ap (of_width w) (map-append blank (take i fs) (get_or fs i d ∷ []))
    ∙ of_width-append w (blanks (take i fs)) (blank (get_or fs i d) ∷ [])
    ∙ ap (λ t. of_width w (blanks (take i fs)) ++ t) (of_width-left w (blank (get_or fs i d)) [] other)
    ∙ append-nil (of_width w (blanks (take i fs)))

pub length-begun : (front : List ℕ) (count : ℕ) (middle : List ℕ) (p : ℕ) (xs : List Slot) → length (begun front count middle p xs) ≡ length front + 2 * count + length middle + slots_len xs
unfolding begun
length-begun front count middle p xs =
    omega (arith, length-append (front ++ entries count xs ++ middle) (slots_bytes p xs), length-append (front ++ entries count xs) middle, length-append front (entries count xs), length-entries_of count xs, length-slots_bytes p xs)

-- the field at i is laid behind the earlier ones of its width
pub lacks_earlier : (fs : List Field) (i w : ℕ) (f : Field) (before : List Slot) → f ≡ get_or fs i f → i < length fs → IsAscending (fields_of fs) → (blank f).width ≡ w → IsFresh w fs before
    → Lacks f.id (before ++ of_width w (blanks (take i fs)))
lacks_earlier fs i w f before is inside ascends same fresh =
    let g = get_or fs i f in
    let earlier = of_width w (blanks (take i fs)) in
    subst (λ (x : Field). Lacks x.id (before ++ earlier)) (sym is)
    (Lacks-append g.id before earlier (fresh i f inside (ap (λ (x : Field). (blank x).width) (sym is) ∙ same)) (Lacks-of_width g.id w (blanks (take i fs)) (lacks_front fs i f ascends inside)))

pub took_more : (fs : List Field) (i w : ℕ) (f : Field) (before : List Slot) → f ≡ get_or fs i f → i < length fs → (blank f).width ≡ w
    → (before ++ of_width w (blanks (take i fs))) ++ blank f ∷ [] ≡ before ++ of_width w (blanks (take (i + 1) fs))
took_more fs i w f before is inside same =
    let earlier = of_width w (blanks (take i fs)) in
    ap (λ (x : Field). (before ++ earlier) ++ blank x ∷ []) is
    ∙ append_assoc before earlier (blank (get_or fs i f) ∷ [])
    ∙ ap (λ t. before ++ t) (sym (width_more w fs i f inside (ap (λ (x : Field). (blank x).width) (sym is) ∙ same)))

pub left_out : (fs : List Field) (i w : ℕ) (f : Field) (before : List Slot) → f ≡ get_or fs i f → i < length fs → (blank f).width ≢ w
    → before ++ of_width w (blanks (take i fs)) ≡ before ++ of_width w (blanks (take (i + 1) fs))
left_out fs i w f before is inside other =
    ap (λ t. before ++ t) (sym (width_same w fs i f inside (λ e. other (ap (λ (x : Field). (blank x).width) is ∙ e))))

pub id_inside : (fs : List Field) (i : ℕ) (f : Field) → f ≡ get_or fs i f → IsAscending (fields_of fs) → i < length fs → f.id < entry_count (fields_of fs)
id_inside fs i f is ascends inside = omega (arith, ap (λ (x : Field). x.id) is, id_below fs i f ascends inside)
