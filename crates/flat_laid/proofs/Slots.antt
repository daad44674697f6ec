-- Where the field of an id stands, among fields of which each has an id of its own.
use Rattle.std.proofs.Common.{◌≡◌, ℕ, ◌+◌, ◌==◌, ◌≤◌, Bool, true, false, List, [], ◌∷◌, ◌++◌, length, filter, cond, refl, ap, ◌∙◌, subst, arith, add_assoc}
use Rattle.std.proofs.lemmas.List.Elements.{filter-append}
use Rattle.byteorder.specs.Numbers.{length-bytes_low_first}
use Rattle.flat_builder.specs.Laying.{Slot, slot_bytes, slots_bytes, of_width, by_width, place_among}
use Rattle.flat_builder.specs.Blanks.{slots_len}
use Rattle.flat_builder.proofs.Slots.{IsWidth, eight, four, two, one}
use Rattle.flat_laid.proofs.Parts.{IsAt, at_front, at_rest}

-- the fields of this id
abbrev pub of_id : ℕ → List Slot → List Slot
of_id id slots = filter (λ s. s.id == id) slots

-- two filters may change places
filter_step : {X : Type 0} (p q : X → Bool) (x : X) (xs : List X) (m n : Bool) → p x ≡ m → q x ≡ n → filter p (filter q xs) ≡ filter q (filter p xs)
    → filter p (cond n (x ∷ filter q xs) (filter q xs)) ≡ filter q (cond m (x ∷ filter p xs) (filter p xs))
filter_step p q x xs true true hp hq h = rw (hp, hq) (ap (λ l. x ∷ l) h)
filter_step p q x xs true false hp hq h = rw hq h
filter_step p q x xs false true hp hq h = rw hp h
filter_step p q x xs false false hp hq h = h

filter-filter : {X : Type 0} (p q : X → Bool) (xs : List X) → filter p (filter q xs) ≡ filter q (filter p xs)
filter-filter p q [] = refl
filter-filter p q (x ∷ xs) = filter_step p q x xs (p x) (q x) refl refl (filter-filter p q xs)

-- the fields of an id in the order of the table
pub of_id-by_width : (id : ℕ) (slots : List Slot) → of_id id (by_width slots) ≡ by_width (of_id id slots)
unfolding by_width of_width
of_id-by_width id slots =
    let has = λ (s : Slot). s.id == id in
    let part = λ (w : ℕ). filter-filter has (λ (s : Slot). s.width == w) slots in
    filter-append has (of_width 8 slots ++ of_width 4 slots ++ of_width 2 slots) (of_width 1 slots)
    ∙ ap (λ l. l ++ filter has (of_width 1 slots)) (filter-append has (of_width 8 slots ++ of_width 4 slots) (of_width 2 slots))
    ∙ ap (λ l. l ++ filter has (of_width 2 slots) ++ filter has (of_width 1 slots)) (filter-append has (of_width 8 slots) (of_width 4 slots))
    ∙ simp (part 8, part 4, part 2, part 1)

by_width_of : (s : Slot) (w : ℕ) → s.width ≡ w → IsWidth w → by_width (s ∷ []) ≡ s ∷ []
unfolding by_width of_width
by_width_of s w same eight = rw same refl
by_width_of s w same four = rw same refl
by_width_of s w same two = rw same refl
by_width_of s w same one = rw same refl

pub by_width-none : by_width [] ≡ []
unfolding by_width of_width
by_width-none = refl

-- an only field of its id, in the order of the table
pub by_width-one : (s : Slot) → IsWidth s.width → by_width (s ∷ []) ≡ s ∷ []
by_width-one s h = by_width_of s s.width refl h

-- the field stands at q in the table at t, whose first field stands at p
pub record IsFound (b : List ℕ) (t p q : ℕ) (slots : List Slot) (s : Slot) : Type 0 where
  pub from : p ≤ q
  pub upto : q + s.width ≤ p + slots_len slots
  pub bytes : IsAt b (t + q) (slot_bytes (t + q) s)

length-slot_bytes : (p : ℕ) (s : Slot) → length (slot_bytes p s) ≡ s.width
unfolding slot_bytes
length-slot_bytes p s = length-bytes_low_first 0 s.width _

found_step : (b : List ℕ) (t p q id : ℕ) (r : Slot) (rest : List Slot) (s : Slot) (m : Bool) → cond m (r ∷ of_id id rest) (of_id id rest) ≡ s ∷ []
    → IsAt b (t + p) (slots_bytes (t + p) (r ∷ rest))
    → (of_id id rest ≡ s ∷ [] → IsAt b (t + (p + r.width)) (slots_bytes (t + (p + r.width)) rest) → IsFound b t (p + r.width) q rest s)
    → IsFound b t p (cond m p q) (r ∷ rest) s
unfolding slots_bytes
found_step b t p q id r rest s true only h later =
    let same : r ≡ s = cc in
    subst (λ u. IsFound b t p p (r ∷ rest) u) same (record {
      from = omega arith;
      upto = omega arith;
      bytes = at_front b (slot_bytes (t + p) r) (slots_bytes (t + p + r.width) rest) (t + p) h;
    })
found_step b t p q id r rest s false only h later =
    let behind = at_rest b (slot_bytes (t + p) r) (slots_bytes (t + p + r.width) rest) (t + p) (t + p + r.width) (omega (arith, length-slot_bytes (t + p) r)) h in
    let f = later only (subst (λ n. IsAt b n (slots_bytes n rest)) (add_assoc t p r.width) behind) in
    record {
      from = omega (arith, f.from);
      upto = omega (arith, f.upto);
      bytes = f.bytes;
    }

pub place_among-found : (b : List ℕ) (t p id : ℕ) (slots : List Slot) (s : Slot) → of_id id slots ≡ s ∷ []
    → IsAt b (t + p) (slots_bytes (t + p) slots) → IsFound b t p (place_among p slots id) slots s
unfolding place_among
place_among-found b t p id [] s only h = absurd (cc)
place_among-found b t p id (r ∷ rest) s only h =
    found_step b t p (place_among (p + r.width) rest id) id r rest s (r.id == id) only h (place_among-found b t (p + r.width) id rest s)

absent_step : (p q id : ℕ) (r : Slot) (rest : List Slot) (m : Bool) → cond m (r ∷ of_id id rest) (of_id id rest) ≡ [] → (of_id id rest ≡ [] → q ≡ 0) → cond m p q ≡ 0
absent_step p q id r rest true lost later = absurd (cc)
absent_step p q id r rest false lost later = later lost

pub place_among-absent : (p id : ℕ) (slots : List Slot) → of_id id slots ≡ [] → place_among p slots id ≡ 0
unfolding place_among
place_among-absent p id [] lost = refl
place_among-absent p id (r ∷ rest) lost =
    absent_step p (place_among (p + r.width) rest id) id r rest (r.id == id) lost (place_among-absent (p + r.width) id rest)

upto_step : (p q w n : ℕ) (m : Bool) → q ≤ p + w + n → cond m p q ≤ p + (w + n)
upto_step p q w n true h = omega arith
upto_step p q w n false h = omega arith

pub place_among_le : (p id : ℕ) (slots : List Slot) → place_among p slots id ≤ p + slots_len slots
unfolding place_among
place_among_le p id [] = omega arith
place_among_le p id (r ∷ rest) =
    upto_step p (place_among (p + r.width) rest id) r.width (slots_len rest) (r.id == id) (place_among_le (p + r.width) id rest)
