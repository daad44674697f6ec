-- The records of a text, one after another.
use Rattle.std.specs.Prelude.{◌&&◌, ◌||◌, ◌==◌, ◌++◌, drop, take}
use Rattle.std.specs.Borrow.{Bor}
use Rattle.std.proofs.Common.{◌≡◌, ◌∙◌, ◌+◌, ◌<◌, ◌≤◌, ◌∷◌, [], ℕ, zero, suc, List, Bool, true, false, not, Option, Some, None, length, if◌then◌else◌, inl, inr, refl, sym, ap, subst, arith}
use Rattle.std.proofs.lemmas.Bool.{cases_Bool}
use Rattle.csv.specs.Machine.{Read, ends_at_end, in_field, is_end, next_record, start_field, start_record, step}
use Rattle.csv.specs.Reading.{NextIs, ReadRecord, ReadsNext, default_config, has_failed, is_bom, pending_of, reader_config, records_from, records_next, strip_bom}
use Rattle.csv.specs.declared.parser.Config.{Config}
use Rattle.csv.specs.declared.parser.State.{State}
use Rattle.csv.specs.declared.parser.State.TheVariants as st
use Rattle.csv.specs.declared.reader.Reader.{Reader}
use Rattle.table_records.specs.Tables.{Gives, records_in}
use Rattle.table_records.specs.Reading.{bytes_left, rows_from, rows_left}

abbrev the : {X : Type 0} (x : X) (o : Option X) → X
the x None = x
the x (Some y) = y

-- a record's read goes on with no more bytes
no-longer : (cfg : Config) (xs : List ℕ) (s : State) (fields : List (List ℕ)) (field : List ℕ) (p : Read) → next_record cfg s fields field xs ≡ Some p → length p.2 ≤ length xs
unfolding next_record
no-longer cfg [] s fields field p e = elim (cases_Bool (ends_at_end s)) [
  | inl ends ↦
      let same : ◌≡◌ {A = List ℕ} [] p.2 = ap (λ o. (the p o).2) (rw ends at e) in
      rw (sym same) (omega arith)
  | inr goes ↦ cc (rw goes at e)
]
no-longer cfg (c ∷ rest) s fields field p e = elim (cases_Bool (is_end (step cfg s c).1)) [
  | inl ends ↦
      let same : rest ≡ p.2 = ap (λ o. (the p o).2) (rw ends at e) in
      rw (sym same) (omega arith)
  | inr goes ↦
      let less = no-longer cfg rest _ _ _ p (rw goes at e) in
      omega (less, arith)
]

-- a record takes a byte where there is one
shorter : (cfg : Config) (s : State) (fields : List (List ℕ)) (field : List ℕ) (c : ℕ) (rest : List ℕ) (p : Read) → next_record cfg s fields field (c ∷ rest) ≡ Some p → length p.2 ≤ length rest
unfolding next_record
shorter cfg s fields field c rest p e = elim (cases_Bool (is_end (step cfg s c).1)) [
  | inl ends ↦
      let same : rest ≡ p.2 = ap (λ o. (the p o).2) (rw ends at e) in
      rw (sym same) (omega arith)
  | inr goes ↦ no-longer cfg rest _ _ _ p (rw goes at e)
]

-- at the end of a text nothing is left after a record
ended : (cfg : Config) (s : State) (p : Read) → next_record cfg s [] [] [] ≡ Some p → (p.1 ≡ st.StartRecord) × (p.2 ≡ [])
unfolding next_record
ended cfg s p e = elim (cases_Bool (ends_at_end s)) [
  | inl ends ↦
      let same = rw ends at e in
      (sym (ap (λ o. (the p o).1) same), sym (ap (λ o. (the p o).2) same))
  | inr goes ↦ cc (rw goes at e)
]

nothing : (cfg : Config) (n : ℕ) → records_from cfg n st.StartRecord [] ≡ []
unfolding records_from next_record
nothing cfg zero = refl
nothing cfg (suc n) = refl

at-end : (cfg : Config) (n : ℕ) (s : State) (xs : List ℕ) → s ≡ st.StartRecord → xs ≡ [] → records_from cfg n s xs ≡ []
at-end cfg n s xs a b = rw (a, b) (nothing cfg n)

next-same : (more more2 : State → List ℕ → List (List (List ℕ))) (o : Option Read) → ((p : Read) → o ≡ Some p → more p.1 p.2 ≡ more2 p.1 p.2) → records_next more o ≡ records_next more2 o
next-same more more2 None h = refl
next-same more more2 (Some p) h = ap (λ (t : List (List (List ℕ))). p.0 ∷ t) (h p refl)

-- with a turn for each byte and one more, the number of turns changes nothing
fuel : (cfg : Config) (n m : ℕ) (s : State) (xs : List ℕ) → length xs < n → length xs < m → records_from cfg n s xs ≡ records_from cfg m s xs
unfolding records_from
fuel cfg zero m s xs a b = absurd (omega (a, arith))
fuel cfg (suc n) zero s xs a b = absurd (omega (b, arith))
fuel cfg (suc n) (suc m) s [] a b = next-same (records_from cfg n) (records_from cfg m) (next_record cfg s [] [] []) (λ p e.
    let (start, none) = ended cfg s p e in
    at-end cfg n p.1 p.2 start none ∙ sym (at-end cfg m p.1 p.2 start none))
fuel cfg (suc n) (suc m) s (c ∷ rest) a b = next-same (records_from cfg n) (records_from cfg m) (next_record cfg s [] [] (c ∷ rest)) (λ p e.
    let less = shorter cfg s [] [] c rest p e in
    fuel cfg n m p.1 p.2 (omega (less, a, arith)) (omega (less, b, arith)))

one-turn : (cfg : Config) (n : ℕ) (s : State) (xs : List ℕ) (p : Read) → next_record cfg s [] [] xs ≡ Some p → records_from cfg (suc n) s xs ≡ p.0 ∷ records_from cfg n p.1 p.2
unfolding records_from
one-turn cfg n s xs p e = rw e refl

-- the first record, and those of what is left after it
pub takes : (cfg : Config) (s : State) (xs : List ℕ) (p : Read) → next_record cfg s [] [] xs ≡ Some p → records_from cfg (length xs + 1) s xs ≡ p.0 ∷ records_from cfg (length p.2 + 1) p.1 p.2
takes cfg s [] p e =
    let (start, none) = ended cfg s p e in
    one-turn cfg 0 s [] p e ∙ ap (λ (t : List (List (List ℕ))). p.0 ∷ t) (at-end cfg 0 p.1 p.2 start none ∙ sym (at-end cfg (length p.2 + 1) p.1 p.2 start none))
takes cfg s (c ∷ rest) p e =
    let less = shorter cfg s [] [] c rest p e in
    let turns : length (c ∷ rest) + 1 ≡ suc (length rest + 1) = omega arith in
    ap (λ (n : ℕ). records_from cfg n s (c ∷ rest)) turns ∙ one-turn cfg (length rest + 1) s (c ∷ rest) p e
    ∙ ap (λ (t : List (List (List ℕ))). p.0 ∷ t) (fuel cfg (length rest + 1) (length p.2 + 1) p.1 p.2 (omega (less, arith)) (omega arith))

no-turn : (cfg : Config) (n : ℕ) (s : State) (xs : List ℕ) → next_record cfg s [] [] xs ≡ None → records_from cfg (suc n) s xs ≡ []
unfolding records_from
no-turn cfg n s xs e = rw e refl

none-left : (cfg : Config) (s : State) (xs : List ℕ) → next_record cfg s [] [] xs ≡ None → records_from cfg (length xs + 1) s xs ≡ []
none-left cfg s xs e =
    let turns : length xs + 1 ≡ suc (length xs) = omega arith in
    ap (λ (n : ℕ). records_from cfg n s xs) turns ∙ no-turn cfg (length xs) s xs e

-- what a read shows
shown-some : (o : Option Read) (row : List (List ℕ)) (s : State) (ys : List ℕ) → NextIs o true row s ys → o ≡ Some (row, s, ys)
shown-some None row s ys h = cc h
shown-some (Some p) row s ys h = rw (h.1, h.2, h.3) refl

shown-none : (o : Option Read) (row : List (List ℕ)) (s : State) (ys : List ℕ) → NextIs o false row s ys → o ≡ None
shown-none None row s ys h = refl
shown-none (Some p) row s ys h = cc h.0

over : (cfg : Config) (s s2 : State) (a b : Option (List ℕ)) (found : Bool) (row : List (List ℕ)) (xs ys : List ℕ) → cfg ≡ default_config → a ≡ Some xs → b ≡ Some ys
    → ReadsNext cfg s a b found row s2 → NextIs (next_record default_config s [] [] xs) found row s2 ys
over cfg s s2 a b found row xs ys c left more h = rw (c, left, more) at h

-- the bytes that are left of a slice are known
known : (r : Reader (Bor (List ℕ))) → has_failed r ≡ false → (xs : List ℕ) × (bytes_left r ≡ Some xs)
known r going = elim (cases_Bool (not r.bom_checked && (r.at == 0) && (r.filled == 0))) [
  | inl start ↦ (strip_bom r.rdr.now, rw (going, start) refl)
  | inr later ↦ (drop r.at (take r.filled r.buffer) ++ r.rdr.now, rw (going, later) refl)
]

pending-left : (r : Reader (Bor (List ℕ))) → r.bom_checked ≡ true → pending_of (Some r.rdr.now) r ≡ bytes_left r
pending-left r e = rw e refl

rows-at : (r : Reader (Bor (List ℕ))) (xs : List ℕ) → bytes_left r ≡ Some xs → rows_left r ≡ records_from default_config (length xs + 1) r.state xs
rows-at r xs e = ap (rows_from r.state) e

-- a read gives the first of the records that were left, or there was none
pub next-gives : (old new : Reader (Bor (List ℕ))) (found : Bool) (row : List (List ℕ)) → reader_config old ≡ default_config → has_failed old ≡ false → has_failed new ≡ false
    → ReadRecord (λ (slice : Bor (List ℕ)). Some slice.now) old new found row → Gives found row (rows_left old) (if not found then [] else rows_left new)
next-gives old new true row config going still read =
    let (xs, before) = known old going in
    let (ys, after) = known new still in
    let next = over old.config old.state new.state _ _ true row xs ys config before (pending-left new read.1 ∙ after) read.0 in
    rows-at old xs before ∙ takes default_config old.state xs (row, new.state, ys) (shown-some _ row new.state ys next)
    ∙ ap (λ (t : List (List (List ℕ))). row ∷ t) (sym (rows-at new ys after))
next-gives old new false row config going still read =
    let (xs, before) = known old going in
    let (ys, after) = known new still in
    let next = over old.config old.state new.state _ _ false row xs ys config before (pending-left new read.1 ∙ after) read.0 in
    (rows-at old xs before ∙ none-left default_config old.state xs (shown-none _ row new.state ys next), refl)

-- at the start of a text all its records are left
pub starts : (state : State) (left : Option (List ℕ)) (bytes : List ℕ) → state ≡ st.StartRecord → left ≡ Some (strip_bom bytes) → rows_from state left ≡ records_in bytes
unfolding records_in
starts state left bytes a b = rw (a, b) refl

-- an action that ends a record leaves a state in which the end of the text ends none
in-field-stops : (c : ℕ) → is_end (in_field default_config c).1 ≡ true → ends_at_end (in_field default_config c).0 ≡ false
in-field-stops c e = elim (cases_Bool (c == 44)) [
  | inl comma ↦ cc (rw comma at e)
  | inr other ↦ elim (cases_Bool (c == 13)) [
    | inl cr ↦ rw (other, cr) refl
    | inr plain ↦ elim (cases_Bool (c == 10)) [
      | inl feed ↦ rw (other, plain, feed) refl
      | inr copied ↦ cc (rw (other, plain, copied) at e)
    ]
  ]
]

start-field-stops : (c : ℕ) → is_end (start_field default_config c).1 ≡ true → ends_at_end (start_field default_config c).0 ≡ false
start-field-stops c e = elim (cases_Bool (c == 34)) [
  | inl quote ↦ cc (rw quote at e)
  | inr other ↦ rw other (in-field-stops c (rw other at e))
]

-- a byte that ends no record starts a record as it starts a field
start-same : (c : ℕ) → ((c == 13) || (c == 10)) ≡ false → start_record default_config c ≡ start_field default_config c
start-same c e = rw e refl

start-record-stops : (c : ℕ) → is_end (start_record default_config c).1 ≡ true → ends_at_end (start_record default_config c).0 ≡ false
start-record-stops c e = elim (cases_Bool ((c == 13) || (c == 10))) [
  | inl line ↦ cc (rw line at e)
  | inr other ↦ subst (λ r. is_end r.1 ≡ true → ends_at_end r.0 ≡ false) (sym (start-same c other)) (start-field-stops c) e
]

after-cr-same : (c : ℕ) → (c == 10) ≡ false → step default_config st.AfterCr c ≡ start_record default_config c
after-cr-same c e = rw e refl

step-stops : (s : State) (c : ℕ) → is_end (step default_config s c).1 ≡ true → ends_at_end (step default_config s c).0 ≡ false
step-stops st.StartRecord c e = start-record-stops c e
step-stops st.StartField c e = start-field-stops c e
step-stops st.InField c e = in-field-stops c e
step-stops st.InQuoted c e = elim (cases_Bool (c == 34)) [
  | inl quote ↦ cc (rw quote at e)
  | inr other ↦ cc (rw other at e)
]
step-stops st.InEscape c e = cc e
step-stops st.AfterQuote c e = elim (cases_Bool (c == 34)) [
  | inl quote ↦ cc (rw quote at e)
  | inr other ↦ rw other (in-field-stops c (rw other at e))
]
step-stops st.InComment c e = elim (cases_Bool (c == 10)) [
  | inl feed ↦ cc (rw feed at e)
  | inr other ↦ cc (rw other at e)
]
step-stops st.AfterCr c e = elim (cases_Bool (c == 10)) [
  | inl feed ↦ cc (rw feed at e)
  | inr other ↦ subst (λ r. is_end r.1 ≡ true → ends_at_end r.0 ≡ false) (sym (after-cr-same c other)) (start-record-stops c) e
]

-- so does a record
record-stops : (xs : List ℕ) (s : State) (fields : List (List ℕ)) (field : List ℕ) (p : Read) → next_record default_config s fields field xs ≡ Some p → ends_at_end p.1 ≡ false
unfolding next_record
record-stops [] s fields field p e = elim (cases_Bool (ends_at_end s)) [
  | inl ends ↦
      let same : st.StartRecord ≡ p.1 = ap (λ o. (the p o).1) (rw ends at e) in
      rw (sym same) refl
  | inr goes ↦ cc (rw goes at e)
]
record-stops (c ∷ rest) s fields field p e = elim (cases_Bool (is_end (step default_config s c).1)) [
  | inl ends ↦
      let same : (step default_config s c).0 ≡ p.1 = ap (λ o. (the p o).1) (rw ends at e) in
      rw (sym same) (step-stops s c ends)
  | inr goes ↦ record-stops rest _ _ _ p (rw goes at e)
]

count-next : (more : State → List ℕ → List (List (List ℕ))) (o : Option Read) (most : ℕ) → ((p : Read) → o ≡ Some p → length (more p.1 p.2) < most) → length (records_next more o) ≤ most
count-next more None most h = omega arith
count-next more (Some p) most h =
    let less = h p refl in
    omega (less, arith)

none-at-end : (s : State) (p : Read) → ends_at_end s ≡ false → next_record default_config s [] [] [] ≡ Some p → ⊥
unfolding next_record
none-at-end s p stops e = cc (rw stops at e)

-- there are no more records than bytes
few-from : (n : ℕ) (s : State) (xs : List ℕ) → ends_at_end s ≡ false → length (records_from default_config n s xs) ≤ length xs
unfolding records_from
few-from zero s xs stops = omega arith
few-from (suc n) s [] stops = count-next (records_from default_config n) (next_record default_config s [] [] []) 0 (λ p e. absurd (none-at-end s p stops e))
few-from (suc n) s (c ∷ rest) stops = count-next (records_from default_config n) (next_record default_config s [] [] (c ∷ rest)) (suc (length rest)) (λ p e.
    let less = few-from n p.1 p.2 (record-stops (c ∷ rest) s [] [] p e) in
    let short = shorter default_config s [] [] c rest p e in
    omega (less, short, arith))

stripped : (xs : List ℕ) → length (strip_bom xs) ≤ length xs
unfolding strip_bom
stripped [] = omega arith
stripped (a ∷ []) = omega arith
stripped (a ∷ b ∷ []) = omega arith
stripped (a ∷ b ∷ c ∷ rest) = elim (cases_Bool (is_bom a b c)) [
  | inl mark ↦ rw mark (omega arith)
  | inr plain ↦ rw plain (omega arith)
]

pub few : (bytes : List ℕ) → length (records_in bytes) ≤ length bytes
unfolding records_in
few bytes =
    let less = few-from (length (strip_bom bytes) + 1) st.StartRecord (strip_bom bytes) refl in
    let short = stripped bytes in
    omega (less, short, arith)
