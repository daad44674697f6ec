-- Where a core is led.
use Rattle.std.proofs.Common.{◌≡◌, ℕ, zero, suc, ◌+◌, ◌-◌, ◌*◌, ◌<◌, ◌≤◌, ◌⊎◌, inl, inr, Bool, true, false, cond, ◌==◌, ◌||◌, List, [], ◌∷◌, ◌++◌, length, take, drop, Some, None, refl, sym, ap, ◌∙◌, subst, arith}
use Rattle.std.specs.Prelude.{is_some}
use Rattle.std.specs.Option.{option_map_or}
use Rattle.std.specs.List.{list_any}
use Rattle.std.proofs.Math.Seq.{take-append_seam, drop-append_seam}
use Rattle.std.proofs.lemmas.List.{append_assoc, append-nil, length-append}
use Rattle.std.proofs.lemmas.List.Folds.{list_any-append}
use Rattle.std.proofs.Math.Nat.{eq-or-lt_of_le}
use Rattle.range_reply.specs.Replies.{closes_after}
use Rattle.range_reply.specs.Heads.{heads_within, most_heads, next_len}
use Rattle.range_server.specs.Core.{Core, IsSound, after, answered_with, behind_answer}
use Rattle.range_server.specs.Paths.{Path, heads_left, room}
use Rattle.range_server.proofs.Nexts.{is_next, next_front, none_short, nothing_ends, short_next}
use Rattle.range_server.proofs.Cuts.{Uses}
use Rattle.range_server.proofs.Cuts.Uses.{spent, waits, answers}

-- the heads of bytes
pub heads_next : (left : ℕ) (bytes : List ℕ) (n : ℕ) → next_len bytes ≡ Some n
    → heads_within (suc left) bytes ≡ take n bytes ∷ (cond (closes_after (take n bytes)) [] (heads_within left (drop n bytes)))
unfolding heads_within
heads_next left bytes n e =
    ap (λ o. option_map_or (λ n. take n bytes ∷ (cond (closes_after (take n bytes)) [] (heads_within left (drop n bytes)))) o []) e

pub heads_none : (left : ℕ) (bytes : List ℕ) → next_len bytes ≡ None → heads_within left bytes ≡ []
unfolding heads_within
heads_none zero bytes e = refl
heads_none (suc left) bytes e =
    ap (λ o. option_map_or (λ n. take n bytes ∷ (cond (closes_after (take n bytes)) [] (heads_within left (drop n bytes)))) o []) e

pub heads_zero : (bytes : List ℕ) → heads_within 0 bytes ≡ []
unfolding heads_within
heads_zero bytes = refl

-- the heads that are left for a core
pub left_closed : (core : Core) (bytes : List ℕ) → core.closed ≡ true → heads_left core bytes ≡ []
left_closed core bytes e = ap (λ b. cond b [] (heads_within (most_heads - core.answered) (core.kept ++ bytes))) e

pub left_open : (core : Core) (bytes : List ℕ) → core.closed ≡ false → heads_left core bytes ≡ heads_within (most_heads - core.answered) (core.kept ++ bytes)
left_open core bytes e = ap (λ b. cond b [] (heads_within (most_heads - core.answered) (core.kept ++ bytes))) e

pub left_none : (core : Core) (bytes : List ℕ) → next_len (core.kept ++ bytes) ≡ None → heads_left core bytes ≡ []
left_none core bytes none = by_closed core.closed refl
  where
    by_closed : (b : Bool) → core.closed ≡ b → heads_left core bytes ≡ []
    by_closed true e = left_closed core bytes e
    by_closed false e = left_open core bytes e ∙ heads_none _ _ none

pub left_nothing : (core : Core) → IsSound core → heads_left core [] ≡ []
left_nothing core sound = left_none core [] (ap next_len (append-nil core.kept) ∙ sound.unended)

-- a core behind bytes that end no head, and behind a head
after_none : (core : Core) (used : List ℕ) → next_len (core.kept ++ used) ≡ None → after core used ≡ record core { kept = core.kept ++ used }
after_none core used none = ap (λ o. cond (is_some o) (behind_answer core (core.kept ++ used)) (record core { kept = core.kept ++ used })) none

after_some : (core : Core) (used : List ℕ) (n : ℕ) → next_len (core.kept ++ used) ≡ Some n → after core used ≡ behind_answer core (core.kept ++ used)
after_some core used n some = ap (λ o. cond (is_some o) (behind_answer core (core.kept ++ used)) (record core { kept = core.kept ++ used })) some

pub answered_none : (core : Core) (used : List ℕ) → next_len (core.kept ++ used) ≡ None → answered_with core used ≡ []
answered_none core used none = ap (λ o. cond (is_some o) ((core.kept ++ used) ∷ []) []) none

pub answered_some : (core : Core) (used : List ℕ) (n : ℕ) → next_len (core.kept ++ used) ≡ Some n → answered_with core used ≡ (core.kept ++ used) ∷ []
answered_some core used n some = ap (λ o. cond (is_some o) ((core.kept ++ used) ∷ []) []) some

eq_false_or : (a b : Bool) → (a || b) ≡ false → (a ≡ false) × (b ≡ false)
eq_false_or true b e = cc
eq_false_or false b e = (refl, e)

eq_true_or : (a b : Bool) → (a || b) ≡ true → (a ≡ true) ⊎ (b ≡ true)
eq_true_or true b e = inl refl
eq_true_or false b e = inr e

eqb_false : (a b : ℕ) → (a == b) ≡ false → a ≡ b → ⊥
eqb_false a b e same = grind arith

eqb_true : (a b : ℕ) → (a == b) ≡ true → a ≡ b
eqb_true a b e = grind arith

-- behind a head the heads that are left are the others
left_behind : (core : Core) (head more : List ℕ) → core.answered < most_heads
    → cond (closes_after head) [] (heads_within (most_heads - (core.answered + 1)) more) ≡ heads_left (behind_answer core head) more
left_behind core head more below = by_closes (closes_after head) (core.answered + 1 == most_heads) refl
  where
    by_closes : (c l : Bool) → (core.answered + 1 == most_heads) ≡ l
        → cond c [] (heads_within (most_heads - (core.answered + 1)) more) ≡ cond (c || l) [] (heads_within (most_heads - (core.answered + 1)) more)
    by_closes true l e = refl
    by_closes false false e = refl
    by_closes false true e =
        let all = eqb_true _ _ e in
        let none : most_heads - (core.answered + 1) ≡ 0 = omega arith in
        ap (λ n. heads_within n more) none ∙ heads_zero more

pub sound_behind : (core : Core) (head : List ℕ) → IsSound core → core.closed ≡ false → IsSound (behind_answer core head)
sound_behind core head sound e =
    let below = sound.open_below e in
    record {
      unended = nothing_ends;
      spent = λ _. refl;
      most = omega arith;
      open_below = λ still.
          let other = eqb_false _ _ (eq_false_or (closes_after head) (core.answered + 1 == most_heads) still).1 in
          elim (eq-or-lt_of_le (let low : core.answered + 1 ≤ most_heads = omega arith in low)) [ inl same ↦ absurd (other same) | inr less ↦ less ];
    }

-- the same of a core whose parts are known by equations
pub sound_answered : (core : Core) (head kept : List ℕ) (closed : Bool) → IsSound core → core.closed ≡ false → kept ≡ []
    → closed ≡ (closes_after head || (core.answered + 1 == most_heads))
    → IsSound (record { size = core.size; kept = kept; answered = core.answered + 1; closed = closed })
sound_answered core head kept closed sound e none is =
    let make : List ℕ → Bool → Core = λ xs b. record { size = core.size; kept = xs; answered = core.answered + 1; closed = b } in
    subst (λ xs. IsSound (make xs closed)) (sym none) (subst (λ b. IsSound (make [] b)) (sym is) (sound_behind core head sound e))

sound_waits : (core : Core) (used : List ℕ) → IsSound core → core.closed ≡ false → next_len (core.kept ++ used) ≡ None → IsSound (record core { kept = core.kept ++ used })
sound_waits core used sound e none = record {
  unended = none;
  spent = λ shut. cc;
  most = sound.most;
  open_below = sound.open_below;
}

-- how many bytes it uses at the most
room_open : (core : Core) → core.closed ≡ false → room core ≡ (most_heads - core.answered) * 8192 - length core.kept
room_open core e = ap (λ b. cond b 0 ((most_heads - core.answered) * 8192 - length core.kept)) e

room_at_most : (core : Core) → room core ≤ (most_heads - core.answered) * 8192 - length core.kept
room_at_most core = by_closed core.closed refl
  where
    by_closed : (b : Bool) → core.closed ≡ b → room core ≤ (most_heads - core.answered) * 8192 - length core.kept
    by_closed true e =
        let none : room core ≡ 0 = ap (λ b. cond b 0 ((most_heads - core.answered) * 8192 - length core.kept)) e in
        omega arith
    by_closed false e = let all = room_open core e in omega arith

-- in room numbers alone
room_waits : (left kept used whole a b : ℕ) → 0 < left → whole ≡ kept + used → whole < 8192 → a ≡ left * 8192 - kept → b ≡ left * 8192 - whole
    → b + used ≤ a
room_waits left kept used whole a b some e short is_a is_b = omega arith

room_answers : (left later kept used whole a b : ℕ) → left ≡ later + 1 → whole ≡ kept + used → whole ≤ 8192 → a ≡ left * 8192 - kept → b ≤ later * 8192 - 0
    → b + used ≤ a
room_answers left later kept used whole a b e whole_is short is_a is_b = omega arith

pub room_some : (core : Core) → IsSound core → core.closed ≡ false → 0 < room core
room_some core sound e =
    let all = room_open core e in
    let below = sound.open_below e in
    let short = none_short core.kept sound.unended in
    omega arith

-- no bytes
pub path_none : (core : Core) → IsSound core → Path core [] [] core
path_none core sound = record {
  sound = sound;
  size = refl;
  left = λ more. refl;
  room_left = omega arith;
  count = omega arith;
  closing = λ e. inl e;
}

path_waits : (core : Core) (used : List ℕ) → IsSound core → core.closed ≡ false → next_len (core.kept ++ used) ≡ None
    → Path core used [] (record core { kept = core.kept ++ used })
path_waits core used sound e none = record {
  sound = sound_waits core used sound e none;
  size = refl;
  left = λ more. ap (λ xs. cond core.closed [] (heads_within (most_heads - core.answered) xs)) (sym (append_assoc core.kept used more));
  room_left =
      let next = record core { kept = core.kept ++ used } in
      let below = sound.open_below e in
      room_waits (most_heads - core.answered) (length core.kept) (length used) (length (core.kept ++ used)) (room core) (room next) (omega arith)
      (length-append core.kept used) (none_short (core.kept ++ used) none) (room_open core e) (room_open next e);
  count = omega arith;
  closing = λ shut. cc;
}

path_answers : (core : Core) (used : List ℕ) → IsSound core → core.closed ≡ false → next_len (core.kept ++ used) ≡ Some (length (core.kept ++ used))
    → Path core used ((core.kept ++ used) ∷ []) (behind_answer core (core.kept ++ used))
path_answers core used sound e some =
    let below = sound.open_below e in
    record {
      sound = sound_behind core (core.kept ++ used) sound e;
      size = refl;
      left = λ more. left_more more;
      room_left =
          let next = behind_answer core (core.kept ++ used) in
          room_answers (most_heads - core.answered) (most_heads - (core.answered + 1)) (length core.kept) (length used) (length (core.kept ++ used)) (room core) (room next)
          (omega arith) (length-append core.kept used) (short_next (core.kept ++ used) _ (is_next (core.kept ++ used) _ some)) (room_open core e) (room_at_most next);
      count = refl;
      closing = λ shut. closes shut;
    }
  where
    head : List ℕ
    head = core.kept ++ used

    left_more : (more : List ℕ) → heads_left core (used ++ more) ≡ (core.kept ++ used) ∷ heads_left (behind_answer core (core.kept ++ used)) more
    left_more more =
        let below = sound.open_below e in
        let one_less : most_heads - core.answered ≡ suc (most_heads - (core.answered + 1)) = omega arith in
        let h = core.kept ++ used in
        left_open core (used ++ more) e
        ∙ ap (λ xs. heads_within (most_heads - core.answered) xs) (sym (append_assoc core.kept used more))
        ∙ ap (λ n. heads_within n (h ++ more)) one_less
        ∙ heads_next (most_heads - (core.answered + 1)) (h ++ more) (length h) (next_front h more (length h) some)
        ∙ ap (λ xs. xs ∷ (cond (closes_after xs) [] (heads_within (most_heads - (core.answered + 1)) (drop (length h) (h ++ more))))) (take-append_seam h more)
        ∙ ap (λ xs. h ∷ (cond (closes_after h) [] (heads_within (most_heads - (core.answered + 1)) xs))) (drop-append_seam h more)
        ∙ ap (λ xs. h ∷ xs) (left_behind core h more below)

    closes : (behind_answer core (core.kept ++ used)).closed ≡ true
        → (core.closed ≡ true) ⊎ ((list_any closes_after ((core.kept ++ used) ∷ []) ≡ true) ⊎ (core.answered + 1 ≡ most_heads))
    closes shut = elim (eq_true_or (closes_after (core.kept ++ used)) (core.answered + 1 == most_heads) shut) [
      | inl c ↦ inr (inl (ap (λ b. b || false) c))
      | inr l ↦ inr (inr (eqb_true _ _ l))
    ]

-- one step
pub path_of : (core : Core) (used : List ℕ) → IsSound core → Uses core used → Path core used (answered_with core used) (after core used)
path_of core used sound (spent e none) = subst (λ xs. Path core xs (answered_with core xs) (after core xs)) (sym none) (at_nothing (core.kept) refl)
  where
    at_nothing : (kept : List ℕ) → core.kept ≡ kept → Path core [] (answered_with core []) (after core [])
    at_nothing kept is =
        let no_end : next_len (core.kept ++ []) ≡ None = ap next_len (append-nil core.kept) ∙ sound.unended in
        let same : record core { kept = core.kept ++ [] } ≡ core = ap (λ xs. record core { kept = xs }) (append-nil core.kept) in
        let none_answered : answered_with core [] ≡ [] = answered_none core [] no_end in
        let still : after core [] ≡ core = after_none core [] no_end ∙ same in
        subst (λ hs. Path core [] hs (after core [])) (sym none_answered) (subst (Path core [] []) (sym still) (path_none core sound))
path_of core used sound (waits e none) =
    subst (λ hs. Path core used hs (after core used)) (sym (answered_none core used none))
    (subst (Path core used []) (sym (after_none core used none)) (path_waits core used sound e none))
path_of core used sound (answers e some) =
    subst (λ hs. Path core used hs (after core used)) (sym (answered_some core used _ some))
    (subst (Path core used ((core.kept ++ used) ∷ [])) (sym (after_some core used _ some)) (path_answers core used sound e some))

-- one way after another
pub path_path : (a b c : Core) (u v : List ℕ) (hs ks : List (List ℕ)) → Path a u hs b → Path b v ks c → Path a (u ++ v) (hs ++ ks) c
path_path a b c u v hs ks p q =
    record {
      sound = q.sound;
      size = q.size ∙ p.size;
      left = λ more.
          ap (heads_left a) (append_assoc u v more) ∙ p.left (v ++ more) ∙ ap (λ xs. hs ++ xs) (q.left more)
          ∙ sym (append_assoc hs ks (heads_left c more));
      room_left = omega (arith, length-append u v, p.room_left, q.room_left);
      count = omega (arith, length-append hs ks, p.count, q.count);
      closing = λ shut. elim (q.closing shut) [
        | inl before ↦ elim (p.closing before) [
          | inl first ↦ inl first
          | inr (inl any) ↦ inr (inl (list_any-append closes_after hs ks ∙ ap (λ t. t || list_any closes_after ks) any))
          | inr (inr most) ↦ inr (inr (omega (arith, p.count, q.count, q.sound.most)))
        ]
        | inr (inl any) ↦ inr (inl (list_any-append closes_after hs ks ∙ or_true (list_any closes_after hs) (list_any closes_after ks) any))
        | inr (inr most) ↦ inr (inr most)
      ];
    }
  where
    or_true : (x y : Bool) → y ≡ true → (x || y) ≡ true
    or_true true y e = refl
    or_true false y e = e
