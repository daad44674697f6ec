-- What a core uses of a piece.
use Rattle.std.proofs.Common.{◌≡◌, ℕ, ◌-◌, ◌<◌, ◌≤◌, inl, inr, Bool, true, false, cond, List, [], ◌++◌, length, take, drop, Option, Some, None, refl, sym, ap, ◌∙◌, subst, arith}
use Rattle.std.specs.Prelude.{unwrap_or}
use Rattle.std.proofs.lemmas.List.{take-append-drop, length-append, length-take-le, take_all, append_assoc}
use Rattle.range_reply.specs.Heads.{next_len}
use Rattle.range_server.specs.Core.{Core, IsSound, used_len, used_of}
use Rattle.range_server.proofs.Nexts.{is_next, next_behind, next_cases, next_front, next_taken}

-- bytes that a core uses: none where it is closed, else bytes that end no head, or bytes that end one
pub data Uses (core : Core) (used : List ℕ) : Type 0 where
  spent : core.closed ≡ true → used ≡ [] → Uses core used
  waits : core.closed ≡ false → next_len (core.kept ++ used) ≡ None → Uses core used
  answers : core.closed ≡ false → next_len (core.kept ++ used) ≡ Some (length (core.kept ++ used)) → Uses core used

-- how many that are
pub none_of_closed : (core : Core) (piece : List ℕ) → core.closed ≡ true → used_len core piece ≡ 0
none_of_closed core piece e = ap (λ b. cond b 0 (unwrap_or (next_len (core.kept ++ piece)) (length (core.kept ++ piece)) - length core.kept)) e

pub all_where_none : (core : Core) (piece : List ℕ) → core.closed ≡ false → next_len (core.kept ++ piece) ≡ None → used_len core piece ≡ length piece
all_where_none core piece e none =
    let len = length-append core.kept piece in
    let least : length (core.kept ++ piece) - length core.kept ≡ length piece = omega arith in
    ap (λ b. cond b 0 (unwrap_or (next_len (core.kept ++ piece)) (length (core.kept ++ piece)) - length core.kept)) e
    ∙ ap (λ o. unwrap_or o (length (core.kept ++ piece)) - length core.kept) none ∙ least

pub up_to_next : (core : Core) (piece : List ℕ) (n : ℕ) → core.closed ≡ false → next_len (core.kept ++ piece) ≡ Some n
    → used_len core piece ≡ n - length core.kept
up_to_next core piece n e some =
    ap (λ b. cond b 0 (unwrap_or (next_len (core.kept ++ piece)) (length (core.kept ++ piece)) - length core.kept)) e
    ∙ ap (λ o. unwrap_or o (length (core.kept ++ piece)) - length core.kept) some

-- a front of the piece that ends a head is what is used
pub used_to_end : (core : Core) (piece : List ℕ) (n : ℕ) → core.closed ≡ false → n ≤ length piece
    → next_len (core.kept ++ take n piece) ≡ Some (length (core.kept ++ take n piece)) → used_len core piece ≡ n
used_to_end core piece n e fits some =
    let whole : core.kept ++ piece ≡ core.kept ++ take n piece ++ drop n piece =
    ap (λ xs. core.kept ++ xs) (sym (take-append-drop n piece)) ∙ sym (append_assoc core.kept (take n piece) (drop n piece)) in
    let at_end = up_to_next core piece (length (core.kept ++ take n piece)) e
    (ap next_len whole ∙ next_front (core.kept ++ take n piece) (drop n piece) _ some) in
    let len = length-append core.kept (take n piece) in
    let short = length-take-le n piece fits in
    omega arith

-- some bytes of a piece are used, and no more than all
pub used_some : (core : Core) → IsSound core → (piece : List ℕ) → core.closed ≡ false → 0 < length piece → 0 < used_len core piece
used_some core sound piece e some = elim (next_cases (core.kept ++ piece)) [
  | inl next ↦
      let over = next_behind core.kept piece next.0 sound.unended next.1 in
      let is = up_to_next core piece next.0 e next.1 in
      omega arith
  | inr none ↦ let is = all_where_none core piece e none in omega arith
]

pub uses_of : (core : Core) → IsSound core → (piece : List ℕ) → Uses core (used_of core piece)
uses_of core sound piece = by_closed core.closed refl
  where
    by_next : core.closed ≡ false → (o : Option ℕ) → next_len (core.kept ++ piece) ≡ o → Uses core (used_of core piece)
    by_next e None none =
        let all : used_of core piece ≡ piece = ap (λ n. take n piece) (all_where_none core piece e none) ∙ take_all (length piece) piece (omega arith) in
        waits e (ap (λ xs. next_len (core.kept ++ xs)) all ∙ none)
    by_next e (Some n) some =
        let is = is_next (core.kept ++ piece) n some in
        let len = length-append core.kept piece in
        let over = next_behind core.kept piece n sound.unended some in
        let used : used_of core piece ≡ take (n - length core.kept) piece = ap (λ k. take k piece) (up_to_next core piece n e some) in
        let front = core.kept ++ take (n - length core.kept) piece in
        let whole : core.kept ++ piece ≡ front ++ drop (n - length core.kept) piece =
        ap (λ xs. core.kept ++ xs) (sym (take-append-drop (n - length core.kept) piece))
        ∙ sym (append_assoc core.kept (take (n - length core.kept) piece) (drop (n - length core.kept) piece)) in
        let fits : n - length core.kept ≤ length piece = omega (arith, is.within) in
        let long : length front ≡ n =
        length-append core.kept (take (n - length core.kept) piece) ∙ (let short = length-take-le (n - length core.kept) piece fits in omega arith) in
        let at_front : next_len front ≡ Some (length front) = next_taken (core.kept ++ piece) n some front (drop (n - length core.kept) piece) whole long ∙ ap Some (sym long) in
        answers e (subst (λ xs. next_len (core.kept ++ xs) ≡ Some (length (core.kept ++ xs))) (sym used) at_front)

    by_closed : (b : Bool) → core.closed ≡ b → Uses core (used_of core piece)
    by_closed true e = spent e (ap (λ n. take n piece) (none_of_closed core piece e))
    by_closed false e = by_next e (next_len (core.kept ++ piece)) refl
