-- How many bytes are answered next.
use Rattle.std.proofs.Common.{◌≡◌, ℕ, zero, suc, ◌+◌, ◌<◌, ◌≤◌, ◌⊎◌, inl, inr, Bool, true, false, cond, ◌||◌, List, [], ◌∷◌, ◌++◌, length, take, get_or, Option, Some, None, refl, sym, ap, ◌∙◌, subst, arith}
use Rattle.std.specs.List.{find, range_with_len}
use Rattle.std.proofs.lemmas.Bool.{cases_lt}
use Rattle.std.proofs.Math.Nat.{eq-or-lt_of_le}
use Rattle.std.proofs.lemmas.List.{take-append-le, take_more, length-append, append_assoc}
use Rattle.range_reply.specs.Heads.{ends_at, next_len}

-- the first number of a range that passes a test
data Finds (p : ℕ → Bool) (a n : ℕ) : Option ℕ → Type 0 where
  at : (k : ℕ) → a ≤ k → k < a + n → p k ≡ true → ((m : ℕ) → a ≤ m → m < k → p m ≡ false) → Finds p a n (Some k)
  nowhere : ((m : ℕ) → a ≤ m → m < a + n → p m ≡ false) → Finds p a n None

-- what holds at a, and above it, holds from a on
from_here : (p : ℕ → Bool) (a m : ℕ) → p a ≡ false → a ≤ m → (a + 1 ≤ m → p m ≡ false) → p m ≡ false
from_here p a m fails low above =
    elim (eq-or-lt_of_le low) [ inl e ↦ ap p (sym e) ∙ fails | inr less ↦ above (omega arith) ]

find_later : (p : ℕ → Bool) (a n : ℕ) (o : Option ℕ) → p a ≡ false → Finds p (a + 1) n o → Finds p a (suc n) o
find_later p a n _ fails (at k low high is first) =
    at k (omega arith) (omega arith) is (λ m below up. from_here p a m fails below (λ over. first m over up))
find_later p a n _ fails (nowhere none) = nowhere (λ m below up. from_here p a m fails below (λ over. none m over (omega arith)))

find_step : (p : ℕ → Bool) (a n : ℕ) (b : Bool) (o : Option ℕ) → p a ≡ b → Finds p (a + 1) n o → Finds p a (suc n) (cond b (Some a) o)
find_step p a n true o e later = at a (omega arith) (omega arith) e (λ m low high. absurd (omega arith))
find_step p a n false o e later = find_later p a n o e later

finds : (p : ℕ → Bool) (a n : ℕ) → Finds p a n (find p (range_with_len a n))
finds p a zero = nowhere (λ m low high. absurd (omega arith))
finds p a (suc n) = find_step p a n (p a) _ refl (finds p (a + 1) n)

-- so many bytes are answered next
pub record IsNext (bytes : List ℕ) (n : ℕ) : Type 0 where
  pub within : n ≤ length bytes
  pub ends : ends_at bytes n ≡ true
  pub first : (m : ℕ) → m < n → ends_at bytes m ≡ false

-- none are
pub record HasNone (bytes : List ℕ) : Type 0 where
  pub none : (m : ℕ) → m ≤ length bytes → ends_at bytes m ≡ false

data Judges (bytes : List ℕ) : Option ℕ → Type 0 where
  next : (n : ℕ) → IsNext bytes n → Judges bytes (Some n)
  nothing : HasNone bytes → Judges bytes None

judges_found : (bytes : List ℕ) (o : Option ℕ) → Finds (ends_at bytes) 0 (length bytes + 1) o → Judges bytes o
judges_found bytes _ (at k low high is before) = next k (record {
  within = omega arith;
  ends = is;
  first = λ m below. before m (omega arith) below;
})
judges_found bytes _ (nowhere never) = nothing (record { none = λ m high. never m (omega arith) (omega arith) })

judges : (bytes : List ℕ) → Judges bytes (next_len bytes)
unfolding next_len
judges bytes = judges_found bytes _ (finds (ends_at bytes) 0 (length bytes + 1))

not_both : (b : Bool) → b ≡ true → b ≡ false → ⊥
not_both b yes_it no_it = cc

-- what next_len says, both ways
next_of : (bytes : List ℕ) (o : Option ℕ) (n : ℕ) → Judges bytes o → o ≡ Some n → IsNext bytes n
next_of bytes _ n (next k is) e = let same : k ≡ n = cc in subst (IsNext bytes) same is
next_of bytes _ n (nothing none) e = cc

pub is_next : (bytes : List ℕ) (n : ℕ) → next_len bytes ≡ Some n → IsNext bytes n
is_next bytes n e = next_of bytes (next_len bytes) n (judges bytes) e

none_of : (bytes : List ℕ) (o : Option ℕ) → Judges bytes o → o ≡ None → HasNone bytes
none_of bytes _ (next k is) e = cc
none_of bytes _ (nothing none) e = none

pub is_none : (bytes : List ℕ) → next_len bytes ≡ None → HasNone bytes
is_none bytes e = none_of bytes (next_len bytes) (judges bytes) e

one_next : (bytes : List ℕ) (n k : ℕ) → IsNext bytes n → IsNext bytes k → n ≡ k
one_next bytes n k a b =
    elim (cases_lt n k) [
      | inl less ↦ absurd (not_both (ends_at bytes n) a.ends (b.first n less))
      | inr more ↦ elim (eq-or-lt_of_le more) [ inl e ↦ sym e | inr less ↦ absurd (not_both (ends_at bytes k) b.ends (a.first k less)) ]
    ]

of_next : (bytes : List ℕ) (o : Option ℕ) (n : ℕ) → Judges bytes o → IsNext bytes n → o ≡ Some n
of_next bytes _ n (next k is) at_n = ap Some (one_next bytes k n is at_n)
of_next bytes _ n (nothing none) at_n = absurd (not_both (ends_at bytes n) at_n.ends (none.none n at_n.within))

pub next_is : (bytes : List ℕ) (n : ℕ) → IsNext bytes n → next_len bytes ≡ Some n
next_is bytes n is = of_next bytes (next_len bytes) n (judges bytes) is

of_none : (bytes : List ℕ) (o : Option ℕ) → Judges bytes o → HasNone bytes → o ≡ None
of_none bytes _ (next k is) none = absurd (not_both (ends_at bytes k) is.ends (none.none k is.within))
of_none bytes _ (nothing none) _ = refl

pub none_is : (bytes : List ℕ) → HasNone bytes → next_len bytes ≡ None
none_is bytes none = of_none bytes (next_len bytes) (judges bytes) none

-- there is one or there is none
pub next_cases : (bytes : List ℕ) → ((n : ℕ) × (next_len bytes ≡ Some n)) ⊎ (next_len bytes ≡ None)
next_cases bytes = cases (next_len bytes) refl
  where
    cases : (o : Option ℕ) → next_len bytes ≡ o → ((n : ℕ) × (next_len bytes ≡ Some n)) ⊎ (next_len bytes ≡ None)
    cases (Some n) e = inl (n, e)
    cases None e = inr e

-- the end of a front is seen in the front
pub ends_front : (a b : List ℕ) (m : ℕ) → m ≤ length a → ends_at (a ++ b) m ≡ ends_at a m
ends_front a b m low = rw (take-append-le m a b low)

or_right : (a b : Bool) → b ≡ true → (a || b) ≡ true
or_right true b e = refl
or_right false b e = e

-- 8,192 bytes end
pub ends_long : (bytes : List ℕ) → ends_at bytes 8192 ≡ true
ends_long bytes = or_right _ true refl

pub short_next : (bytes : List ℕ) (n : ℕ) → IsNext bytes n → n ≤ 8192
short_next bytes n is =
    elim (cases_lt 8192 n) [ inl less ↦ absurd (not_both _ (ends_long bytes) (is.first 8192 less)) | inr low ↦ low ]

pub short_none : (bytes : List ℕ) → HasNone bytes → length bytes < 8192
short_none bytes never =
    elim (cases_lt (length bytes) 8192) [ inl less ↦ less | inr high ↦ absurd (not_both _ (ends_long bytes) (never.none 8192 high)) ]

pub none_short : (bytes : List ℕ) → next_len bytes ≡ None → length bytes < 8192
none_short bytes e = short_none bytes (is_none bytes e)

-- no bytes have no end
pub nothing_ends : next_len [] ≡ None
unfolding next_len
nothing_ends = refl

-- a front that ends, and one that does not
pub next_front : (a b : List ℕ) (n : ℕ) → next_len a ≡ Some n → next_len (a ++ b) ≡ Some n
next_front a b n e =
    let is = is_next a n e in
    next_is (a ++ b) n (record {
      within = omega (arith, length-append a b, is.within);
      ends = ends_front a b n is.within ∙ is.ends;
      first = λ m below. ends_front a b m (omega (arith, is.within)) ∙ is.first m below;
    })

pub none_front : (a b : List ℕ) → next_len (a ++ b) ≡ None → next_len a ≡ None
none_front a b e =
    let never = is_none (a ++ b) e in
    none_is a (record { none = λ m low. sym (ends_front a b m low) ∙ never.none m (omega (arith, length-append a b)) })

-- the next end stands behind a front without one
pub next_behind : (a b : List ℕ) (n : ℕ) → next_len a ≡ None → next_len (a ++ b) ≡ Some n → length a < n
next_behind a b n none e =
    let is = is_next (a ++ b) n e in
    let never = is_none a none in
    elim (cases_lt (length a) n) [
      | inl less ↦ less
      | inr low ↦ absurd (not_both _ is.ends (ends_front a b n low ∙ never.none n low))
    ]

-- the next end is seen in the bytes up to it
pub next_taken : (bytes : List ℕ) (n : ℕ) → next_len bytes ≡ Some n → (front rest : List ℕ) → bytes ≡ front ++ rest → length front ≡ n
    → next_len front ≡ Some n
next_taken bytes n e front rest whole len =
    let is = is_next (front ++ rest) n (ap next_len (sym whole) ∙ e) in
    next_is front n (record {
      within = omega arith;
      ends = sym (ends_front front rest n (omega arith)) ∙ is.ends;
      first = λ m below. sym (ends_front front rest m (omega arith)) ∙ is.first m below;
    })

-- one byte more
ends_grown : (a : List ℕ) (byte : ℕ) → next_len a ≡ None → ends_at (a ++ byte ∷ []) (length (a ++ byte ∷ [])) ≡ true
    → next_len (a ++ byte ∷ []) ≡ Some (length (a ++ byte ∷ []))
ends_grown a byte none e =
    let never = is_none a none in
    next_is (a ++ byte ∷ []) (length (a ++ byte ∷ [])) (record {
      within = omega arith;
      ends = e;
      first = λ m below.
          let low : m ≤ length a = omega (arith, length-append a (byte ∷ [])) in
          ends_front a (byte ∷ []) m low ∙ never.none m low;
    })

pub ends_now : (a : List ℕ) (byte : ℕ) (b : List ℕ) → next_len a ≡ None → b ≡ a ++ byte ∷ [] → ends_at b (length b) ≡ true → next_len b ≡ Some (length b)
ends_now a byte b none e ends =
    subst (λ xs. next_len xs ≡ Some (length xs)) (sym e) (ends_grown a byte none (ap (λ xs. ends_at xs (length xs)) (sym e) ∙ ends))

unended_grown : (a : List ℕ) (byte : ℕ) → next_len a ≡ None → ends_at (a ++ byte ∷ []) (length (a ++ byte ∷ [])) ≡ false
    → next_len (a ++ byte ∷ []) ≡ None
unended_grown a byte none e = none_is (a ++ byte ∷ []) (record { none = λ m high. at_m m high })
  where
    at_m : (m : ℕ) → m ≤ length (a ++ byte ∷ []) → ends_at (a ++ byte ∷ []) m ≡ false
    at_m m high = elim (eq-or-lt_of_le high) [
      | inl same ↦ ap (ends_at (a ++ byte ∷ [])) same ∙ e
      | inr less ↦
          let low : m ≤ length a = omega (arith, length-append a (byte ∷ [])) in
          ends_front a (byte ∷ []) m low ∙ (is_none a none).none m low
    ]

pub ends_not_yet : (a : List ℕ) (byte : ℕ) (b : List ℕ) → next_len a ≡ None → b ≡ a ++ byte ∷ [] → ends_at b (length b) ≡ false → next_len b ≡ None
ends_not_yet a byte b none e still =
    ap next_len e ∙ unended_grown a byte none (ap (λ xs. ends_at xs (length xs)) (sym e) ∙ still)

-- what is kept of a piece
pub kept_more : (old kept new piece : List ℕ) (i : ℕ) → i < length piece → kept ≡ old ++ take i piece → new ≡ kept ++ get_or piece i 0 ∷ []
    → new ≡ old ++ take (i + 1) piece
kept_more old kept new piece i low e f =
    f ∙ ap (λ xs. xs ++ get_or piece i 0 ∷ []) e ∙ append_assoc old (take i piece) (get_or piece i 0 ∷ [])
    ∙ ap (λ xs. old ++ xs) (sym (take_more piece i 0 low))
