-- Numbers in bytes, and a part of some bytes that is written over.
use Rattle.std.proofs.Common.{Result, Ok, Err, OnOk, is_ok, if◌then◌else◌, ◌≡◌, ℕ, ◌+◌, ◌-◌, ◌≤◌, List, ◌++◌, length, take, drop, sym, ap, ◌∙◌, arith, length-append, length-take, length-drop, append_assoc}
use Rattle.std.proofs.lemmas.List.{take_at}
use borrow.Rule.Slice.PartMut.{post_of, Post-is}

-- a part of w bytes from p on is written over, as a slice of a `Vec` shows it
pub written : (old now part x : List ℕ) (p w len : ℕ) → now ≡ old → length old ≡ len → p + w ≤ len → part ≡ x → length x ≡ w
    → take len (take p now ++ (part ++ post_of p (p + w - p) now) ++ drop (length (take p now ++ (part ++ post_of p (p + w - p) now))) old)
    ≡ take p old ++ x ++ drop (p + w) old
written old now part x p w len same told inside is wide =
    ap (λ s. take len (take p s ++ (part ++ post_of p (p + w - p) s) ++ drop (length (take p s ++ (part ++ post_of p (p + w - p) s))) old)) same
    ∙ ap (λ s. take len (take p old ++ (s ++ post_of p (p + w - p) old) ++ drop (length (take p old ++ (s ++ post_of p (p + w - p) old))) old)) is
    ∙ ap (λ s. take len (take p old ++ (x ++ s) ++ drop (length (take p old ++ (x ++ s))) old)) (Post-is p (p + w) old (omega arith))
    ∙ take_at (take p old ++ (x ++ drop (p + w) old)) _ len (simp (length-append, length-take, length-drop) (omega arith))
    ∙ sym (append_assoc (take p old) x (drop (p + w) old))

-- what a call appends where it succeeds, by equal bytes
pub appended : {T E : Type 0} (r : Result T E) (new old part x : List ℕ) → new ≡ (if is_ok r then old ++ part else old) → part ≡ x → OnOk r (new ≡ old ++ x)
appended (Ok t) new old part x after is = after ∙ ap (λ s. old ++ s) is
appended (Err e) new old part x after is = tt
