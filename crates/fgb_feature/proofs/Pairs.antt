-- A whole pair, and what the pair at a place breaks: it is what it breaks at the front of the bytes from there on.
use Rattle.std.proofs.Common.{◌≡◌, ℕ, ◌+◌, ◌<◌, ◌≤◌, nat_le, nat_lt, ◌&&◌, true, false, List, length, drop, sym, subst, ◌∙◌, arith}
use Rattle.std.proofs.lemmas.Bool.{and_parts, and_from, leb-true, ltb-true, le-leb, lt-ltb, true≢false}
use Rattle.std.proofs.lemmas.List.{length-drop, drop-drop}
use Rattle.flat_layout.specs.declared.Rule.{Rule}
use Rattle.fgb_values.specs.Values.{fits, size_in, width}
use Rattle.fgb_schema.specs.Properties.{key, type_under, is_pair, pair_size, BreaksPair, cut_key, no_column, cut_value}

-- a whole pair, by its parts
pub record IsWhole (kinds b : List ℕ) : Type 0 where
  pub keyed : 2 ≤ length b
  pub column : key b < length kinds
  pub fitting : fits (type_under kinds b) (drop 2 b) ≡ true

pub whole : (kinds b : List ℕ) → is_pair kinds b ≡ true → IsWhole kinds b
unfolding is_pair
whole kinds b is =
    let both = and_parts (nat_le 2 (length b) && nat_lt (key b) (length kinds)) (fits (type_under kinds b) (drop 2 b)) is in
    let front = and_parts (nat_le 2 (length b)) (nat_lt (key b) (length kinds)) both.0 in
    record { keyed = leb-true 2 (length b) front.0; column = ltb-true (key b) (length kinds) front.1; fitting = both.1 }

pub is_whole : (kinds b : List ℕ) → IsWhole kinds b → is_pair kinds b ≡ true
unfolding is_pair
is_whole kinds b pair =
    and_from (nat_le 2 (length b) && nat_lt (key b) (length kinds)) (fits (type_under kinds b) (drop 2 b))
    (and_from (nat_le 2 (length b)) (nat_lt (key b) (length kinds)) (le-leb 2 (length b) pair.keyed) (lt-ltb (key b) (length kinds) pair.column))
    pair.fitting

-- it takes at least the bytes of its key, and has them all
pub size_least : (kinds b : List ℕ) → 2 ≤ pair_size kinds b
unfolding pair_size
size_least kinds b = omega arith

fits_within : (kind : ℕ) (b : List ℕ) → fits kind b ≡ true → size_in kind b ≤ length b
unfolding fits
fits_within kind b is = leb-true (size_in kind b) (length b) (and_parts (nat_le (width kind) (length b)) (nat_le (size_in kind b) (length b)) is).1

pub size_most : (kinds b : List ℕ) → is_pair kinds b ≡ true → pair_size kinds b ≤ length b
unfolding pair_size
size_most kinds b is =
    let pair = whole kinds b is in
    omega (arith, pair.keyed, fits_within (type_under kinds b) (drop 2 b) pair.fitting, length-drop 2 b)

-- the same thing is broken at a place, and at the front of the bytes from there on
to_front : (kinds b : List ℕ) (at : ℕ) (r : Rule) → BreaksPair kinds b at r → BreaksPair kinds (drop at b) 0 r
to_front kinds b at r (cut_key short) = cut_key (omega (arith, short, length-drop at b))
to_front kinds b at r (no_column long none) = no_column (omega (arith, long, length-drop at b)) none
to_front kinds b at r (cut_value long early cut) = cut_value (omega (arith, long, length-drop at b)) early
    (subst (λ rest. fits (type_under kinds (drop at b)) rest ≡ false) (sym (drop-drop 2 at b)) cut)

from_front : (kinds b : List ℕ) (at : ℕ) (r : Rule) → BreaksPair kinds (drop at b) 0 r → BreaksPair kinds b at r
from_front kinds b at r (cut_key short) = cut_key (omega (arith, short, length-drop at b))
from_front kinds b at r (no_column long none) = no_column (omega (arith, long, length-drop at b)) none
from_front kinds b at r (cut_value long early cut) = cut_value (omega (arith, long, length-drop at b)) early
    (subst (λ rest. fits (type_under kinds (drop at b)) rest ≡ false) (drop-drop 2 at b) cut)

-- and n bytes further on in the bytes before
pub further : (kinds b : List ℕ) (n q : ℕ) (r : Rule) → BreaksPair kinds (drop n b) q r → BreaksPair kinds b (n + q) r
further kinds b n q r broken =
    from_front kinds b (n + q) r (subst (λ rest. BreaksPair kinds rest 0 r) (drop-drop q n b) (to_front kinds (drop n b) q r broken))

pub nearer : (kinds b : List ℕ) (n q : ℕ) (r : Rule) → BreaksPair kinds b (n + q) r → BreaksPair kinds (drop n b) q r
nearer kinds b n q r broken =
    from_front kinds (drop n b) q r (subst (λ rest. BreaksPair kinds rest 0 r) (sym (drop-drop q n b)) (to_front kinds b (n + q) r broken))

-- a whole pair breaks nothing
pub unbroken : (kinds b : List ℕ) (r : Rule) → is_pair kinds b ≡ true → BreaksPair kinds b 0 r → ⊥
unbroken kinds b r is (cut_key short) = let pair = whole kinds b is in omega (arith, pair.keyed, short)
unbroken kinds b r is (no_column long none) = let pair = whole kinds b is in omega (arith, pair.column, none)
unbroken kinds b r is (cut_value long early cut) =
    let pair = whole kinds b is in
    let e : true ≡ false = sym pair.fitting ∙ cut in true≢false e
