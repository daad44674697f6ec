-- The join of boxes is a box.
use Rattle.std.proofs.Common.{◌≡◌, ◌≢◌, ◌==◌, ◌&&◌, ℕ, ◌^◌, ◌<◌, Bool, true, false, IsTrue, refl, sym, ap, ◌∙◌, subst, inl, inr, arith}
use Rattle.std.specs.Prelude.{cond}
use Rattle.std.proofs.lemmas.Int.{ints}
use Rattle.order_keys.specs.declared.coord.Coord.{Coord}
use Rattle.order_keys.specs.declared.bounds.Bounds.{Bounds}
use Rattle.order_keys.specs.Keys.{key_of, at_most, IsAtMost, is_finite}
use Rattle.order_keys.specs.Boxes.{AreFinite, Contains, IsBox, IsOrdered, empty, join}
use Rattle.order_keys.proofs.Order.{at_most_is, at_most_through}
use Rattle.feature_order.proofs.Joins.{join_first}

-- what a read past the end gives
abbrev pub nothing : Bounds
nothing = record { min_x = record { 0 = 0 }; min_y = record { 0 = 0 }; max_x = record { 0 = 0 }; max_y = record { 0 = 0 } }

-- its patterns fit 64 bits
pub record HasPatterns (b : Bounds) : Type 0 where
  pub min_x : b.min_x.0 < 2 ^ 64
  pub min_y : b.min_y.0 < 2 ^ 64
  pub max_x : b.max_x.0 < 2 ^ 64
  pub max_y : b.max_y.0 < 2 ^ 64

-- one of two
finite_of : (test : Bool) (a b : Coord) → IsTrue (is_finite a.0) → IsTrue (is_finite b.0) → IsTrue (is_finite (cond test a b).0)
finite_of true a b p q = p
finite_of false a b p q = q

other_of : (test : Bool) (a b : Coord) → (IsTrue test → ⊥) → cond test a b ≡ b
other_of true a b never = absurd (never refl)
other_of false a b never = refl

first_of : (test : Bool) (a b : Coord) → IsTrue test → cond test a b ≡ a
first_of true a b h = refl
first_of false a b h = grind arith

join_finite : (a b : Bounds) → AreFinite a → AreFinite b → AreFinite (join a b)
join_finite a b p q = record {
  min_x = finite_of (at_most a.min_x.0 b.min_x.0) a.min_x b.min_x p.min_x q.min_x;
  min_y = finite_of (at_most a.min_y.0 b.min_y.0) a.min_y b.min_y p.min_y q.min_y;
  max_x = finite_of (at_most b.max_x.0 a.max_x.0) a.max_x b.max_x p.max_x q.max_x;
  max_y = finite_of (at_most b.max_y.0 a.max_y.0) a.max_y b.max_y p.max_y q.max_y;
}

-- what contains a box with some point has some itself
pub ordered_around : (a b : Bounds) → Contains a b → IsOrdered b → IsOrdered a
ordered_around a b h k = record {
  in_x = at_most_through a.min_x.0 b.min_x.0 a.max_x.0 h.left (at_most_through b.min_x.0 b.max_x.0 a.max_x.0 k.in_x h.right);
  in_y = at_most_through a.min_y.0 b.min_y.0 a.max_y.0 h.below (at_most_through b.min_y.0 b.max_y.0 a.max_y.0 k.in_y h.above);
}

-- a number lies between the infinities
below_infinity : (p : ℕ) → IsTrue (is_finite p) → IsAtMost p 0x7FF0_0000_0000_0000
unfolding key_of
below_infinity p finite = grind (arith, ints)

above_infinity : (p : ℕ) → p < 2 ^ 64 → IsTrue (is_finite p) → IsAtMost 0xFFF0_0000_0000_0000 p
unfolding key_of
above_infinity p fits finite = grind (arith, ints)

past_infinity : (p : ℕ) → IsTrue (is_finite p) → IsAtMost 0x7FF0_0000_0000_0000 p → ⊥
unfolding key_of
past_infinity p finite h = grind (arith, ints)

under_infinity : (p : ℕ) → p < 2 ^ 64 → IsTrue (is_finite p) → IsAtMost p 0xFFF0_0000_0000_0000 → ⊥
unfolding key_of
under_infinity p fits finite h = grind (arith, ints)

same_edges : (a b c d e f g h : Coord) → a ≡ e → b ≡ f → c ≡ g → d ≡ h
    → (let p : Bounds = record { min_x = a; min_y = b; max_x = c; max_y = d } in p) ≡ record { min_x = e; min_y = f; max_x = g; max_y = h }
same_edges a b c d e f g h p q r s = cc

-- the empty box changes nothing
empty_join : (b : Bounds) → HasPatterns b → AreFinite b → join empty b ≡ b
empty_join b fits finite =
    same_edges _ _ _ _ _ _ _ _
    (other_of _ empty.min_x b.min_x (λ h. past_infinity b.min_x.0 finite.min_x ((at_most_is 0x7FF0_0000_0000_0000 b.min_x.0).0 h)))
    (other_of _ empty.min_y b.min_y (λ h. past_infinity b.min_y.0 finite.min_y ((at_most_is 0x7FF0_0000_0000_0000 b.min_y.0).0 h)))
    (other_of _ empty.max_x b.max_x (λ h. under_infinity b.max_x.0 fits.max_x finite.max_x ((at_most_is b.max_x.0 0xFFF0_0000_0000_0000).0 h)))
    (other_of _ empty.max_y b.max_y (λ h. under_infinity b.max_y.0 fits.max_y finite.max_y ((at_most_is b.max_y.0 0xFFF0_0000_0000_0000).0 h)))

join_empty : (a : Bounds) → HasPatterns a → AreFinite a → join a empty ≡ a
join_empty a fits finite =
    same_edges _ _ _ _ _ _ _ _
    (first_of _ a.min_x empty.min_x ((at_most_is a.min_x.0 0x7FF0_0000_0000_0000).1 (below_infinity a.min_x.0 finite.min_x)))
    (first_of _ a.min_y empty.min_y ((at_most_is a.min_y.0 0x7FF0_0000_0000_0000).1 (below_infinity a.min_y.0 finite.min_y)))
    (first_of _ a.max_x empty.max_x ((at_most_is 0xFFF0_0000_0000_0000 a.max_x.0).1 (above_infinity a.max_x.0 fits.max_x finite.max_x)))
    (first_of _ a.max_y empty.max_y ((at_most_is 0xFFF0_0000_0000_0000 a.max_y.0).1 (above_infinity a.max_y.0 fits.max_y finite.max_y)))

empty_twice : join empty empty ≡ empty
unfolding key_of
empty_twice = refl

pub join_is_box : (a b : Bounds) → HasPatterns a → HasPatterns b → IsBox a → IsBox b → IsBox (join a b)
join_is_box a b p q (inl none) (inl also) = inl (ap (λ c. join c b) none ∙ ap (join empty) also ∙ empty_twice)
join_is_box a b p q (inl none) (inr (finite, ordered)) = subst IsBox (sym (ap (λ c. join c b) none ∙ empty_join b q finite)) (inr (finite, ordered))
join_is_box a b p q (inr (finite, ordered)) (inl none) = subst IsBox (sym (ap (join a) none ∙ join_empty a p finite)) (inr (finite, ordered))
join_is_box a b p q (inr (finite, ordered)) (inr (also, in_order)) = inr (join_finite a b finite also, ordered_around (join a b) a (join_first a b) ordered)

-- no box with a point lies in the empty box
pub some_around : (around b : Bounds) → Contains around b → AreFinite b → around ≡ empty → ⊥
some_around around b inside finite none =
    past_infinity b.min_x.0 finite.min_x (let P : Bounds → Type 0 = λ a. IsAtMost a.min_x.0 b.min_x.0 in subst P none inside.left)

-- the test of `==`
abbrev pub same_test : Bounds → Bounds → Bool
same_test a b = a.min_x.0 == b.min_x.0 && (a.min_y.0 == b.min_y.0 && (a.max_x.0 == b.max_x.0 && a.max_y.0 == b.max_y.0))

same_coord : (a b : Coord) → a.0 ≡ b.0 → a ≡ b
same_coord a b e = ap (λ (p : ℕ). let c : Coord = record { 0 = p } in c) e

four_pass : (p q r s : Bool) → p && (q && (r && s)) ≡ true → (p ≡ true) × (q ≡ true) × (r ≡ true) × (s ≡ true)
four_pass true true true true h = (refl, refl, refl, refl)
four_pass false q r s h = grind arith
four_pass true false r s h = grind arith
four_pass true true false s h = grind arith
four_pass true true true false h = grind arith

same_number : (p q : ℕ) → (p == q) ≡ true → p ≡ q
same_number p q h = grind arith

pub same_from_test : (a b c : Bounds) (r : Bool) → c ≡ b → r ≡ same_test a c → r ≡ true → a ≡ b
same_from_test a b c r is e passed =
    let each = four_pass _ _ _ _ (ap (same_test a) (sym is) ∙ sym e ∙ passed) in
    same_edges _ _ _ _ _ _ _ _
    (same_coord a.min_x b.min_x (same_number _ _ each.0)) (same_coord a.min_y b.min_y (same_number _ _ each.1))
    (same_coord a.max_x b.max_x (same_number _ _ each.2)) (same_coord a.max_y b.max_y (same_number _ _ each.3))

passes_itself : (a : Bounds) → same_test a a ≡ true
passes_itself a = grind arith

pub differ_from_test : (a b c : Bounds) (r : Bool) → c ≡ b → r ≡ same_test a c → r ≡ false → a ≢ b
differ_from_test a b c r is e failed same =
    let itself : same_test a a ≡ false = ap (same_test a) (same ∙ sym is) ∙ sym e ∙ failed in
    let passes = passes_itself a in
    cc

pub finite_of_box : (b : Bounds) → IsBox b → b ≢ empty → AreFinite b
finite_of_box b (inl none) some = absurd (some none)
finite_of_box b (inr (finite, ordered)) some = finite

pub ordered_of_box : (b : Bounds) → IsBox b → b ≢ empty → IsOrdered b
ordered_of_box b (inl none) some = absurd (some none)
ordered_of_box b (inr (finite, ordered)) some = ordered
