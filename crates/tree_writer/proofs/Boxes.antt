-- The join of boxes is a box.
use Rattle.std.proofs.Common.{◌≡◌, ℕ, ◌^◌, ◌<◌, Bool, true, false, IsTrue, ◌↔◌, List, [], ◌∷◌, refl, sym, ap, ◌∙◌, subst, inl, inr, arith}
use Rattle.std.specs.Prelude.{cond}
use Rattle.std.specs.List.{AllByRecursion}
use Rattle.std.proofs.lemmas.Int.{ints}
use Rattle.std.proofs.lemmas.Grind.{common_steps}
use Rattle.order_keys.specs.declared.coord.Coord.{Coord}
use Rattle.order_keys.specs.declared.bounds.Bounds.{Bounds}
use Rattle.order_keys.specs.Keys.{key_of, at_most, IsAtMost, is_finite}
use Rattle.order_keys.specs.Boxes.{AreFinite, Contains, IsBox, IsOrdered, empty, is_box, join}
use Rattle.order_keys.proofs.Order.{at_most_is, at_most_through, is_ordered_is}
use Rattle.node_items.specs.declared.item.NodeItem.{NodeItem}
use Rattle.tree_writer.specs.Packed.{IsStorable, joined}
use Rattle.tree_writer.proofs.Joins.{contains_self, join_first, join_inside, with_boxes, bounds_are_same}

-- its patterns fit 64 bits
pub record HasPatterns (b : Bounds) : Type 0 where
  pub min_x : b.min_x.0 < 2 ^ 64
  pub min_y : b.min_y.0 < 2 ^ 64
  pub max_x : b.max_x.0 < 2 ^ 64
  pub max_y : b.max_y.0 < 2 ^ 64

pub patterns_of : (v : NodeItem) → IsStorable v → HasPatterns v.bounds
patterns_of v fits = record { min_x = fits.min_x; min_y = fits.min_y; max_x = fits.max_x; max_y = fits.max_y }

pub empty_patterns : HasPatterns empty
empty_patterns = record { min_x = omega arith; min_y = omega arith; max_x = omega arith; max_y = omega arith }

-- one of two
one_of : (P : ℕ → Type 0) (test : Bool) (a b : Coord) → P a.0 → P b.0 → P (cond test a b).0
one_of P true a b p q = p
one_of P false a b p q = q

pub join_patterns : (a b : Bounds) → HasPatterns a → HasPatterns b → HasPatterns (join a b)
join_patterns a b p q = record {
  min_x = one_of (λ n. n < 2 ^ 64) (at_most a.min_x.0 b.min_x.0) a.min_x b.min_x p.min_x q.min_x;
  min_y = one_of (λ n. n < 2 ^ 64) (at_most a.min_y.0 b.min_y.0) a.min_y b.min_y p.min_y q.min_y;
  max_x = one_of (λ n. n < 2 ^ 64) (at_most b.max_x.0 a.max_x.0) a.max_x b.max_x p.max_x q.max_x;
  max_y = one_of (λ n. n < 2 ^ 64) (at_most b.max_y.0 a.max_y.0) a.max_y b.max_y p.max_y q.max_y;
}

join_finite : (a b : Bounds) → AreFinite a → AreFinite b → AreFinite (join a b)
join_finite a b p q = record {
  min_x = one_of (λ n. IsTrue (is_finite n)) (at_most a.min_x.0 b.min_x.0) a.min_x b.min_x p.min_x q.min_x;
  min_y = one_of (λ n. IsTrue (is_finite n)) (at_most a.min_y.0 b.min_y.0) a.min_y b.min_y p.min_y q.min_y;
  max_x = one_of (λ n. IsTrue (is_finite n)) (at_most b.max_x.0 a.max_x.0) a.max_x b.max_x p.max_x q.max_x;
  max_y = one_of (λ n. IsTrue (is_finite n)) (at_most b.max_y.0 a.max_y.0) a.max_y b.max_y p.max_y q.max_y;
}

join_ordered : (a b : Bounds) → IsOrdered a → IsOrdered (join a b)
join_ordered a b h =
    let around = join_first a b in
    record {
      in_x = at_most_through (join a b).min_x.0 a.min_x.0 (join a b).max_x.0 around.left (at_most_through a.min_x.0 a.max_x.0 (join a b).max_x.0 h.in_x around.right);
      in_y = at_most_through (join a b).min_y.0 a.min_y.0 (join a b).max_y.0 around.below (at_most_through a.min_y.0 a.max_y.0 (join a b).max_y.0 h.in_y around.above);
    }

-- a number lies between the infinities
below_infinity : (p : ℕ) → IsTrue (is_finite p) → IsAtMost p 0x7FF0_0000_0000_0000
unfolding key_of
below_infinity p finite = grind (arith, ints)

above_infinity : (p : ℕ) → p < 2 ^ 64 → IsTrue (is_finite p) → IsAtMost 0xFFF0_0000_0000_0000 p
unfolding key_of
above_infinity p fits finite = grind (arith, ints)

past_infinity : (p : ℕ) → IsTrue (is_finite p) → IsAtMost 0x7FF0_0000_0000_0000 p → ⊥
unfolding key_of
past_infinity p finite h = grind (arith, ints)

under_infinity : (p : ℕ) → p < 2 ^ 64 → IsTrue (is_finite p) → IsAtMost p 0xFFF0_0000_0000_0000 → ⊥
unfolding key_of
under_infinity p fits finite h = grind (arith, ints)

other_of : (test : Bool) (a b : Coord) → (IsTrue test → ⊥) → cond test a b ≡ b
other_of true a b never = absurd (never refl)
other_of false a b never = refl

finite_inside : (b : Bounds) → HasPatterns b → AreFinite b → Contains b empty
finite_inside b fits finite = record {
  left = below_infinity b.min_x.0 finite.min_x;
  below = below_infinity b.min_y.0 finite.min_y;
  right = above_infinity b.max_x.0 fits.max_x finite.max_x;
  above = above_infinity b.max_y.0 fits.max_y finite.max_y;
}

-- the first box of a join
empty_join : (b : Bounds) → HasPatterns b → AreFinite b → join empty b ≡ b
empty_join b fits finite =
    bounds_are_same _ _ _ _ _ _ _ _
    (other_of _ empty.min_x b.min_x (λ h. past_infinity b.min_x.0 finite.min_x ((at_most_is 0x7FF0_0000_0000_0000 b.min_x.0).0 h)))
    (other_of _ empty.min_y b.min_y (λ h. past_infinity b.min_y.0 finite.min_y ((at_most_is 0x7FF0_0000_0000_0000 b.min_y.0).0 h)))
    (other_of _ empty.max_x b.max_x (λ h. under_infinity b.max_x.0 fits.max_x finite.max_x ((at_most_is b.max_x.0 0xFFF0_0000_0000_0000).0 h)))
    (other_of _ empty.max_y b.max_y (λ h. under_infinity b.max_y.0 fits.max_y finite.max_y ((at_most_is b.max_y.0 0xFFF0_0000_0000_0000).0 h)))

join_is : (a b : Bounds) → HasPatterns a → HasPatterns b → IsBox a → IsBox b → IsBox (join a b)
join_is a b p q (inl none) (inl also) = inl (ap (λ c. join c b) none ∙ ap (join empty) also ∙ join_inside empty empty (contains_self empty))
join_is a b p q (inl none) (inr (finite, ordered)) = subst IsBox (sym (ap (λ c. join c b) none ∙ empty_join b q finite)) (inr (finite, ordered))
join_is a b p q (inr (finite, ordered)) (inl none) = subst IsBox (sym (ap (join a) none ∙ join_inside a empty (finite_inside a p finite))) (inr (finite, ordered))
join_is a b p q (inr (finite, ordered)) (inr (also, in_order)) = inr (join_finite a b finite also, join_ordered a b ordered)

-- the test says the same as the fact
is_box_is : (b : Bounds) → IsTrue (is_box b) ↔ IsBox b
is_box_is b = grind (arith, common_steps, is_ordered_is)

-- the join of a box and some more
with_boxes_is : (box : Bounds) (nodes : List NodeItem) → HasPatterns box → IsBox box → AllByRecursion IsStorable nodes → AllByRecursion (λ v. is_box v.bounds ≡ true) nodes → IsBox (with_boxes box nodes)
with_boxes_is box [] fits is all each = is
with_boxes_is box (v ∷ nodes) fits is all each =
    with_boxes_is (join box v.bounds) nodes (join_patterns box v.bounds fits (patterns_of v all.0))
    (join_is box v.bounds fits (patterns_of v all.0) is ((is_box_is v.bounds).0 each.0)) all.1 each.1

pub joined_is_box : (nodes : List NodeItem) → AllByRecursion IsStorable nodes → AllByRecursion (λ v. is_box v.bounds ≡ true) nodes → is_box (joined nodes) ≡ true
joined_is_box nodes all each = (is_box_is (joined nodes)).1 (with_boxes_is empty nodes empty_patterns (inl refl) all each)

with_boxes_patterns : (box : Bounds) (nodes : List NodeItem) → HasPatterns box → AllByRecursion IsStorable nodes → HasPatterns (with_boxes box nodes)
with_boxes_patterns box [] fits all = fits
with_boxes_patterns box (v ∷ nodes) fits all = with_boxes_patterns (join box v.bounds) nodes (join_patterns box v.bounds fits (patterns_of v all.0)) all.1

pub joined_patterns : (nodes : List NodeItem) → AllByRecursion IsStorable nodes → HasPatterns (joined nodes)
joined_patterns nodes all = with_boxes_patterns empty nodes empty_patterns all
