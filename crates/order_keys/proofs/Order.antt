-- The tests by keys say the same as the facts.
use Rattle.std.proofs.Common.{inr, ◌↔◌, ◌⊎◌, IsTrue, ℕ, ◌&&◌, Bool, arith, rules}
use Rattle.std.proofs.lemmas.Grind.{common_steps}
use Rattle.std.proofs.lemmas.Int.{ints}
use Rattle.order_keys.specs.declared.coord.Coord.{Coord}
use Rattle.order_keys.specs.declared.bounds.Bounds.{Bounds}
use Rattle.order_keys.specs.Keys.{key_of, at_most, IsAtMost, is_finite}
use Rattle.order_keys.specs.Boxes.{Contains, lesser, greater, join, empty, of_point, IsBox, meets, Meets, is_ordered, IsOrdered, AreFinite}

pub at_most_is : (p q : ℕ) → IsTrue (at_most p q) ↔ IsAtMost p q
at_most_is p q = search (rules, arith, ints)

all_four : (p q r s : Bool) → IsTrue (p && q && r && s) → IsTrue p × IsTrue q × IsTrue r × IsTrue s
all_four p q r s h = grind arith

of_four : (p q r s : Bool) → IsTrue p → IsTrue q → IsTrue r → IsTrue s → IsTrue (p && q && r && s)
of_four p q r s h k l m = grind arith

pub meets_is : (a b : Bounds) → IsTrue (meets a b) ↔ Meets a b
meets_is a b = (
  λ h.
      let each = all_four _ _ _ _ h in
      record {
        left = (at_most_is a.min_x.0 b.max_x.0).0 each.0;
        right = (at_most_is b.min_x.0 a.max_x.0).0 each.1;
        below = (at_most_is a.min_y.0 b.max_y.0).0 each.2;
        above = (at_most_is b.min_y.0 a.max_y.0).0 each.3;
      },
  λ meet.
      of_four _ _ _ _
      ((at_most_is a.min_x.0 b.max_x.0).1 meet.left) ((at_most_is b.min_x.0 a.max_x.0).1 meet.right)
      ((at_most_is a.min_y.0 b.max_y.0).1 meet.below) ((at_most_is b.min_y.0 a.max_y.0).1 meet.above),
)

pub is_ordered_is : (a : Bounds) → IsTrue (is_ordered a) ↔ IsOrdered a
is_ordered_is a = grind (arith, common_steps, at_most_is)

pub at_most_self : (p : ℕ) → IsAtMost p p
at_most_self p = search (rules, ints)

pub at_most_through : (p q r : ℕ) → IsAtMost p q → IsAtMost q r → IsAtMost p r
at_most_through p q r h k = omega (arith, ints)

pub at_most_either : (p q : ℕ) → IsAtMost p q ⊎ IsAtMost q p
at_most_either p q = grind (arith, ints)

pub meets_swap : (a b : Bounds) → Meets a b → Meets b a
meets_swap a b h = record { left = h.right; right = h.left; below = h.above; above = h.below }

-- no number comes after positive infinity
beyond : (p : ℕ) → IsTrue (is_finite p) → ¬ (IsAtMost 0x7FF0_0000_0000_0000 p)
unfolding key_of
beyond p finite h = grind (arith, ints)

pub empty_meets_none : (b : Bounds) → AreFinite b → ¬ (Meets empty b)
empty_meets_none b finite h = beyond b.max_x.0 finite.max_x h.left

pub empty_not_itself : ¬ (Meets empty empty)
unfolding key_of
empty_not_itself h = grind (arith, ints, h.left)

pub point_is_box : (x y : Coord) → IsTrue (is_finite x.0) → IsTrue (is_finite y.0) → IsBox (of_point x y)
point_is_box x y in_x in_y =
    inr (
      record { min_x = in_x; min_y = in_y; max_x = in_x; max_y = in_y },
      record { in_x = at_most_self x.0; in_y = at_most_self y.0 },
    )

pub lesser_least : (p : ℕ) (a b : Coord) → IsAtMost p a.0 → IsAtMost p b.0 → IsAtMost p (lesser a b).0
lesser_least p a b h k = grind (arith, h, k)

pub greater_least : (p : ℕ) (a b : Coord) → IsAtMost a.0 p → IsAtMost b.0 p → IsAtMost (greater a b).0 p
greater_least p a b h k = grind (arith, h, k)

pub join_least : (a b c : Bounds) → Contains c a → Contains c b → Contains c (join a b)
join_least a b c h k = record {
  left = lesser_least c.min_x.0 a.min_x b.min_x h.left k.left;
  below = lesser_least c.min_y.0 a.min_y b.min_y h.below k.below;
  right = greater_least c.max_x.0 a.max_x b.max_x h.right k.right;
  above = greater_least c.max_y.0 a.max_y b.max_y h.above k.above;
}
