-- Boxes with equal keys meet the same boxes.
use Rattle.std.proofs.Common.{◌≡◌, ℕ, Bool, true, false, ◌&&◌, List, IsTrue, refl, arith}
use Rattle.order_keys.specs.declared.bounds.Bounds.{Bounds}
use Rattle.order_keys.specs.Keys.{same_key, IsAtMost}
use Rattle.order_keys.specs.Boxes.{meets, same as same_box}
use Rattle.order_keys.proofs.Order.{at_most_is, at_most_through, meets_is}
use Rattle.box_list.specs.Lists.{meets_any}
use Rattle.box_query.proofs.Anyone.{any_same}

each_of : (p q r s : Bool) → IsTrue (p && q && r && s) → IsTrue p × IsTrue q × IsTrue r × IsTrue s
each_of p q r s h = grind arith

both_of : (p q : Bool) → IsTrue (p && q) → IsTrue p × IsTrue q
both_of p q h = grind arith

-- two patterns with one key
record Equal (p q : ℕ) : Type 0 where
  pub up : IsAtMost p q
  pub down : IsAtMost q p

equal_of : (p q : ℕ) → IsTrue (same_key p q) → Equal p q
equal_of p q h = let both = both_of _ _ h in record { up = (at_most_is p q).0 both.0; down = (at_most_is q p).0 both.1 }

turned : (p q : ℕ) → Equal p q → Equal q p
turned p q is = record { up = is.down; down = is.up }

-- the four edges of two boxes have equal keys
record Alike (a b : Bounds) : Type 0 where
  pub left : Equal a.min_x.0 b.min_x.0
  pub below : Equal a.min_y.0 b.min_y.0
  pub right : Equal a.max_x.0 b.max_x.0
  pub above : Equal a.max_y.0 b.max_y.0

alike_of : (a b : Bounds) → same_box a b ≡ true → Alike a b
alike_of a b h =
    let each = each_of _ _ _ _ h in
    record {
      left = equal_of a.min_x.0 b.min_x.0 each.0;
      below = equal_of a.min_y.0 b.min_y.0 each.1;
      right = equal_of a.max_x.0 b.max_x.0 each.2;
      above = equal_of a.max_y.0 b.max_y.0 each.3;
    }

alike_turned : (a b : Bounds) → Alike a b → Alike b a
alike_turned a b is = record {
  left = turned a.min_x.0 b.min_x.0 is.left;
  below = turned a.min_y.0 b.min_y.0 is.below;
  right = turned a.max_x.0 b.max_x.0 is.right;
  above = turned a.max_y.0 b.max_y.0 is.above;
}

-- what meets the one meets the other
meets_alike : (a b box : Bounds) → Alike a b → meets a box ≡ true → meets b box ≡ true
meets_alike a b box is meet =
    let met = (meets_is a box).0 meet in
    (meets_is b box).1 (record {
      left = at_most_through b.min_x.0 a.min_x.0 box.max_x.0 is.left.down met.left;
      right = at_most_through box.min_x.0 a.max_x.0 b.max_x.0 met.right is.right.up;
      below = at_most_through b.min_y.0 a.min_y.0 box.max_y.0 is.below.down met.below;
      above = at_most_through box.min_y.0 a.max_y.0 b.max_y.0 met.above is.above.up;
    })

either_way : (p q : Bool) → (p ≡ true → q ≡ true) → (q ≡ true → p ≡ true) → p ≡ q
either_way true true there back = refl
either_way true false there back = absurd (let e : false ≡ true = there refl in cc)
either_way false true there back = back refl
either_way false false there back = refl

meets_same : (a b box : Bounds) → same_box a b ≡ true → meets a box ≡ meets b box
meets_same a b box same =
    let is = alike_of a b same in
    either_way (meets a box) (meets b box) (meets_alike a b box is) (meets_alike b a box (alike_turned a b is))

pub any_same_box : (boxes : List Bounds) (a b : Bounds) → same_box a b ≡ true → meets_any boxes a ≡ meets_any boxes b
any_same_box boxes a b same = any_same (meets a) (meets b) (λ box. meets_same a b box same) boxes
