-- A box has one rank in an extent.
use Rattle.std.proofs.Common.{◌≡◌, ◌≢◌, ℕ, ◌+◌, ◌*◌, ◌<◌, ◌≤◌, ◌⊎◌, inl, ℤ, pos, negsuc, ◌+ℤ◌, ◌-ℤ◌, ◌*ℤ◌, ◌≤ℤ◌, ◌<ℤ◌, zero, suc, List, [], ◌∷◌, get_or, refl, sym, ◌∙◌, ⊎_elim, arith}
use Rattle.std.specs.List.{AllByRecursion}
use Rattle.std.proofs.lemmas.Int.{ints}
use Rattle.order_keys.specs.declared.bounds.Bounds.{Bounds}
use Rattle.order_keys.specs.Keys.{key_of, IsAtMost}
use Rattle.order_keys.specs.Boxes.{Contains, IsBox, IsOrdered, empty}
use Rattle.curve_order.specs.Cells.{IsCellOf, IsMiddle, IsShare}
use Rattle.curve_order.specs.Curve.{hilbert}
use Rattle.feature_order.specs.Order.{IsRank, extent}
use Rattle.feature_order.specs.Order.IsRank.{on_curve, nowhere}
use Rattle.feature_order.proofs.Joins.{around_each, around_empty}
use Rattle.feature_order.proofs.Extents.{ordered_around, ordered_of_box}

-- a box has one cell
same_middle : (min max : ℕ) (c d : ℤ) → IsMiddle min max c → IsMiddle min max d → c ≡ d
same_middle min max c d h k = omega (arith, ints)

at_most_parts : (n m w x : ℕ) → n * w ≤ x → x < (m + 1) * w → n ≤ m
at_most_parts n m w x low high = grind arith

at_most_share : (n m : ℕ) (w x : ℤ) → (pos n *ℤ w) ≤ℤ x → x <ℤ ((pos m +ℤ pos 1) *ℤ w) → pos 0 <ℤ w → n ≤ m
at_most_share n m (pos w) (pos x) low high some = at_most_parts n m w x (omega (arith, ints)) (omega (arith, ints))
at_most_share n m (pos w) (negsuc x) low high some = absurd (omega (arith, ints))
at_most_share n m (negsuc w) x low high some = absurd (omega (arith, ints))

either : (x y : ℤ) → x ≤ℤ y → (x ≡ y) ⊎ (x <ℤ y)
either x y h = grind (arith, ints)

same_share : (min max from to n m : ℕ) → IsAtMost from to → IsShare min max from to n → IsShare min max from to m → n ≡ m
same_share min max from to n m ordered h k =
    let middles = same_middle min max h.middle k.middle h.is_middle k.is_middle in
    ⊎_elim
    (λ flat. h.flat flat ∙ sym (k.flat flat))
    (λ wide.
    let some : pos 0 <ℤ (key_of to -ℤ key_of from) = omega (arith, ints) in
    let up : n ≤ m = at_most_share n m (key_of to -ℤ key_of from) (pos 65535 *ℤ (h.middle -ℤ key_of from)) (h.low wide) (rw middles (k.high wide)) some in
    let down : m ≤ n = at_most_share m n (key_of to -ℤ key_of from) (pos 65535 *ℤ (k.middle -ℤ key_of from)) (k.low wide) (rw (← middles) (h.high wide)) some in
    omega arith)
    (either (key_of from) (key_of to) ordered)

same_cell : (b around : Bounds) (x y u v : ℕ) → IsOrdered around → IsCellOf b around (x, y) → IsCellOf b around (u, v) → hilbert 16 x y ≡ hilbert 16 u v
same_cell b around x y u v ordered h k =
    let e = same_share b.min_x.0 b.max_x.0 around.min_x.0 around.max_x.0 x u ordered.in_x h.0 k.0 in
    let f = same_share b.min_y.0 b.max_y.0 around.min_y.0 around.max_y.0 y v ordered.in_y h.1 k.1 in
    cc

same_rank : (around b : Bounds) (m n : ℕ) → (b ≢ empty → IsOrdered around) → IsRank around b m → IsRank around b n → m ≡ n
same_rank around b m n ordered (on_curve x y _ some cell e) (on_curve u v _ _ other f) =
    let same = same_cell b around x y u v (ordered some) cell other in
    omega arith
same_rank around b m n ordered (on_curve x y _ some cell e) (nowhere none) = absurd (some none)
same_rank around b m n ordered (nowhere none) (on_curve u v _ some other f) = absurd (some none)
same_rank around b m n ordered (nowhere none) (nowhere _) = refl

-- what holds of each box, and of the empty one, holds of the box of any number
at_any : (P : Bounds → Type 0) (boxes : List Bounds) (k : ℕ) → P empty → AllByRecursion P boxes → P (get_or boxes k empty)
at_any P [] k none all = none
at_any P (b ∷ boxes) zero none all = all.0
at_any P (b ∷ boxes) (suc k) none all = at_any P boxes k none all.1

pub one_rank : (boxes : List Bounds) (k m n : ℕ) → AllByRecursion IsBox boxes → IsRank (extent boxes) (get_or boxes k empty) m → IsRank (extent boxes) (get_or boxes k empty) n → m ≡ n
one_rank boxes k m n all h j =
    let b = get_or boxes k empty in
    same_rank (extent boxes) b m n (λ some.
    ordered_around (extent boxes) b (at_any (Contains (extent boxes)) boxes k (around_empty boxes) (around_each boxes))
    (ordered_of_box b (at_any IsBox boxes k (inl refl) all) some)) h j
