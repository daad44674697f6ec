-- The curve by quarters, as one whole: it passes each cell of the square once, from one end to the other, and each next
-- cell touches the one before.
use Rattle.std.proofs.Common.{◌≡◌, ◌<◌, ◌≤◌, ℕ, zero, suc, ◌+◌, ◌-◌, ◌*◌, ◌^◌, refl, ap, arith, sym, ◌∙◌, inl, inr, ⊎_elim}
use Rattle.std.proofs.lemmas.Nat.{pow_pos, mul-le, same_from_place}
use Rattle.std.proofs.lemmas.Bool.{cases_lt}
use Rattle.curve_order.specs.Curve.{IsCell, AreNeighbours, hilbert}
use Rattle.curve_order.proofs.Quarters.{twice, four, first, second, third, fourth}

-- the cell of the square that is a cell (u, v) along the curve through the quarter k, where h is half the square's side
x_of : ℕ → ℕ → ℕ → ℕ → ℕ
x_of h zero u v = v
x_of h (suc zero) u v = u
x_of h (suc (suc zero)) u v = u + h
x_of h (suc (suc (suc k))) u v = h + (h - 1 - v)

y_of : ℕ → ℕ → ℕ → ℕ → ℕ
y_of h zero u v = u
y_of h (suc zero) u v = v + h
y_of h (suc (suc zero)) u v = v + h
y_of h (suc (suc (suc k))) u v = h - 1 - u

-- a cell by its quarter
record Split (b x y : ℕ) : Type 0 where
  k : ℕ
  u : ℕ
  v : ℕ
  in_k : k < 4
  in_u : u < 2 ^ b
  in_v : v < 2 ^ b
  is_x : x ≡ x_of (2 ^ b) k u v
  is_y : y ≡ y_of (2 ^ b) k u v
  value : hilbert (suc b) x y ≡ k * (2 ^ b * 2 ^ b) + hilbert b u v

split_left : (b x y : ℕ) → IsCell (suc b) x y → x < 2 ^ b → Split b x y
unfolding x_of y_of
split_left b x y c in_x = ⊎_elim
    (λ (low : y < 2 ^ b). record {
      k = 0;
      u = y;
      v = x;
      in_k = omega arith;
      in_u = low;
      in_v = in_x;
      is_x = refl;
      is_y = refl;
      value = omega (arith, first b x y in_x low);
    })
    (λ (high : 2 ^ b ≤ y). record {
      k = 1;
      u = x;
      v = y - 2 ^ b;
      in_k = omega arith;
      in_u = in_x;
      in_v = omega (arith, twice b, c.in_y);
      is_x = refl;
      is_y = omega arith;
      value = omega (arith, second b x y in_x high);
    })
    (cases_lt y (2 ^ b))

split_right : (b x y : ℕ) → IsCell (suc b) x y → 2 ^ b ≤ x → Split b x y
unfolding x_of y_of
split_right b x y c in_x = ⊎_elim
    (λ (low : y < 2 ^ b). record {
      k = 3;
      u = 2 ^ b - 1 - y;
      v = 2 ^ b - 1 - (x - 2 ^ b);
      in_k = omega arith;
      in_u = omega arith;
      in_v = omega arith;
      is_x = omega (arith, twice b, c.in_x);
      is_y = omega arith;
      value = fourth b x y in_x low;
    })
    (λ (high : 2 ^ b ≤ y). record {
      k = 2;
      u = x - 2 ^ b;
      v = y - 2 ^ b;
      in_k = omega arith;
      in_u = omega (arith, twice b, c.in_x);
      in_v = omega (arith, twice b, c.in_y);
      is_x = omega arith;
      is_y = omega arith;
      value = third b x y in_x high;
    })
    (cases_lt y (2 ^ b))

split : (b x y : ℕ) → IsCell (suc b) x y → Split b x y
split b x y c = ⊎_elim (split_left b x y c) (split_right b x y c) (cases_lt x (2 ^ b))

inner : (b x y : ℕ) (s : Split b x y) → IsCell b s.u s.v
inner b x y s = record { in_x = s.in_u; in_y = s.in_v }

pub within : (b x y : ℕ) → IsCell b x y → hilbert b x y < 2 ^ b * 2 ^ b
unfolding hilbert
within zero x y c = omega arith
within (suc b) x y c =
    let s = split b x y c in
    let below = within b s.u s.v (inner b x y s) in
    omega (arith, s.value, below, four b, mul-le s.k (2 ^ b * 2 ^ b) 3 (2 ^ b * 2 ^ b) (omega (arith, s.in_k)) (omega arith))

pub same : (b x y u v : ℕ) → IsCell b x y → IsCell b u v → hilbert b u v ≡ hilbert b x y → (x ≡ u) × (y ≡ v)
same zero x y u v c d e = (omega arith, omega arith)
same (suc b) x y u v c d e =
    let s = split b x y c in
    let t = split b u v d in
    let both = same_from_place s.k (hilbert b s.u s.v) t.k (hilbert b t.u t.v) (2 ^ b * 2 ^ b)
    (within b s.u s.v (inner b x y s)) (within b t.u t.v (inner b u v t)) (sym s.value ∙ sym e ∙ t.value) in
    let deeper = same b s.u s.v t.u t.v (inner b x y s) (inner b u v t) (sym both.1) in
    let on_x : x_of (2 ^ b) s.k s.u s.v ≡ x_of (2 ^ b) t.k t.u t.v = cc (both.0, deeper.0, deeper.1) in
    let on_y : y_of (2 ^ b) s.k s.u s.v ≡ y_of (2 ^ b) t.k t.u t.v = cc (both.0, deeper.0, deeper.1) in
    (s.is_x ∙ on_x ∙ sym t.is_x, s.is_y ∙ on_y ∙ sym t.is_y)

-- the ends of the curve
pub begin : (b : ℕ) → hilbert b 0 0 ≡ 0
unfolding hilbert
begin zero = refl
begin (suc b) = first b 0 0 (pow_pos b) (pow_pos b) ∙ begin b

pub end : (b : ℕ) → hilbert b (2 ^ b - 1) 0 ≡ 2 ^ b * 2 ^ b - 1
unfolding hilbert
end zero = refl
end (suc b) =
    let some = pow_pos b in
    let on_x : 2 ^ b - 1 - 0 ≡ 2 ^ b - 1 = omega arith in
    let on_y : 2 ^ b - 1 - (2 ^ suc b - 1 - 2 ^ b) ≡ 0 = omega (arith, twice b) in
    let value = fourth b (2 ^ suc b - 1) 0 (omega (arith, twice b)) some in
    let turned = ap (λ u. hilbert b u (2 ^ b - 1 - (2 ^ suc b - 1 - 2 ^ b))) on_x ∙ ap (λ v. hilbert b (2 ^ b - 1) v) on_y in
    omega (arith, value, turned, end b, four b, mul-le 1 1 (2 ^ b) (2 ^ b) some some)

-- the second cell touches the first
data Near (x y u v : ℕ) : Type 0 where
  right : u ≡ x + 1 → y ≡ v → Near x y u v
  left : x ≡ u + 1 → y ≡ v → Near x y u v
  up : x ≡ u → v ≡ y + 1 → Near x y u v
  down : x ≡ u → y ≡ v + 1 → Near x y u v

near_told : (x y u v : ℕ) → Near x y u v → AreNeighbours x y u v
near_told x y u v (right p q) = inl (q, inl p)
near_told x y u v (left p q) = inl (q, inr p)
near_told x y u v (up p q) = inr (p, inl q)
near_told x y u v (down p q) = inr (p, inr q)

near_moved : (x y u v a b c d : ℕ) → a ≡ x → b ≡ y → c ≡ u → d ≡ v → Near x y u v → Near a b c d
near_moved x y u v a b c d e f g h (right p q) = right (omega arith) (omega arith)
near_moved x y u v a b c d e f g h (left p q) = left (omega arith) (omega arith)
near_moved x y u v a b c d e f g h (up p q) = up (omega arith) (omega arith)
near_moved x y u v a b c d e f g h (down p q) = down (omega arith) (omega arith)

-- cells of one quarter
near_in_quarter : (h k x y u v : ℕ) → x < h → y < h → u < h → v < h → Near x y u v
    → Near (x_of h k x y) (y_of h k x y) (x_of h k u v) (y_of h k u v)
unfolding x_of y_of
near_in_quarter h zero x y u v in_x in_y in_u in_v (right p q) = up (omega arith) (omega arith)
near_in_quarter h zero x y u v in_x in_y in_u in_v (left p q) = down (omega arith) (omega arith)
near_in_quarter h zero x y u v in_x in_y in_u in_v (up p q) = right (omega arith) (omega arith)
near_in_quarter h zero x y u v in_x in_y in_u in_v (down p q) = left (omega arith) (omega arith)
near_in_quarter h (suc zero) x y u v in_x in_y in_u in_v (right p q) = right (omega arith) (omega arith)
near_in_quarter h (suc zero) x y u v in_x in_y in_u in_v (left p q) = left (omega arith) (omega arith)
near_in_quarter h (suc zero) x y u v in_x in_y in_u in_v (up p q) = up (omega arith) (omega arith)
near_in_quarter h (suc zero) x y u v in_x in_y in_u in_v (down p q) = down (omega arith) (omega arith)
near_in_quarter h (suc (suc zero)) x y u v in_x in_y in_u in_v (right p q) = right (omega arith) (omega arith)
near_in_quarter h (suc (suc zero)) x y u v in_x in_y in_u in_v (left p q) = left (omega arith) (omega arith)
near_in_quarter h (suc (suc zero)) x y u v in_x in_y in_u in_v (up p q) = up (omega arith) (omega arith)
near_in_quarter h (suc (suc zero)) x y u v in_x in_y in_u in_v (down p q) = down (omega arith) (omega arith)
near_in_quarter h (suc (suc (suc k))) x y u v in_x in_y in_u in_v (right p q) = down (omega arith) (omega arith)
near_in_quarter h (suc (suc (suc k))) x y u v in_x in_y in_u in_v (left p q) = up (omega arith) (omega arith)
near_in_quarter h (suc (suc (suc k))) x y u v in_x in_y in_u in_v (up p q) = left (omega arith) (omega arith)
near_in_quarter h (suc (suc (suc k))) x y u v in_x in_y in_u in_v (down p q) = right (omega arith) (omega arith)

-- the end of one quarter and the beginning of the next
near_between : (h k : ℕ) → 0 < h → k < 3 → Near (x_of h k (h - 1) 0) (y_of h k (h - 1) 0) (x_of h (suc k) 0 0) (y_of h (suc k) 0 0)
unfolding x_of y_of
near_between h zero some low = up (omega arith) (omega arith)
near_between h (suc zero) some low = right (omega arith) (omega arith)
near_between h (suc (suc zero)) some low = down (omega arith) (omega arith)
near_between h (suc (suc (suc k))) some low = absurd (omega arith)

near_next : (b x y u v : ℕ) → IsCell b x y → IsCell b u v → hilbert b u v ≡ hilbert b x y + 1 → Near x y u v
unfolding hilbert
near_next zero x y u v c d e = absurd (omega arith)
near_next (suc b) x y u v c d e =
    let s = split b x y c in
    let t = split b u v d in
    let above = within b s.u s.v (inner b x y s) in
    let above' = within b t.u t.v (inner b u v t) in
    let follows : t.k * (2 ^ b * 2 ^ b) + hilbert b t.u t.v ≡ s.k * (2 ^ b * 2 ^ b) + (hilbert b s.u s.v + 1) = omega (arith, s.value, t.value) in
    ⊎_elim
    (λ (inside : hilbert b s.u s.v + 1 < 2 ^ b * 2 ^ b).
    let both = same_from_place t.k (hilbert b t.u t.v) s.k (hilbert b s.u s.v + 1) (2 ^ b * 2 ^ b) above' inside follows in
    let deeper = near_next b s.u s.v t.u t.v (inner b x y s) (inner b u v t) both.1 in
    near_moved _ _ _ _ _ _ _ _ s.is_x s.is_y
    (t.is_x ∙ ap (λ k. x_of (2 ^ b) k t.u t.v) both.0) (t.is_y ∙ ap (λ k. y_of (2 ^ b) k t.u t.v) both.0)
    (near_in_quarter (2 ^ b) s.k s.u s.v t.u t.v s.in_u s.in_v t.in_u t.in_v deeper))
    (λ (last : 2 ^ b * 2 ^ b ≤ hilbert b s.u s.v + 1).
    let some = pow_pos b in
    let both = same_from_place t.k (hilbert b t.u t.v) (suc s.k) 0 (2 ^ b * 2 ^ b) above' (omega (arith, above)) (omega (arith, follows, above)) in
    let ending = same b s.u s.v (2 ^ b - 1) 0 (inner b x y s) (record { in_x = omega arith; in_y = some }) (omega (arith, end b, above)) in
    let beginning = same b t.u t.v 0 0 (inner b u v t) (record { in_x = some; in_y = some }) (begin b ∙ sym both.1) in
    let on_x : x_of (2 ^ b) s.k s.u s.v ≡ x_of (2 ^ b) s.k (2 ^ b - 1) 0 = cc (ending.0, ending.1) in
    let on_y : y_of (2 ^ b) s.k s.u s.v ≡ y_of (2 ^ b) s.k (2 ^ b - 1) 0 = cc (ending.0, ending.1) in
    let on_u : x_of (2 ^ b) t.k t.u t.v ≡ x_of (2 ^ b) (suc s.k) 0 0 = cc (both.0, beginning.0, beginning.1) in
    let on_v : y_of (2 ^ b) t.k t.u t.v ≡ y_of (2 ^ b) (suc s.k) 0 0 = cc (both.0, beginning.0, beginning.1) in
    near_moved _ _ _ _ _ _ _ _ (s.is_x ∙ on_x) (s.is_y ∙ on_y) (t.is_x ∙ on_u) (t.is_y ∙ on_v)
    (near_between (2 ^ b) s.k some (omega (arith, t.in_k, both.0))))
    (cases_lt (hilbert b s.u s.v + 1) (2 ^ b * 2 ^ b))

pub neighbours : (b x y u v : ℕ) → IsCell b x y → IsCell b u v → hilbert b u v ≡ hilbert b x y + 1 → AreNeighbours x y u v
neighbours b x y u v c d e = near_told x y u v (near_next b x y u v c d e)

pub outermost : (x y : ℕ) → hilbert 0 x y ≡ 0
unfolding hilbert
outermost x y = refl

pub at_start : (at : ℕ) → at * 1 + hilbert 0 0 0 ≡ at
at_start at = omega (arith, outermost 0 0)

-- the last turn of the loop: all digits of four are taken, and no other cell has the number
pub found : (bit rest at x y : ℕ) → bit ≡ 16 → rest * (2 ^ bit * 2 ^ bit) + hilbert bit x y ≡ at → at < 2 ^ 32 → IsCell bit x y
    → (u v : ℕ) → IsCell 16 u v → hilbert 16 u v ≡ at → (u ≡ x) × (v ≡ y)
found bit rest at x y all value small c u v d e =
    let cell = rw all at c in
    let whole : rest * (2 ^ 16 * 2 ^ 16) + hilbert 16 x y ≡ at = rw all at value in
    same 16 u v x y d cell (omega arith)
