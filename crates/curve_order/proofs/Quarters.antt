-- One step of the curve: a cell of a square by its quarter, and by the cell that it is along the curve through that quarter.
use Rattle.std.proofs.Common.{◌≡◌, ◌<◌, ◌≤◌, ℕ, suc, ◌+◌, ◌-◌, ◌*◌, ◌/◌, ◌%◌, ◌^◌, ap, arith, ◌∙◌, add-one}
use Rattle.std.proofs.Math.Nat.{pow-suc}
use Rattle.std.proofs.Math.Pow.{pow_mono}
use Rattle.std.proofs.lemmas.Bool.Decides.{nat_tests}
use Rattle.curve_order.specs.Curve.{hilbert}

pub twice : (b : ℕ) → 2 ^ suc b ≡ 2 ^ b + 2 ^ b
twice b = rw pow-suc (omega arith)

-- the cells of a square are four times as many as those of a quarter
pub four : (b : ℕ) → 2 ^ suc b * 2 ^ suc b ≡ 4 * (2 ^ b * 2 ^ b)
four b = rw twice (omega arith)

pub first : (b x y : ℕ) → x < 2 ^ b → y < 2 ^ b → hilbert (suc b) x y ≡ hilbert b y x
unfolding hilbert
first b x y in_x in_y = grind (arith, nat_tests)

pub second : (b x y : ℕ) → x < 2 ^ b → 2 ^ b ≤ y → hilbert (suc b) x y ≡ 2 ^ b * 2 ^ b + hilbert b x (y - 2 ^ b)
unfolding hilbert
second b x y in_x in_y = grind (arith, nat_tests)

pub third : (b x y : ℕ) → 2 ^ b ≤ x → 2 ^ b ≤ y → hilbert (suc b) x y ≡ 2 * (2 ^ b * 2 ^ b) + hilbert b (x - 2 ^ b) (y - 2 ^ b)
unfolding hilbert
third b x y in_x in_y = grind (arith, nat_tests)

pub fourth : (b x y : ℕ) → 2 ^ b ≤ x → y < 2 ^ b → hilbert (suc b) x y ≡ 3 * (2 ^ b * 2 ^ b) + hilbert b (2 ^ b - 1 - y) (2 ^ b - 1 - (x - 2 ^ b))
unfolding hilbert
fourth b x y in_x in_y = grind (arith, nat_tests)

-- the same by half the side of the square, as the code has it
pub enter_first : (b x y h : ℕ) → h ≡ 2 ^ b → x < h → y < h → hilbert (b + 1) x y ≡ hilbert b y x
enter_first b x y h e in_x in_y = rw add-one (first b x y (rw e at in_x) (rw e at in_y))

pub enter_second : (b x y h : ℕ) → h ≡ 2 ^ b → x < h → h ≤ y → hilbert (b + 1) x y ≡ h * h + hilbert b x (y - h)
enter_second b x y h e in_x in_y = rw (add-one, e) (second b x y (rw e at in_x) (rw e at in_y))

pub enter_third : (b x y h : ℕ) → h ≡ 2 ^ b → h ≤ x → h ≤ y → hilbert (b + 1) x y ≡ 2 * (h * h) + hilbert b (x - h) (y - h)
enter_third b x y h e in_x in_y = rw (add-one, e) (third b x y (rw e at in_x) (rw e at in_y))

pub enter_fourth : (b x y h : ℕ) → h ≡ 2 ^ b → h ≤ x → y < h → hilbert (b + 1) x y ≡ 3 * (h * h) + hilbert b (h - 1 - y) (h - 1 - (x - h))
enter_fourth b x y h e in_x in_y = rw (add-one, e) (fourth b x y (rw e at in_x) (rw e at in_y))

pub half_small : (b : ℕ) → b < 16 → 2 ^ b ≤ 32768
half_small b h = let low : b ≤ 15 = omega arith in omega (arith, pow_mono low)

pub whole : (b : ℕ) → 2 ^ (b + 1) ≡ 2 ^ b + 2 ^ b
whole b = rw add-one (twice b)

pub leave_first : (b x y h : ℕ) → h ≡ 2 ^ b → x < h → y < h → hilbert (b + 1) y x ≡ hilbert b x y
leave_first b x y h e in_x in_y = enter_first b y x h e in_y in_x

pub leave_second : (b x y h : ℕ) → h ≡ 2 ^ b → x < h → hilbert (b + 1) x (y + h) ≡ h * h + hilbert b x y
leave_second b x y h e in_x =
    let back : y + h - h ≡ y = omega arith in enter_second b x (y + h) h e in_x (omega arith) ∙ ap (λ v. h * h + hilbert b x v) back

pub leave_third : (b x y h : ℕ) → h ≡ 2 ^ b → hilbert (b + 1) (x + h) (y + h) ≡ 2 * (h * h) + hilbert b x y
leave_third b x y h e =
    let back_x : x + h - h ≡ x = omega arith in
    let back_y : y + h - h ≡ y = omega arith in
    enter_third b (x + h) (y + h) h e (omega arith) (omega arith)
    ∙ ap (λ u. 2 * (h * h) + hilbert b u (y + h - h)) back_x ∙ ap (λ v. 2 * (h * h) + hilbert b x v) back_y

pub leave_fourth : (b x y h : ℕ) → h ≡ 2 ^ b → x < h → y < h → hilbert (b + 1) (h + (h - 1 - y)) (h - 1 - x) ≡ 3 * (h * h) + hilbert b x y
leave_fourth b x y h e in_x in_y =
    let back_x : h - 1 - (h - 1 - x) ≡ x = omega arith in
    let back_y : h - 1 - (h + (h - 1 - y) - h) ≡ y = omega arith in
    enter_fourth b (h + (h - 1 - y)) (h - 1 - x) h e (omega arith) (omega arith)
    ∙ ap (λ u. 3 * (h * h) + hilbert b u (h - 1 - (h + (h - 1 - y) - h))) back_x ∙ ap (λ v. 3 * (h * h) + hilbert b x v) back_y

pub squared : (b h : ℕ) → h ≡ 2 ^ b → h * h ≡ 2 ^ b * 2 ^ b
squared b h e = ap (λ n. n * n) e

-- the lowest digit of four, with the number of the quarter's cell
pub unpacked : (b rest inner outer at : ℕ) → outer ≡ rest % 4 * (2 ^ b * 2 ^ b) + inner → rest * (2 ^ b * 2 ^ b) + inner ≡ at
    → rest / 4 * (2 ^ (b + 1) * 2 ^ (b + 1)) + outer ≡ at
unpacked b rest inner outer at e f =
    let digits : rest ≡ 4 * (rest / 4) + rest % 4 = omega arith in
    let split : rest * (2 ^ b * 2 ^ b) ≡ (4 * (rest / 4) + rest % 4) * (2 ^ b * 2 ^ b) = ap (λ n. n * (2 ^ b * 2 ^ b)) digits in
    rw (add-one, four) (omega (arith, split, e, f))
