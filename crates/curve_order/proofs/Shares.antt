-- The middle of two keys, and its share of the way from one key to another.
use Rattle.std.proofs.Common.{◌≡◌, ◌+◌, ◌*◌, ◌<◌, ◌≤◌, ℕ, ℤ, pos, negsuc, ◌+ℤ◌, ◌-ℤ◌, ◌*ℤ◌, ◌≤ℤ◌, ◌<ℤ◌, arith}
use Rattle.std.specs.Int.{int_div_euclid}
use Rattle.std.proofs.lemmas.Int.{ints}
use Rattle.order_keys.specs.Keys.{key_of}
use Rattle.curve_order.specs.Cells.{IsMiddle, IsShare}

half_low : (z : ℤ) → (pos 2 *ℤ int_div_euclid z (pos 2)) ≤ℤ z
half_low (pos n) = omega (arith, ints)
half_low (negsuc n) = omega (arith, ints)

half_high : (z : ℤ) → z <ℤ ((pos 2 *ℤ int_div_euclid z (pos 2)) +ℤ pos 2)
half_high (pos n) = omega (arith, ints)
half_high (negsuc n) = omega (arith, ints)

pub middle_is : (min max : ℕ) (sum half r : ℤ) → half ≡ int_div_euclid sum (pos 2) → sum ≡ key_of min +ℤ key_of max → r ≡ half → IsMiddle min max r
middle_is min max sum half r e f g = rw (g, e, f) (record { low = half_low (key_of min +ℤ key_of max); high = half_high (key_of min +ℤ key_of max) })

low_is : (n way width : ℕ) (w m : ℤ) → pos width ≡ w → pos way ≡ m → n * width ≤ 65535 * way → (pos n *ℤ w) ≤ℤ (pos 65535 *ℤ m)
low_is n way width w m e f h = rw (← e, ← f) (omega (arith, ints))

high_is : (n way width : ℕ) (w m : ℤ) → pos width ≡ w → pos way ≡ m → 65535 * way < (n + 1) * width
    → (pos 65535 *ℤ m) <ℤ ((pos n +ℤ pos 1) *ℤ w)
high_is n way width w m e f h = rw (← e, ← f) (omega (arith, ints))

pub share_is : (min max from to n way width : ℕ) (m : ℤ) → n * width ≤ 65535 * way → 65535 * way < (n + 1) * width → 0 < width
    → IsMiddle min max m → pos way ≡ m -ℤ key_of from → pos width ≡ key_of to -ℤ key_of from → IsShare min max from to n
share_is min max from to n way width m low high some is_middle e f = record {
  middle = m;
  is_middle = is_middle;
  flat = λ g. absurd (omega (arith, ints));
  low = λ g. low_is n way width (key_of to -ℤ key_of from) (m -ℤ key_of from) f e low;
  high = λ g. high_is n way width (key_of to -ℤ key_of from) (m -ℤ key_of from) f e high;
}
