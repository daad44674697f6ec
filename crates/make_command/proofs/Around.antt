-- The box from -10 to 10 is a box.
use Rattle.std.proofs.Common.{◌≡◌, inr, ℕ, true, false, arith}
use Rattle.std.proofs.lemmas.Int.{ints}
use Rattle.order_keys.specs.declared.bounds.Bounds.{Bounds}
use Rattle.order_keys.specs.Keys.{key_of, is_negative, IsAtMost}
use Rattle.order_keys.specs.Boxes.{IsBox}
use Rattle.make_command.specs.Made.{IsTenAround}

-- a number with a minus sign comes before one without
signs_ordered : (p q : ℕ) → is_negative p ≡ true → is_negative q ≡ false → IsAtMost p q
unfolding key_of
signs_ordered p q low high = grind (arith, ints)

pub around_is_box : (box : Bounds) → IsTenAround box → IsBox box
around_is_box box around = inr (
  record { min_x = around.min_x.finite; min_y = around.min_y.finite; max_x = around.max_x.finite; max_y = around.max_y.finite },
  record {
    in_x = signs_ordered box.min_x.0 box.max_x.0 around.min_x.sign around.max_x.sign;
    in_y = signs_ordered box.min_y.0 box.max_y.0 around.min_y.sign around.max_y.sign;
  },
)
