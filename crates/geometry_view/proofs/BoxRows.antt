-- Boxes of a few points, by computation.
use Rattle.std.proofs.Common.{◌≡◌, ℕ, [], ◌∷◌, refl}
use Rattle.order_keys.specs.Keys.{key_of}
use Rattle.fgb_schema.specs.Shapes.{box_of_points}

abbrev one : ℕ
one = 0x3FF0_0000_0000_0000

abbrev two : ℕ
two = 0x4000_0000_0000_0000

abbrev minus_three : ℕ
minus_three = 0xC008_0000_0000_0000

abbrev five : ℕ
five = 0x4014_0000_0000_0000

abbrev plus_zero : ℕ
plus_zero = 0

abbrev minus_zero : ℕ
minus_zero = 0x8000_0000_0000_0000

-- (1, 2) and (-3, 5)
pub box_of_two : box_of_points ((one, two) ∷ (minus_three, five) ∷ [])
    ≡ record { min_x = record { 0 = minus_three }; min_y = record { 0 = two }; max_x = record { 0 = one }; max_y = record { 0 = five } }
unfolding key_of
box_of_two = refl

-- of the two zeros the first stays
pub box_of_zeros : box_of_points ((plus_zero, minus_zero) ∷ (minus_zero, plus_zero) ∷ [])
    ≡ record { min_x = record { 0 = plus_zero }; min_y = record { 0 = minus_zero }; max_x = record { 0 = plus_zero }; max_y = record { 0 = minus_zero } }
unfolding key_of
box_of_zeros = refl
