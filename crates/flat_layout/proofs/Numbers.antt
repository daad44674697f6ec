-- The numbers of a vector, one by one, the length of a string, and what stands in a field.
use Rattle.std.proofs.Common.{◌≡◌, ℕ, ℤ, ◌+◌, ◌*◌, ◌<◌, ◌≤◌, true, false, List, length, get_or, Some, None, refl, ap, arith}
use Rattle.std.specs.Prelude.{option_map}
use Rattle.std.proofs.lemmas.Bool.Decides.{nat_tests}
use Rattle.std.proofs.lemmas.Grind.{common_steps}
use Rattle.std.specs.Int.{w32, cast_signed}
use Rattle.std.proofs.lemmas.List.FromFn.{get_or-map-range_with_len, length-map-range_with_len}
use Rattle.flat_layout.specs.Layout.{number_at, count, words, longs, is_absent, field_place, led_to, number_in, signed_in, place_in, is_vector, text, text_in}

-- as many numbers as the vector counts
pub length-longs : (b : List ℕ) (v : ℕ) → length (longs b v) ≡ count b v
unfolding longs
length-longs b v = length-map-range_with_len (λ i. number_at 8 b (v + 4 + 8 * i)) 0 (count b v)

pub length-words : (b : List ℕ) (v : ℕ) → length (words b v) ≡ count b v
unfolding words
length-words b v = length-map-range_with_len (λ i. number_at 4 b (v + 4 + 4 * i)) 0 (count b v)

-- the i-th of them
pub get_or-longs : (b : List ℕ) (v i d : ℕ) → i < count b v → get_or (longs b v) i d ≡ number_at 8 b (v + 4 + 8 * i)
unfolding longs
get_or-longs b v i d below =
    get_or-map-range_with_len (λ i. number_at 8 b (v + 4 + 8 * i)) 0 (count b v) i i d below (omega arith)

pub get_or-words : (b : List ℕ) (v i d : ℕ) → i < count b v → get_or (words b v) i d ≡ number_at 4 b (v + 4 + 4 * i)
unfolding words
get_or-words b v i d below =
    get_or-map-range_with_len (λ i. number_at 4 b (v + 4 + 4 * i)) 0 (count b v) i i d below (omega arith)

-- as many bytes as the string counts
pub length-text : (b : List ℕ) (p : ℕ) → is_vector 1 b p ≡ true → length (text b p) ≡ count b p
unfolding is_vector text
length-text b p sound =
    let room : p + 4 + 1 * count b p ≤ length b = grind (arith, nat_tests) in
    grind (arith, common_steps)

-- an absent field has its default, and a present one what stands at its place
pub number_in-absent : (w : ℕ) (b : List ℕ) (t f otherwise : ℕ) → is_absent b t f ≡ true → number_in w b t f otherwise ≡ otherwise
unfolding number_in
number_in-absent w b t f otherwise absent = rw absent refl

pub number_in-present : (w : ℕ) (b : List ℕ) (t f otherwise : ℕ) → is_absent b t f ≡ false → number_in w b t f otherwise ≡ number_at w b (field_place b t f)
unfolding number_in
number_in-present w b t f otherwise present = rw present refl

pub signed_in-absent : (b : List ℕ) (t f : ℕ) (otherwise : ℤ) → is_absent b t f ≡ true → signed_in b t f otherwise ≡ otherwise
unfolding signed_in
signed_in-absent b t f otherwise absent = rw absent refl

pub signed_in-present : (b : List ℕ) (t f : ℕ) (otherwise : ℤ) → is_absent b t f ≡ false → signed_in b t f otherwise ≡ cast_signed w32 (number_at 4 b (field_place b t f))
unfolding signed_in
signed_in-present b t f otherwise present = rw present refl

pub place_in-absent : (b : List ℕ) (t f : ℕ) → is_absent b t f ≡ true → place_in b t f ≡ None
unfolding place_in
place_in-absent b t f absent = rw absent refl

pub place_in-present : (b : List ℕ) (t f : ℕ) → is_absent b t f ≡ false → place_in b t f ≡ Some (led_to b t f)
unfolding place_in
place_in-present b t f present = rw present refl

pub text_in-absent : (b : List ℕ) (t f : ℕ) → is_absent b t f ≡ true → text_in b t f ≡ None
unfolding text_in
text_in-absent b t f absent = rw absent refl

pub text_in-present : (b : List ℕ) (t f : ℕ) → is_absent b t f ≡ false → text_in b t f ≡ Some (text b (led_to b t f))
unfolding text_in
text_in-present b t f present = rw present refl

pub length-text_in : (b : List ℕ) (t f : ℕ) → is_absent b t f ≡ false → is_vector 1 b (led_to b t f) ≡ true → option_map length (text_in b t f) ≡ Some (count b (led_to b t f))
length-text_in b t f present sound =
    rw (text_in-present b t f present) (ap (λ n. Some n) (length-text b (led_to b t f) sound))
