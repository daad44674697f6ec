-- The bytes of a text are below 256.
use Rattle.std.proofs.Common.{◌≡◌, ℕ, ◌+◌, ◌/◌, ◌%◌, ◌<◌, Bool, true, false, List, [], ◌∷◌, ◌++◌, subst, cond, ltb, arith}
use Rattle.std.specs.Prelude.{IsUtf8}
use Rattle.std.specs.Char.{encode_utf8}
use Rattle.std.specs.Str.{all_scalars, encode_utf8_all}
use Rattle.std.proofs.Math.Utf8.{scalar, scalar_cases}
use Rattle.std.proofs.lemmas.Bool.{and_parts, cond_both, ltb-true}
use Rattle.feature_tables.specs.Records.{AreBytes}

pub bytes-append : (xs ys : List ℕ) → AreBytes xs → AreBytes ys → AreBytes (xs ++ ys)
bytes-append [] ys front back = back
bytes-append (x ∷ xs) ys front back = (front.0, bytes-append xs ys front.1 back)

-- the bytes of one, by how many they are
choice : (x : Bool) (few more : List ℕ) → (x ≡ true → AreBytes few) → (x ≡ false → AreBytes more) → AreBytes (cond x few more)
choice x few more one other = cond_both x few more AreBytes one other

two : (c : ℕ) → c < 2048 → AreBytes ((192 + c / 64) ∷ (128 + c % 64) ∷ [])
two c early = omega arith

three : (c : ℕ) → c < 65536 → AreBytes ((224 + c / 4096) ∷ (128 + c / 64 % 64) ∷ (128 + c % 64) ∷ [])
three c early = omega arith

four : (c : ℕ) → c < 1114112 → AreBytes ((240 + c / 262144) ∷ (128 + c / 4096 % 64) ∷ (128 + c / 64 % 64) ∷ (128 + c % 64) ∷ [])
four c early = omega arith

character : (c : ℕ) → c < 1114112 → AreBytes (encode_utf8 c)
unfolding encode_utf8
character c early = choice (ltb c 128) _ _ (λ low. omega (arith, ltb-true c 128 low))
    (λ high. choice (ltb c 2048) _ _ (λ low. two c (ltb-true c 2048 low))
    (λ high. choice (ltb c 65536) _ _ (λ low. three c (ltb-true c 65536 low)) (λ high. four c early)))

characters : (cs : List ℕ) → all_scalars cs ≡ true → AreBytes (encode_utf8_all cs)
characters [] all = tt
characters (c ∷ cs) all =
    let parts = and_parts (scalar c) (all_scalars cs) all in
    bytes-append (encode_utf8 c) (encode_utf8_all cs) (character c (omega (arith, scalar_cases c parts.0))) (characters cs parts.1)

pub text_bytes : (bytes : List ℕ) → IsUtf8 bytes → AreBytes bytes
text_bytes bytes utf8 = subst AreBytes utf8.1.1 (characters utf8.0 utf8.1.0)
