-- Offsets, strings and vectors of numbers read back.
use Rattle.std.proofs.Common.{◌≡◌, ℕ, ◌+◌, ◌-◌, ◌*◌, ◌^◌, ◌<◌, ◌≤◌, true, List, [], ◌∷◌, ◌++◌, length, replicate, subst, arith, length-append}
use Rattle.std.specs.List.{AllByRecursion, flat_map}
use Rattle.std.proofs.lemmas.List.{length-replicate}
use Rattle.std.proofs.lemmas.Bool.Decides.{nat_tests}
use Rattle.byteorder.specs.Endian.{little_bytes}
use Rattle.byteorder.specs.Numbers.{length-bytes_low_first}
use Rattle.flat_layout.specs.Layout.{number_at, target, is_offset, count, is_vector, elements as bytes_in, text, is_ended}
use Rattle.flat_builder.specs.Trees.{string, vector}
use Rattle.flat_builder.specs.Laying.{filling, stands, text_bytes, vector_bytes, lay}
use Rattle.flat_builder.proofs.Lengths.{length-pieces, stands_le}
use Rattle.flat_laid.specs.Lies.{IsText, IsVector}
use Rattle.flat_laid.proofs.Parts.{IsAt, at_front, at_rest, number_is, slice_is, size_of, numbers_are, bytes_are}

-- an offset at p leads to n
pub record Leads (b : List ℕ) (p n : ℕ) : Type 0 where
  pub is : is_offset b p ≡ true
  pub to : target b p ≡ n

pub leads_to : (b : List ℕ) (p n : ℕ) → length b < 2 ^ 31 → IsAt b p (little_bytes 4 (n - p)) → p + 4 ≤ n → n + 4 ≤ length b → Leads b p n
unfolding is_offset target
leads_to b p n low h apart inside =
    let distance : number_at 4 b p ≡ n - p = number_is 4 b p (n - p) h (omega arith) in
    record {
      is = grind (arith, nat_tests);
      to = omega (arith, distance);
    }

text_by : (b bytes : List ℕ) (p : ℕ) → number_at 4 b p ≡ length bytes → number_at 1 b (p + 4 + length bytes) ≡ 0 → p + 4 + length bytes < length b
    → IsAt b (p + 4) bytes → IsText b bytes p
unfolding count is_vector text is_ended
text_by b bytes p counted end inside h = record {
  inside = grind (arith, nat_tests);
  counted = counted;
  ended = rw counted (grind (arith, nat_tests));
  same = slice_is b bytes (p + 4) (p + 4 + number_at 4 b p) (omega arith) h;
}

pub string_lies : (b bytes : List ℕ) (c : ℕ) → length b < 2 ^ 31 → IsAt b c (lay (string bytes) c) → IsText b bytes c
unfolding lay text_bytes
string_lies b bytes c low h =
    let rest = filling 4 (c + 4 + length bytes + 1) in
    let counted = at_front b (little_bytes 4 (length bytes)) (bytes ++ 0 ∷ rest) c h in
    let behind = at_rest b (little_bytes 4 (length bytes)) (bytes ++ 0 ∷ rest) c (c + 4) (omega arith) h in
    let zero_at = at_rest b bytes (0 ∷ rest) (c + 4) (c + 4 + length bytes) (omega arith) behind in
    text_by b bytes c
    (number_is 4 b c (length bytes) counted (omega (arith, behind.inside, length-append bytes (0 ∷ rest))))
    (number_is 1 b (c + 4 + length bytes) 0 (at_front b (0 ∷ []) rest (c + 4 + length bytes) zero_at) (omega arith))
    (omega (arith, zero_at.inside))
    (at_front b bytes (0 ∷ rest) (c + 4) behind)

same_bounds : (w : ℕ) (xs : List ℕ) → AllByRecursion (λ x. x < 2 ^ (8 * w)) xs → AllByRecursion (λ x. x < 256 ^ w) xs
same_bounds w xs h = subst (λ m. AllByRecursion (λ x. x < m) xs) (size_of w) h

one_byte : (b elements : List ℕ) (w v : ℕ) → AllByRecursion (λ x. x < 256 ^ w) elements → IsAt b (v + 4) (flat_map (little_bytes w) elements) → w ≡ 1
    → IsAt b (v + 4) elements
one_byte b elements w v low h same =
    let Bounded : ℕ → Type 0 = λ m. AllByRecursion (λ x. x < 256 ^ m) elements in
    let Stands : ℕ → Type 0 = λ m. IsAt b (v + 4) (flat_map (little_bytes m) elements) in
    subst (λ l. IsAt b (v + 4) l) (bytes_are elements (subst Bounded same low)) (subst Stands same h)

vector_by : (b elements : List ℕ) (w v : ℕ) → number_at 4 b v ≡ length elements → v + 4 + w * length elements ≤ length b → AllByRecursion (λ x. x < 256 ^ w) elements
    → IsAt b (v + 4) (flat_map (little_bytes w) elements) → IsVector b w elements v
unfolding count is_vector bytes_in
vector_by b elements w v counted inside low h = record {
  inside = rw counted (grind (arith, nat_tests));
  counted = counted;
  same = numbers_are b w elements (v + 4) 0 (v + 4) (omega arith) h low;
  bytes = λ same. slice_is b elements (v + 4) (v + 4 + 1 * number_at 4 b v) (omega (arith, counted)) (one_byte b elements w v low h same);
}

pub vector_lies : (b elements : List ℕ) (w c : ℕ) → length b < 2 ^ 31 → 0 < w → AllByRecursion (λ x. x < 2 ^ (8 * w)) elements
    → IsAt b c (lay (vector w elements) c) → IsVector b w elements (stands (vector w elements) c)
unfolding lay vector_bytes
vector_lies b elements w c low some bounds h =
    let v = stands (vector w elements) c in
    let pieces = flat_map (little_bytes w) elements in
    let rest = filling 4 (v + 4 + w * length elements) in
    let zeros : List ℕ = replicate (v - c) 0 in
    let here : c + length zeros ≡ v = omega (arith, length-replicate {A = ℕ} (v - c) 0, stands_le (vector w elements) c) in
    let all = at_rest b zeros (vector_bytes w elements v) c v here h in
    let behind = at_rest b (little_bytes 4 (length elements)) (pieces ++ rest) v (v + 4) (omega arith) all in
    let numbers = at_front b pieces rest (v + 4) behind in
    let long = length-pieces (little_bytes w) w (length-bytes_low_first 0 w) elements in
    let few : length elements ≤ w * length elements = grind arith in
    vector_by b elements w v
    (number_is 4 b v (length elements) (at_front b (little_bytes 4 (length elements)) (pieces ++ rest) v all) (omega (arith, numbers.inside, long)))
    (omega (arith, numbers.inside, long))
    (same_bounds w elements bounds) numbers
