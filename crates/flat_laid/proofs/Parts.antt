-- Bytes that stand at a place of a buffer, and the numbers that are read there.
use Rattle.std.proofs.Common.{◌≡◌, ℕ, zero, suc, ◌+◌, ◌-◌, ◌*◌, ◌^◌, ◌<◌, ◌≤◌, List, [], ◌∷◌, ◌++◌, length, take, drop, map, refl, sym, ap, ◌∙◌, subst, arith, length-append, append_assoc}
use Rattle.std.specs.List.{AllByRecursion, flat_map, range_with_len, slice_range}
use Rattle.std.proofs.lemmas.List.{append-nil, drop_at, drop-drop, take_at}
use Rattle.std.proofs.lemmas.Nat.{pow-add}
use Rattle.std.proofs.Math.Nat.{mod-eq_of_lt, pow-suc}
use Rattle.byteorder.specs.Endian.{little_bytes, little_number}
use Rattle.byteorder.specs.Numbers.{length-bytes_low_first, little_number-reads_back}
use Rattle.flat_layout.specs.Layout.{number_at}

-- these bytes stand in b from p on
pub record IsAt (b : List ℕ) (p : ℕ) (x : List ℕ) : Type 0 where
  pub behind : List ℕ
  pub reads : drop p b ≡ x ++ behind
  pub inside : p + length x ≤ length b

pub at_whole : (b : List ℕ) → IsAt b 0 b
at_whole b = record { behind = []; reads = sym (append-nil b); inside = omega arith }

pub at_move : (b x : List ℕ) (p q : ℕ) → p ≡ q → IsAt b p x → IsAt b q x
at_move b x p q here h = subst (λ n. IsAt b n x) here h

pub at_front : (b x y : List ℕ) (p : ℕ) → IsAt b p (x ++ y) → IsAt b p x
at_front b x y p h = record {
  behind = y ++ h.behind;
  reads = h.reads ∙ append_assoc x y h.behind;
  inside = omega (arith, h.inside, length-append x y);
}

pub at_rest : (b x y : List ℕ) (p q : ℕ) → p + length x ≡ q → IsAt b p (x ++ y) → IsAt b q y
at_rest b x y p q here h = record {
  behind = h.behind;
  reads =
      ap (λ n. drop n b) (sym here)
      ∙ sym (drop-drop (length x) p b)
      ∙ ap (drop (length x)) (h.reads ∙ append_assoc x y h.behind)
      ∙ drop_at x (y ++ h.behind) (length x) refl;
  inside = omega (arith, h.inside, length-append x y);
}

pub number_is : (w : ℕ) (b : List ℕ) (p v : ℕ) → IsAt b p (little_bytes w v) → v < 256 ^ w → number_at w b p ≡ v
unfolding number_at
number_is w b p v h low = ap (little_number w) h.reads ∙ little_number-reads_back w v h.behind low

pub slice_is : (b x : List ℕ) (p q : ℕ) → p + length x ≡ q → IsAt b p x → slice_range b p q ≡ x
slice_is b x p q here h = ap (take (q - p)) h.reads ∙ take_at x h.behind (q - p) (omega arith)

-- two ways to write the size of w bytes
pub size_of : (w : ℕ) → 2 ^ (8 * w) ≡ 256 ^ w
size_of zero = refl
size_of (suc w) = let e : 8 * suc w ≡ 8 * w + 8 = omega arith in rw (pow-suc 256 w, e, pow-add 2 (8 * w) 8, size_of w) refl

-- numbers of w bytes each, one behind the other
pub numbers_are : (b : List ℕ) (w : ℕ) (xs : List ℕ) (v j q : ℕ) → v + w * j ≡ q
    → IsAt b q (flat_map (little_bytes w) xs) → AllByRecursion (λ x. x < 256 ^ w) xs
    → map (λ i. number_at w b (v + w * i)) (range_with_len j (length xs)) ≡ xs
numbers_are b w [] v j q here h low = refl
numbers_are b w (x ∷ xs) v j q here h low =
    let rest = flat_map (little_bytes w) xs in
    let first = number_is w b q x (at_front b (little_bytes w x) rest q h) low.0 in
    let more = numbers_are b w xs v (j + 1) (q + w) (omega arith) (at_rest b (little_bytes w x) rest q (q + w) (omega (arith, length-bytes_low_first 0 w x)) h) low.1 in
    ap (λ n. number_at w b n ∷ map (λ i. number_at w b (v + w * i)) (range_with_len (j + 1) (length xs))) here
    ∙ ap (λ n. n ∷ map (λ i. number_at w b (v + w * i)) (range_with_len (j + 1) (length xs))) first
    ∙ ap (λ l. x ∷ l) more

pub bytes_are : (xs : List ℕ) → AllByRecursion (λ x. x < 256) xs → flat_map (little_bytes 1) xs ≡ xs
bytes_are [] low = refl
bytes_are (x ∷ xs) low = ap (λ n. n ∷ flat_map (little_bytes 1) xs) (mod-eq_of_lt low.0) ∙ ap (λ l. x ∷ l) (bytes_are xs low.1)

-- the i-th of n numbers of w bytes each
pub nth_at : (b : List ℕ) (w : ℕ) (f : ℕ → ℕ) (a n p i j : ℕ) → i < n → a + i ≡ j
    → IsAt b p (flat_map (λ k. little_bytes w (f k)) (range_with_len a n)) → IsAt b (p + w * i) (little_bytes w (f j))
nth_at b w f a zero p i j low here h = absurd (omega arith)
nth_at b w f a (suc n) p zero j low here h =
    let first = at_front b (little_bytes w (f a)) (flat_map (λ k. little_bytes w (f k)) (range_with_len (a + 1) n)) p h in
    let same : f a ≡ f j = ap f (omega arith) in
    subst (λ v. IsAt b (p + w * 0) (little_bytes w v)) same (at_move b (little_bytes w (f a)) p (p + w * 0) (omega arith) first)
nth_at b w f a (suc n) p (suc i) j low here h =
    let rest = flat_map (λ k. little_bytes w (f k)) (range_with_len (a + 1) n) in
    let more = at_rest b (little_bytes w (f a)) rest p (p + w) (omega (arith, length-bytes_low_first 0 w (f a))) h in
    at_move b (little_bytes w (f j)) (p + w + w * i) (p + w * suc i) (omega arith) (nth_at b w f (a + 1) n (p + w) i j (omega arith) (omega arith) more)
