-- Parts of a list, one behind the other.
use Rattle.std.proofs.Common.{◌≡◌, ℕ, ◌+◌, ◌-◌, ◌≤◌, List, [], ◌++◌, length, take, drop, sym, ap, ◌∙◌, arith}
use Rattle.std.specs.Prelude.{slice_range}
use Rattle.std.specs.List.{range_with_len}
use Rattle.std.proofs.Math.Seq.{take-add}
use Rattle.std.proofs.lemmas.List.{length-take, length-drop, drop-drop, drop-take, take-take, take_at}
use Rattle.std.proofs.lemmas.Slice.{between_from_start}
use Rattle.fgb_outside.proofs.Asking.{range_with_len-append}

take_join : (m n : ℕ) (l : List ℕ) → take m l ++ take n (drop m l) ≡ take (m + n) l
take_join m n l = sym (take-add m n l)

pub slice_join : (l : List ℕ) (a b c : ℕ) → a ≤ b → b ≤ c → slice_range l a b ++ slice_range l b c ≡ slice_range l a c
slice_join l a b c ab bc =
    let e : a + (b - a) ≡ b = omega arith in
    let f : (b - a) + (c - b) ≡ c - a = omega arith in
    ap (λ x. take (b - a) (drop a l) ++ take (c - b) x) (ap (λ k. drop k l) (sym e) ∙ sym (drop-drop (b - a) a l)) ∙ take_join (b - a) (c - b) (drop a l) ∙ ap (λ k. take k (drop a l)) f

pub take_slice : (l : List ℕ) (b c : ℕ) → b ≤ c → take b l ++ slice_range l b c ≡ take c l
take_slice l b c bc = let f : b + (c - b) ≡ c = omega arith in take_join b (c - b) l ∙ ap (λ k. take k l) f

pub length_slice : (l : List ℕ) (a b : ℕ) → b ≤ length l → length (slice_range l a b) ≡ b - a
length_slice l a b within = simp (length-take, length-drop) (omega arith)

-- a slice behind its first n bytes
pub slice_pass : (l : List ℕ) (from till n : ℕ) → from + n ≤ till → slice_range l (from + n) till ≡ drop n (slice_range l from till)
slice_pass l from till n within =
    let e : n + (till - (from + n)) ≡ till - from = omega arith in
    ap (take (till - (from + n))) (sym (drop-drop n from l)) ∙ sym (drop-take n (till - (from + n)) (drop from l)) ∙ ap (λ k. drop n (take k (drop from l))) e

-- a front of a slice
pub take_front : (l : List ℕ) (from till n : ℕ) → n ≤ till - from → take n (slice_range l from till) ≡ slice_range l from (from + n)
take_front l from till n within =
    let e : n ≡ (from + n) - from = omega arith in
    take-take n (till - from) (drop from l) within ∙ ap (λ k. take k (drop from l)) e

pub range_join : (a m b n k : ℕ) → a + m ≡ b → m + n ≡ k → range_with_len a m ++ range_with_len b n ≡ range_with_len a k
range_join a m b n k e f = ap (λ x. range_with_len a m ++ range_with_len x n) (sym e) ∙ sym (range_with_len-append a m n) ∙ ap (range_with_len a) f

pub range_same : (a b m n : ℕ) → a ≡ b → m ≡ n → range_with_len a m ≡ range_with_len b n
range_same a b m n e f = ap (λ k. range_with_len k m) e ∙ ap (range_with_len b) f

-- a list that stands whole at the front
pub whole : (l rest : List ℕ) (n : ℕ) → length l ≡ n → take n (l ++ rest) ≡ l
whole l rest n len = take_at l rest n len

-- what a buffer holds from its start on: what it held, and what came behind it
pub held_and_more : (l was : List ℕ) (held till : ℕ) → take held l ≡ was → held ≤ till → slice_range l 0 till ≡ was ++ slice_range l held till
held_and_more l was held till front reached =
    sym (slice_join l 0 held till (omega arith) reached) ∙ ap (λ k. k ++ slice_range l held till) (between_from_start l held ∙ front)

pub slice_nothing : (l : List ℕ) (at : ℕ) → slice_range l at at ≡ []
slice_nothing l at = let e : at - at ≡ 0 = omega arith in ap (λ k. take k (drop at l)) e
