-- Levels that stand one above the other: a k nodes stand above level k, which has w k of them.
use Rattle.std.proofs.Common.{◌≡◌, ℕ, ◌+◌, ◌-◌, ◌<◌, ◌≤◌, zero, suc, inl, inr, ap, subst, arith}
use Rattle.std.proofs.lemmas.Bool.{cases_lt}

pub record Stands (a w : ℕ → ℕ) (top : ℕ) : Type 0 where
  pub next : (k : ℕ) → k < top → a k ≡ a (k + 1) + w (k + 1)
  pub root : a top ≡ 0

apart_by : {a w : ℕ → ℕ} {top : ℕ} → Stands a w top → (d k : ℕ) → k + d < top → a (k + d + 1) + w (k + d + 1) ≤ a k
apart_by {a} {w} {top} s zero k under =
    let e : k + 1 ≡ k + zero + 1 = omega arith in
    let P : ℕ → Type 0 = λ m. a m + w m ≤ a k in
    subst P e (omega (arith, s.next k (omega arith)))
apart_by {a} {w} {top} s (suc d) k under =
    let e : k + 1 + d + 1 ≡ k + suc d + 1 = omega arith in
    let P : ℕ → Type 0 = λ m. a m + w m ≤ a k in
    subst P e (omega (arith, s.next k (omega arith), apart_by s d (k + 1) (omega arith)))

-- a level ends in front of each level below it
pub apart : {a w : ℕ → ℕ} {top : ℕ} → Stands a w top → (k j : ℕ) → k < j → j ≤ top → a j + w j ≤ a k
apart {a} {w} {top} s k j lower under =
    let e : k + (j - (k + 1)) + 1 ≡ j = omega arith in
    let P : ℕ → Type 0 = λ m. a m + w m ≤ a k in
    subst P e (apart_by s (j - (k + 1)) k (omega arith))

-- a number tells the level and the place in it
pub stack_tells : {a w : ℕ → ℕ} {top : ℕ} → Stands a w top → (k i j l : ℕ) → k ≤ top → j ≤ top → i < w k → l < w j → a k + i ≡ a j + l → (k ≡ j) × (i ≡ l)
stack_tells {a} {w} {top} s k i j l ktop jtop iin lin e = elim (cases_lt k j) [
  | inl lower ↦ absurd (omega (arith, apart s k j lower jtop))
  | inr ge ↦ elim (cases_lt j k) [
    | inl lower ↦ absurd (omega (arith, apart s j k lower ktop))
    | inr le ↦ let same : k ≡ j = omega arith in (same, omega (arith, ap a same))
  ]
]
