-- Numbers that fall from level to level: level k + 1 has a node for each s of level k, or fewer for the last.
use Rattle.std.proofs.Common.{◌≡◌, ℕ, ◌+◌, ◌-◌, ◌*◌, ◌<◌, ◌≤◌, zero, suc, inl, inr, subst, arith}
use Rattle.std.proofs.Math.Nat.{mul-le-mul_right}
use Rattle.std.proofs.lemmas.Bool.{cases_lt}

pub record Falls (w : ℕ → ℕ) (s : ℕ) : Type 0 where
  pub wide : 2 ≤ s
  pub below : (k j : ℕ) → j < w (k + 1) → s * j < w k
  pub above : (k j : ℕ) → s * j < w k → j < w (k + 1)

twice : (s x : ℕ) → 2 ≤ s → 2 * x ≤ s * x
twice s x wide = mul-le-mul_right x wide

-- no level has more nodes than the one below
pub falls_le : {w : ℕ → ℕ} {s : ℕ} → Falls w s → (k : ℕ) → w (k + 1) ≤ w k
falls_le {w} {s} f k = elim (cases_lt (w k) (w (k + 1))) [
  | inl more ↦ absurd (omega (arith, twice s (w k) f.wide, f.below k (w k) more))
  | inr le ↦ le
]

-- and each has fewer, above one with two
pub falls_lt : {w : ℕ → ℕ} {s : ℕ} → Falls w s → (k : ℕ) → 1 < w k → w (k + 1) < w k
falls_lt {w} {s} f k two = elim (cases_lt (w (k + 1)) (w k)) [
  | inl lt ↦ lt
  | inr ge ↦ let last : w k - 1 < w (k + 1) = omega arith in
      absurd (omega (arith, twice s (w k - 1) f.wide, f.below k (w k - 1) last))
]

-- no level is empty
pub falls_some : {w : ℕ → ℕ} {s : ℕ} → Falls w s → (k : ℕ) → 0 < w k → 0 < w (k + 1)
falls_some {w} {s} f k some = f.above k 0 (omega arith)

pub all_some : {w : ℕ → ℕ} {s : ℕ} → Falls w s → 0 < w 0 → (k : ℕ) → 0 < w k
all_some f some zero = some
all_some {w} {s} f some (suc k) =
    let e : k + 1 ≡ suc k = omega arith in
    subst (λ m. 0 < w m) e (falls_some f k (all_some f some k))

-- from any level on, some level is the first with one node
pub record Root (w : ℕ → ℕ) (from : ℕ) : Type 0 where
  pub top : ℕ
  pub later : from ≤ top
  pub one : w top ≡ 1
  pub first : (k : ℕ) → from ≤ k → k < top → 1 < w k

root_here : (w : ℕ → ℕ) (k : ℕ) → 0 < w k → w k ≤ 1 → Root w k
root_here w k some few = record {
  top = k;
  later = omega arith;
  one = omega arith;
  first = λ j from under. absurd (omega arith);
}

root_above : (w : ℕ → ℕ) (k : ℕ) → 1 < w k → Root w (k + 1) → Root w k
root_above w k two root = record {
  top = root.top;
  later = omega (arith, root.later);
  one = root.one;
  first = λ j from under. elim (cases_lt k j) [
    | inl above ↦ root.first j (omega arith) under
    | inr le ↦ let e : k ≡ j = omega arith in subst (λ m. 1 < w m) e two
  ];
}

root_within : {w : ℕ → ℕ} {s : ℕ} → Falls w s → 0 < w 0 → (fuel k : ℕ) → w k ≤ fuel + 1 → Root w k
root_within {w} {s} f some zero k few = root_here w k (all_some f some k) (omega arith)
root_within {w} {s} f some (suc fuel) k few = elim (cases_lt 1 (w k)) [
  | inl two ↦ root_above w k two (root_within f some fuel (k + 1) (omega (arith, falls_lt f k two)))
  | inr one ↦ root_here w k (all_some f some k) one
]

pub root_from : {w : ℕ → ℕ} {s : ℕ} → Falls w s → 0 < w 0 → (k : ℕ) → Root w k
root_from {w} {s} f some k = root_within f some (w k) k (omega arith)
