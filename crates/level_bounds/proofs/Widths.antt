-- The widths of the levels of a tree.
use Rattle.std.proofs.Common.{◌≡◌, ℕ, ◌+◌, ◌*◌, ◌^◌, ◌<◌, ◌≤◌, zero, suc, sym, ap, ◌∙◌, subst, inl, inr, arith}
use Rattle.std.specs.Int.{div_ceil}
use Rattle.std.proofs.Math.Nat.{one-le-pow, pow-suc, pow-zero}
use Rattle.std.proofs.Math.Pow.{pow_mono}
use Rattle.std.proofs.lemmas.Bool.{cases_lt}
use Rattle.std.proofs.lemmas.Nat.{mul-le}
use Rattle.level_bounds.specs.Levels.{IsShape}
use Rattle.level_bounds.specs.Cut.{up_to}
use Rattle.level_bounds.proofs.Ceil.{below_ceil, above_ceil, same_below, ceil_twice}
use Rattle.level_bounds.proofs.Falling.{Falls, Root, all_some, root_from}

pow_next : (s k : ℕ) → s ^ (k + 1) ≡ s ^ k * s
pow_next s k = let e : k + 1 ≡ suc k = omega arith in ap (λ m. s ^ m) e ∙ pow-suc s k

-- the leaves are a node each
pub ceil_one : (n s : ℕ) → div_ceil n (s ^ 0) ≡ n
ceil_one n s =
    let one : 0 < 1 = omega arith in
    ap (div_ceil n) (pow-zero s) ∙ same_below (div_ceil n 1) n
    (λ i h. let x : i * 1 < n = below_ceil i n 1 one h in omega arith)
    (λ i h. above_ceil i n 1 one (omega arith))

-- the width of a level from that of the one below
pub ceil_next : (n s k : ℕ) → 2 ≤ s → div_ceil (div_ceil n (s ^ k)) s ≡ div_ceil n (s ^ (k + 1))
ceil_next n s k wide =
    ceil_twice n (s ^ k) s (one-le-pow k s (omega arith)) (omega arith) ∙ ap (div_ceil n) (sym (pow_next s k))

pub widths_fall : (n s : ℕ) → 2 ≤ s → Falls (λ k. div_ceil n (s ^ k)) s
widths_fall n s wide =
    let some : 0 < s = omega arith in
    record {
      wide = wide;
      below = λ k j h.
          let x : j < div_ceil (div_ceil n (s ^ k)) s = subst (λ m. j < m) (sym (ceil_next n s k wide)) h in
          let y : j * s < div_ceil n (s ^ k) = below_ceil j (div_ceil n (s ^ k)) s some x in
          omega arith;
      above = λ k j h.
          let x : j * s < div_ceil n (s ^ k) = omega arith in
          subst (λ m. j < m) (ceil_next n s k wide) (above_ceil j (div_ceil n (s ^ k)) s some x);
    }

-- no level is empty
pub widths_some : (n s : ℕ) → 1 ≤ n → 2 ≤ s → (k : ℕ) → 0 < div_ceil n (s ^ k)
widths_some n s some wide k = all_some (widths_fall n s wide) (subst (λ m. 0 < m) (sym (ceil_one n s)) some) k

-- the root of a tree, on this level or above it
pub root_at : (n s : ℕ) → 1 ≤ n → 2 ≤ s → (k : ℕ) → Root (λ l. div_ceil n (s ^ l)) k
root_at n s some wide k = root_from (widths_fall n s wide) (widths_some n s some wide 0) k

pub is_shape : (n s k : ℕ) → 1 ≤ n → 2 ≤ s → 1 ≤ k → ((l : ℕ) → 1 ≤ l → l < k → 1 < div_ceil n (s ^ l)) → (root : Root (λ l. div_ceil n (s ^ l)) k) → IsShape (up_to n s root.top)
is_shape n s k some wide above wider root = record {
  some = some;
  wide = wide;
  above = omega (arith, root.later);
  root = root.one;
  least = λ l from one. elim (cases_lt l root.top) [
    | inr le ↦ le
    | inl lt ↦ elim (cases_lt l k) [
      | inl under ↦ absurd (omega (arith, wider l from under))
      | inr later ↦ absurd (omega (arith, root.first l later lt))
    ]
  ];
}

two_pow : (s k : ℕ) → 2 ≤ s → 2 ^ k ≤ s ^ k
two_pow s zero wide = omega (arith, pow-zero s, pow-zero 2)
two_pow s (suc k) wide =
    let x : 2 ^ k * 2 ≤ s ^ k * s = mul-le (2 ^ k) 2 (s ^ k) s (two_pow s k wide) wide in
    omega (arith, pow-suc s k, pow-suc 2 k)

-- a level with two nodes is not far above the leaves
pub two_below : (n s k : ℕ) → 2 ≤ s → 1 < div_ceil n (s ^ k) → n ≤ 2 ^ 43 → k < 43
two_below n s k wide two few = elim (cases_lt k 43) [
  | inl lt ↦ lt
  | inr ge ↦
      let x : 1 * s ^ k < n = below_ceil 1 n (s ^ k) (one-le-pow k s (omega arith)) two in
      let y : 2 ^ 43 ≤ 2 ^ k = pow_mono ge in
      absurd (omega (arith, two_pow s k wide))
]
