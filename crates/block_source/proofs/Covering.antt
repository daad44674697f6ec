-- The blocks that hold a range of places.
use Rattle.std.proofs.Common.{◌≡◌, ◌⊎◌, ℕ, zero, suc, ◌+◌, ◌-◌, ◌/◌, ◌<◌, ◌≤◌, Bool, true, false, ◌∷◌, ◌≢◌, eqb, eq-eqb, sym, ap, ◌∙◌, inl, inr, arith}
use Rattle.std.specs.Prelude.{if◌then◌else◌}
use Rattle.std.specs.List.{range_with_len}
use Rattle.std.proofs.lemmas.Bool.{cases_lt}
use Rattle.std.proofs.lemmas.Bool.Decides.{eqb_tells}
use Rattle.block_source.specs.Blocks.{blocks, led_by, visits}

-- b in front of the blocks from b or the next on
lead : (b c m : ℕ) → (c ≡ b) ⊎ (c ≡ b + 1) → led_by b (range_with_len c (suc m)) ≡ range_with_len b (c + suc m - b)
lead b c m (inl same) =
    let many : suc m ≡ c + suc m - b = omega arith in
    ap (λ (t : Bool). if t then range_with_len c (suc m) else b ∷ range_with_len c (suc m)) (eq-eqb b c (sym same))
    ∙ ap (λ (a : ℕ). range_with_len a (suc m)) same
    ∙ ap (range_with_len b) many
lead b c m (inr next) =
    let many : suc (suc m) ≡ c + suc m - b = omega arith in
    ap (λ (t : Bool). if t then range_with_len c (suc m) else b ∷ range_with_len c (suc m)) (apart (eqb_tells b c))
    ∙ ap (λ (a : ℕ). b ∷ range_with_len a (suc m)) next
    ∙ ap (range_with_len b) many
  where
    apart : ((eqb b c ≡ true) × (b ≡ c)) ⊎ ((eqb b c ≡ false) × (b ≢ c)) → eqb b c ≡ false
    apart (inl is) = absurd (omega (arith, is.1))
    apart (inr is) = is.0

-- the next place is in the same block or the next
next_block : (at : ℕ) → ((at + 1) / 4096 ≡ at / 4096) ⊎ ((at + 1) / 4096 ≡ at / 4096 + 1)
next_block at = cases (cases_lt ((at + 1) / 4096) (at / 4096 + 1))
  where
    cases : ((at + 1) / 4096 < at / 4096 + 1) ⊎ (at / 4096 + 1 ≤ (at + 1) / 4096) → ((at + 1) / 4096 ≡ at / 4096) ⊎ ((at + 1) / 4096 ≡ at / 4096 + 1)
    cases (inl below) = inl (omega arith)
    cases (inr above) = inr (omega arith)

pub visits_are : (at n : ℕ) → visits at (suc n) ≡ range_with_len (at / 4096) ((at + n) / 4096 + 1 - at / 4096)
unfolding blocks
visits_are at zero =
    let here : at + 0 ≡ at = omega arith in
    let one : 1 ≡ (at + 0) / 4096 + 1 - at / 4096 = rw here (omega arith) in
    ap (range_with_len (at / 4096)) one
visits_are at (suc n) =
    let later : at + 1 + n ≡ at + suc n = omega arith in
    let many : (at + 1) / 4096 + suc ((at + 1 + n) / 4096 - (at + 1) / 4096) - at / 4096 ≡ (at + suc n) / 4096 + 1 - at / 4096 = rw (← later) (omega arith) in
    let some : (at + 1 + n) / 4096 + 1 - (at + 1) / 4096 ≡ suc ((at + 1 + n) / 4096 - (at + 1) / 4096) = omega arith in
    ap (led_by (at / 4096)) (visits_are (at + 1) n)
    ∙ ap (λ (k : ℕ). led_by (at / 4096) (range_with_len ((at + 1) / 4096) k)) some
    ∙ lead (at / 4096) ((at + 1) / 4096) ((at + 1 + n) / 4096 - (at + 1) / 4096) (next_block at)
    ∙ ap (range_with_len (at / 4096)) many

-- the same by where the range ends
pub visits_until : (at len end : ℕ) → 0 < len → end ≡ at + len → visits at len ≡ range_with_len (at / 4096) ((end - 1) / 4096 + 1 - at / 4096)
visits_until at zero end some e = absurd (omega arith)
visits_until at (suc n) end some e =
    let last : at + n ≡ end - 1 = omega arith in
    visits_are at n ∙ ap (λ (k : ℕ). range_with_len (at / 4096) (k / 4096 + 1 - at / 4096)) last
