-- The order of the units of a file.
use Rattle.std.proofs.Common.{◌≡◌, inl, inr, ⊎_elim, ℕ, zero, suc, ◌≤◌, ◌<◌, refl, sym, ap, ◌∙◌, arith}
use Rattle.std.proofs.lemmas.Bool.{cases_lt}
use Rattle.fgb_file.specs.File.{Unit, the_start, the_header, the_index, the_feature, the_end, rank, IsBefore}

-- a unit whose place in the order is no lower stands in front of none
pub not_earlier : (u v : Unit) → IsBefore u v → (rank v).0 ≤ (rank u).0 → (rank v).1 ≤ (rank u).1 → ⊥
not_earlier u v before kind number = ⊎_elim (λ lower. omega (arith, lower, kind)) (λ both. omega (arith, both.1, number)) before

pub earlier_feature : (k n : ℕ) → IsBefore (the_feature k) (the_feature n) → k < n
earlier_feature k n before = ⊎_elim (λ lower. absurd (omega (arith, lower))) (λ both. both.1) before

-- the unit that stands there in the order
abbrev unit_at : ℕ → ℕ → Unit
unit_at zero n = the_start
unit_at (suc zero) n = the_header
unit_at (suc (suc zero)) n = the_index
unit_at (suc (suc (suc zero))) n = the_feature n
unit_at (suc (suc (suc (suc m)))) n = the_end

unit_ranked : (u : Unit) → unit_at (rank u).0 (rank u).1 ≡ u
unit_ranked the_start = refl
unit_ranked the_header = refl
unit_ranked the_index = refl
unit_ranked (the_feature k) = refl
unit_ranked the_end = refl

-- two units of which neither stands in front of the other
pub same_unit : (u v : Unit) → (IsBefore u v → ⊥) → (IsBefore v u → ⊥) → u ≡ v
same_unit u v before behind = sym (unit_ranked u) ∙ ap (λ k. unit_at k (rank u).1) kinds ∙ ap (unit_at (rank v).0) numbers ∙ unit_ranked v
  where
    kinds : (rank u).0 ≡ (rank v).0
    kinds = elim (cases_lt (rank u).0 (rank v).0) [
      | inl lower ↦ absurd (before (inl lower))
      | inr ge ↦ elim (cases_lt (rank v).0 (rank u).0) [
        | inl higher ↦ absurd (behind (inl higher))
        | inr le ↦ omega (arith, ge, le)
      ]
    ]

    numbers : (rank u).1 ≡ (rank v).1
    numbers = elim (cases_lt (rank u).1 (rank v).1) [
      | inl lower ↦ absurd (before (inr (kinds, lower)))
      | inr ge ↦ elim (cases_lt (rank v).1 (rank u).1) [
        | inl higher ↦ absurd (behind (inr (sym kinds, higher)))
        | inr le ↦ omega (arith, ge, le)
      ]
    ]
