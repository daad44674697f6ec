-- The type that holds for a geometry: the one given from outside, or its own where none is given.
use Rattle.std.proofs.Common.{◌≡◌, inl, inr, ℕ, true, List, refl}
use Rattle.std.proofs.lemmas.Bool.Decides.{eqb_tells}
use Rattle.flat_layout.specs.Layout.{is_table, number_in}
use Rattle.flat_layout.specs.Promises.{IsClean}
use Rattle.fgb_schema.specs.Tables.{is_typed, type_of}
use Rattle.fgb_schema.specs.Paths.{BreaksType}
use Rattle.fgb_schema.proofs.Roots.{readable}

pub typed : (outer : ℕ) (b : List ℕ) (g : ℕ) → is_table b g ≡ true → IsClean (BreaksType outer b g) → is_typed outer b g ≡ true
unfolding is_typed
typed outer b g sound clean = elim (eqb_tells outer 0) [
  | inl own ↦ rw (own.0, readable b 1 g 6 (λ q r broken. clean q r (own.1, broken)))
  | inr given ↦ rw given.0
]

pub type_own : (outer : ℕ) (b : List ℕ) (g : ℕ) → outer ≡ 0 → type_of outer b g ≡ number_in 1 b g 6 0
unfolding type_of
type_own outer b g own = rw own refl

pub type_given : (outer : ℕ) (b : List ℕ) (g : ℕ) → (outer ≡ 0 → ⊥) → type_of outer b g ≡ outer
unfolding type_of
type_given outer b g given = elim (eqb_tells outer 0) [
  | inl own ↦ absurd (given own.1)
  | inr other ↦ rw other.0 refl
]
