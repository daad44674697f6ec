-- One feature more.
use Rattle.std.proofs.Common.{ℕ, ◌+◌, List, [], ◌∷◌, ◌++◌, length, subst, arith}
use Rattle.std.specs.List.{AllByRecursion}
use Rattle.fgb_schema.specs.Features.{Feature}
use Rattle.grid_features.specs.Grid.{AreGridFrom, IsGridFeature}

pub grid_more : (start first : ℕ) (features : List Feature) (f : Feature) → AreGridFrom start first features → IsGridFeature start (first + length features) f
    → AreGridFrom start first (features ++ f ∷ [])
grid_more start first [] f all is = (subst (λ n. IsGridFeature start n f) (omega arith) is, tt)
grid_more start first (g ∷ rest) f all is =
    (all.0, grid_more start (first + 1) rest f all.1 (subst (λ n. IsGridFeature start n f) (omega arith) is))

pub all_more : (P : Feature → Type 0) (features : List Feature) (f : Feature) → AllByRecursion P features → P f → AllByRecursion P (features ++ f ∷ [])
all_more P [] f all is = (is, tt)
all_more P (g ∷ rest) f all is = (all.0, all_more P rest f all.1 is)
