-- What some calls asked of a source, whatever came of it.
use Rattle.std.specs.Prelude.{◌≡◌, ℕ, List, IsSome}
use Rattle.std.specs.List.{AllByRecursion}
use Rattle.fgb_outside.specs.Source.{Source, Keeps, added}

-- nothing but requests that have P, as far as what was asked is still told
pub record AsksOnly (P : ℕ × ℕ → Type 0) (s s' : Source) : Type 0 where
  pub keeps : Keeps s s'
  pub pairs : List (ℕ × ℕ)
  pub allowed : AllByRecursion P pairs
  pub told : IsSome s'.asked → s'.asked ≡ added s.asked pairs
