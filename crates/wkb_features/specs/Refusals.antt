-- Why the values of features are not written.
use Rattle.std.specs.Prelude.{◌≡◌, ⊤, ℕ, List, ◌∷◌, ◌++◌, length, slice_get, Some, Result, IfErr}
use Rattle.std.specs.List.{AllByRecursion}
use Rattle.flat_layout.specs.declared.Broken.{Broken}
use Rattle.flat_layout.specs.declared.Rule.TheVariants.{NoWkb}
use Rattle.fgb_schema.specs.Features.{Feature}
use Rattle.wkb_features.specs.declared.error.ValuesError.{ValuesError}
use Rattle.wkb_features.specs.declared.error.ValuesError.TheVariants.{Memory, Refused, SinkFailed}
use Rattle.wkb_features.specs.Values.{HasNoValue, HasValue}

-- the feature has no value: the rule NoWkb is broken at its place
pub record IsNoValue (feature : Feature) (place : ℕ) (broken : Broken) : Type 0 where
  pub none : HasNoValue feature
  pub at : broken.place ≡ place
  pub rule : broken.rule ≡ NoWkb

-- the first of some features that has no value, of those that stand at these places
pub record IsFirstWithout (features : List Feature) (places : List ℕ) (broken : Broken) : Type 0 where
  pub front : List Feature
  pub feature : Feature
  pub rest : List Feature
  pub split : features ≡ front ++ feature ∷ rest
  pub earlier : AllByRecursion HasValue front
  pub there : slice_get places (length front) ≡ Some broken.place
  pub none : IsNoValue feature broken.place broken

-- P of the refusal, where it was refused
abbrev pub AtRefusal : ValuesError → (Broken → Type 0) → Type 0
AtRefusal (Refused broken) P = P broken
AtRefusal SinkFailed P = ⊤
AtRefusal Memory P = ⊤

abbrev pub IfRefused : {T : Type 0} → Result T ValuesError → (Broken → Type 0) → Type 0
IfRefused result P = IfErr result (λ error. AtRefusal error P)

-- not of writing
abbrev pub IsOfSpelling : ValuesError → Type 0
IsOfSpelling (Refused broken) = ⊤
IsOfSpelling SinkFailed = ⊥
IsOfSpelling Memory = ⊤
