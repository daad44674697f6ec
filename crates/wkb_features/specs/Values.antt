-- The WKB values of features (OGC 06-103r4, section 8.2).
use Rattle.std.specs.Prelude.{◌≡◌, ⊤, ℕ, List, [], ◌∷◌, IsSomeAnd}
use Rattle.std.specs.List.{concat}
use Rattle.fgb_schema.specs.Features.{Feature}
use Rattle.wkb_writer.specs.Wkb.{IsWkb}
use Rattle.fgb_outside.specs.Sink.{Sink, Appends, AppendsPart}

-- the value of a feature is the one spelling of its shape, where it has a shape, and that has a spelling
abbrev pub IsValue : Feature → List ℕ → Type 0
IsValue feature value = IsSomeAnd feature.shape (λ shape. IsWkb shape value)

abbrev pub HasValue : Feature → Type 0
HasValue feature = (value : List ℕ) × IsValue feature value

abbrev pub HasNoValue : Feature → Type 0
HasNoValue feature = (value : List ℕ) → IsValue feature value → ⊥

-- the values of some features, each of its own
abbrev pub AreEach : List Feature → List (List ℕ) → Type 0
AreEach [] [] = ⊤
AreEach [] (value ∷ values) = ⊥
AreEach (feature ∷ features) [] = ⊥
AreEach (feature ∷ features) (value ∷ values) = IsValue feature value × AreEach features values

-- the bytes are these values, one after another
pub record AreValues (features : List Feature) (bytes : List ℕ) : Type 0 where
  pub values : List (List ℕ)
  pub each : AreEach features values
  pub whole : bytes ≡ concat values

-- they were written
pub record Writes (features : List Feature) (o o' : Sink) : Type 0 where
  pub bytes : List ℕ
  pub are : AreValues features bytes
  pub written : Appends o o' bytes

-- nothing was written, or a front of them
pub data WritesPart (features : List Feature) (o o' : Sink) : Type 0 where
  nothing : o' ≡ o → WritesPart features o o'
  front : {bytes : List ℕ} → AreValues features bytes → AppendsPart o o' bytes → WritesPart features o o'
