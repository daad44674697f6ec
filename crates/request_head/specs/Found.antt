-- What is found where it is decided that there is something.
use Rattle.std.specs.Prelude.{Option, IfSome, IfNone}

-- one thing that fits, or none where nothing does
pub record Found {A : Type 0} (Fits : A → Type 0) : Type 0 where
  pub found : Option A
  pub fits : IfSome found Fits
  pub nothing : IfNone found ((a : A) → ¬ (Fits a))
