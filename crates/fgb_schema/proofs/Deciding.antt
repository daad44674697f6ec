-- A part has one weight at most, and is heavier than a limit exactly where that weight is.
use Rattle.std.proofs.Common.{◌≡◌, ℕ, ◌+◌, ◌<◌, List, sym, ◌∙◌, arith}
use Rattle.fgb_schema.specs.Paths.{Part}
use Rattle.fgb_schema.specs.Weights.{Weighs, IsHeavier}
use Rattle.fgb_schema.proofs.Weighing.{within_rises}

pub weights_one : (b : List ℕ) (x : Part) (v w : ℕ) → Weighs b x v → Weighs b x w → v ≡ w
weights_one b x v w one other = sym (one.1 (one.0 + other.0) (omega arith)) ∙ other.1 (one.0 + other.0) (omega arith)

pub heavier_above : (b : List ℕ) (x : Part) (w limit : ℕ) → Weighs b x w → limit < w → IsHeavier b x limit
heavier_above b x w limit weighs above = (weighs.0, omega (arith, above, weighs.1 weighs.0 (omega arith)))

pub above_heavier : (b : List ℕ) (x : Part) (w limit : ℕ) → Weighs b x w → IsHeavier b x limit → limit < w
above_heavier b x w limit weighs heavy =
    omega (arith, heavy.1, within_rises b heavy.0 (heavy.0 + weighs.0) (omega arith) x, weighs.1 (heavy.0 + weighs.0) (omega arith))
