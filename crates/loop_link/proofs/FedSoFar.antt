-- Bytes that a core takes, one call after another.
use Rattle.std.proofs.Common.{◌≡◌, ◌≤◌, ℕ, List, [], length}
use Rattle.range_server.specs.Core.{Core}

-- what was done so far, which is nothing where there were no bytes
pub record FeedsOn (image : List ℕ) (was core : Core) (bytes rest before coming : List ℕ) : Type 0 where
  pub size : core.size ≡ length image
  pub longer : length before ≤ length coming
  pub nothing : bytes ≡ [] → (rest ≡ []) × (core ≡ was) × (coming ≡ before)
