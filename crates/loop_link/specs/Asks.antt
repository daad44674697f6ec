-- Requests for a part of an image.
use Rattle.std.specs.Prelude.{◌≡◌, ◌≤◌, ◌<◌, ◌⊎◌, ℕ, List}
use Rattle.byte_links.specs.Exchange.{ask}

-- the places lie in an image of this size in order; of an empty one 0 to 0 is asked for
abbrev pub FitsIn : ℕ → ℕ → ℕ → Type 0
FitsIn size a b = ((a ≤ b) × (b < size)) ⊎ ((size ≡ 0) × (a ≡ 0) × (b ≡ 0))

-- the piece asks for the bytes from place a to place b of such an image
pub record AsksFor (size : ℕ) (piece : List ℕ) (a b : ℕ) : Type 0 where
  pub text : piece ≡ ask a b
  pub fits : FitsIn size a b
