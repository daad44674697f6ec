-- Bytes made of pieces, one for each shape, in the order of the shapes.
use Rattle.std.specs.Prelude.{◌≡◌, ℕ, List, [], ◌∷◌, ◌++◌}
use Rattle.fgb_schema.specs.Shapes.{Shape}

-- the bytes are a piece of which the one holds, and behind it others of which the other holds
pub record Begins (Is Others : List ℕ → Type 0) (bytes : List ℕ) : Type 0 where
  pub piece : List ℕ
  pub rest : List ℕ
  pub stands : bytes ≡ piece ++ rest
  pub is : Is piece
  pub others : Others rest

-- the bytes are such a piece of each shape, one after another
abbrev pub InTurn : (Shape → List ℕ → Type 0) → List Shape → List ℕ → Type 0
InTurn Is [] bytes = bytes ≡ []
InTurn Is (g ∷ shapes) bytes = Begins (Is g) (InTurn Is shapes) bytes
