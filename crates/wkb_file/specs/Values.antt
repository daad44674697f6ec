-- Which bytes are a WKB file: WKB values one after another to the end, possibly none (OGC 06-103r4, section 8.2).
use Rattle.std.specs.Prelude.{ℕ, ◌≤◌, List, length}
use Rattle.fgb_schema.specs.Shapes.{Shape}
use Rattle.wkb_grammar.specs.Wkb.{Wkb, most_bytes}
use Rattle.wkb_file.specs.InTurn.{InTurn}

-- the bytes are values of these shapes, one after another
abbrev pub ValuesOf : List Shape → List ℕ → Type 0
ValuesOf = InTurn Wkb

-- the bytes are a WKB file of these shapes
pub record IsWkbFile (shapes : List Shape) (bytes : List ℕ) : Type 0 where
  pub values : ValuesOf shapes bytes
  pub small : length bytes ≤ most_bytes
