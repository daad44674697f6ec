-- The one little-endian WKB spelling of each of some shapes, one after another (OGC 06-103r4, section 8.2).
use Rattle.std.specs.Prelude.{ℕ, List}
use Rattle.fgb_schema.specs.Shapes.{Shape}
use Rattle.wkb_writer.specs.Wkb.{IsWkb}
use Rattle.wkb_file.specs.InTurn.{InTurn}

-- a shape has a spelling
pub record HasWkb (g : Shape) : Type 0 where
  pub bytes : List ℕ
  pub is : IsWkb g bytes

-- the bytes are the spellings of these shapes, one after another
abbrev pub SpellingsOf : List Shape → List ℕ → Type 0
SpellingsOf = InTurn IsWkb
