-- Which bytes are a value of a shape, as WKB (OGC 06-103r4, section 8.2) and as EWKB (PostGIS, "Extended WKB").
use Rattle.std.specs.Prelude.{◌≡◌, ℕ, ◌≤◌, List, length}
use Rattle.fgb_schema.specs.Shapes.{Shape}
use Rattle.owned_shape.specs.Records.{depth}
use Rattle.wkb_writer.specs.declared.dialect.Dialect.{Dialect}
use Rattle.wkb_writer.specs.declared.dialect.Dialect.TheVariants.{Iso, Extended}
use Rattle.wkb_writer.specs.declared.dimension.Dimension.{Dimension}
use Rattle.wkb_grammar.specs.Grammar.{Value, IsIn, IsValue, bytes_of}
use Rattle.wkb_grammar.specs.ShapesShown.{shape_of}

-- the most bytes of a value
abbrev pub most_bytes : ℕ
most_bytes = 268435456

-- the bytes spell one value of the dialect, of one dimension throughout and at most 16 levels, and the shape is the value's
pub record IsValueOf (dialect : Dialect) (g : Shape) (bytes : List ℕ) : Type 0 where
  pub spelled : Value
  pub dimension : Dimension
  pub is : IsValue dimension spelled
  pub speaks : IsIn dialect spelled
  pub spells : bytes ≡ bytes_of spelled
  pub shown : g ≡ shape_of spelled
  pub shallow : depth g ≤ 16
  pub small : length bytes ≤ most_bytes

abbrev pub Wkb : Shape → List ℕ → Type 0
Wkb g bytes = IsValueOf Iso g bytes

abbrev pub Ewkb : Shape → List ℕ → Type 0
Ewkb g bytes = IsValueOf Extended g bytes
