-- What is broken in bytes that are no WKB file. Places count from the first of the bytes.
use Rattle.std.specs.Prelude.{◌≡◌, ◌≢◌, ℕ, ◌+◌, ◌<◌, ◌≤◌, List, [], ◌++◌, length}
use Rattle.flat_layout.specs.declared.Rule.{Rule}
use Rattle.flat_layout.specs.declared.Rule.TheVariants.{WkbSize}
use Rattle.fgb_schema.specs.Shapes.{Shape}
use Rattle.wkb_grammar.specs.Wkb.{most_bytes}
use Rattle.wkb_reader.specs.Broken.{BreaksFront}
use Rattle.wkb_file.specs.Values.{ValuesOf}

-- they are too many, or behind some values stand bytes that begin with none
pub data BreaksWkbFile (bytes : List ℕ) : ℕ → Rule → Type 0 where
  too_long : most_bytes < length bytes → BreaksWkbFile bytes 0 WkbSize
  in_value : {q : ℕ} {r : Rule} (shapes : List Shape) (front rest : List ℕ) → length bytes ≤ most_bytes → bytes ≡ front ++ rest → ValuesOf shapes front → rest ≢ []
      → BreaksFront rest q r → BreaksWkbFile bytes (length front + q) r
