-- The first column of a name.
use Rattle.std.specs.Prelude.{ℕ, Bool, List, Option}
use Rattle.std.specs.List.{position}
use Rattle.std.specs.Str.{bytes_eq}
use Rattle.fgb_schema.specs.Headers.{Column}

-- a column has this name
abbrev pub is_named : List ℕ → Column → Bool
is_named name column = bytes_eq column.name name

-- the number of the first that has it, if there is one
abbrev pub first_named : List ℕ → List Column → Option ℕ
first_named name columns = position (is_named name) columns
