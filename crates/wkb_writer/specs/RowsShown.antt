-- The ordinates that a row shows.
use Rattle.std.specs.Prelude.{ℕ, List, ◌∷◌, ◌++◌, option_to_list}
use Rattle.wkb_writer.specs.declared.rows.Row.{Row}

-- x, y, then z and m where there are such
abbrev pub row_shown : Row → List ℕ
row_shown row = row.x ∷ row.y ∷ option_to_list row.z ++ option_to_list row.m
