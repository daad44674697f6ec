-- A field that is put where it is there.
use Rattle.std.specs.Prelude.{ℕ, Option, Some, None}
use Rattle.flat_builder.specs.Trees.{Item, Fields, put}

-- the table with this field, if there is such an item
abbrev pub put_some : Fields → ℕ → Option Item → Fields
put_some fs id None = fs
put_some fs id (Some it) = put fs id it
