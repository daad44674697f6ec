-- The line of a feature that a query finds.
use Rattle.std.specs.Prelude.{ℕ, List, [], ◌∷◌, ◌++◌, length, decimal}
use Rattle.order_keys.specs.declared.bounds.Bounds.{Bounds}
use Rattle.order_keys.specs.Keys.{digits_of}
use Rattle.found_features.specs.Entries.{Entry}

-- four patterns, a blank between two
abbrev pub box_text : Bounds → List ℕ
box_text b = digits_of b.min_x.0 ++ 32 ∷ digits_of b.min_y.0 ++ 32 ∷ digits_of b.max_x.0 ++ 32 ∷ digits_of b.max_y.0

-- number, offset, size and own box, a blank between two, and a line feed
unfoldable pub line : Entry → List ℕ
line e = decimal e.number ++ 32 ∷ decimal e.offset ++ 32 ∷ decimal (length e.buffer) ++ 32 ∷ box_text e.own ++ 10 ∷ []
