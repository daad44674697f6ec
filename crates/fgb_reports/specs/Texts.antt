-- What a reporter says of the features that it has taken.
use Rattle.std.specs.Prelude.{ℕ, ◌==◌, if◌then◌else◌, List, [], ◌∷◌, ◌++◌, codes, decimal, slice_index}
use Rattle.order_keys.specs.declared.bounds.Bounds.{Bounds}
use Rattle.order_keys.specs.Boxes.{empty, same_patterns}
use Rattle.order_keys.specs.Keys.{digits_of}
use Rattle.fgb_reports.specs.States.{State, box_of}

-- four patterns, a blank between two
abbrev pub box_text : Bounds → List ℕ
box_text b = digits_of b.min_x.0 ++ 32 ∷ digits_of b.min_y.0 ++ 32 ∷ digits_of b.max_x.0 ++ 32 ∷ digits_of b.max_y.0

-- the same, or `none` of the empty box
abbrev pub extent_text : Bounds → List ℕ
extent_text b = if same_patterns b empty then codes "none" else box_text b

-- a word, a number and a line feed
abbrev pub number_line : List ℕ → ℕ → List ℕ
number_line word number = word ++ decimal number ++ 10 ∷ []

abbrev pub extent_line : Bounds → List ℕ
extent_line b = codes "extent " ++ extent_text b ++ 10 ∷ []

abbrev pub cap_line : ℕ → ℕ → List ℕ
cap_line features limit = codes "cap " ++ decimal features ++ codes " of " ++ decimal limit ++ 10 ∷ []

-- the line of a reporter
unfoldable pub text_of : State → List ℕ
text_of s =
    if s.kind == 1 then number_line (codes "count ") (slice_index s.numbers 0)
    else if s.kind == 2 then extent_line (box_of s.numbers)
    else if s.kind == 3 then number_line (codes "size ") (slice_index s.numbers 0)
    else cap_line (slice_index s.numbers 0) (slice_index s.numbers 1)
