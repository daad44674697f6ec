-- What a reporter is seen as, and what becomes of several that are handed a feature.
use Rattle.std.specs.Prelude.{◌≡◌, ℕ, ◌+◌, ◌-◌, ◌^◌, ◌==◌, ◌&&◌, nat_le, min, not, Bool, false, IsTrue, if◌then◌else◌, List, [], ◌∷◌, length, map, slice_index}
use Rattle.std.specs.List.{filter}
use Rattle.order_keys.specs.declared.bounds.Bounds.{Bounds}
use Rattle.order_keys.specs.Boxes.{join}
use Rattle.found_features.specs.Entries.{Entry}

-- the number of its kind, and its numbers
pub record State : Type 0 where
  pub kind : ℕ
  pub numbers : List ℕ

-- the kinds are 1 count, 2 extent, 3 size and 4 cap
abbrev pub is_kind : ℕ → Bool
is_kind kind = nat_le 1 kind && nat_le kind 4

-- the four patterns of a box, and the box of four patterns
abbrev pub patterns : Bounds → List ℕ
patterns b = b.min_x.0 ∷ b.min_y.0 ∷ b.max_x.0 ∷ b.max_y.0 ∷ []

abbrev pub box_of : List ℕ → Bounds
box_of numbers = record {
  min_x = record { 0 = slice_index numbers 0 };
  min_y = record { 0 = slice_index numbers 1 };
  max_x = record { 0 = slice_index numbers 2 };
  max_y = record { 0 = slice_index numbers 3 };
}

-- a count of so many features
abbrev pub count : ℕ → State
count features = record { kind = 1; numbers = features ∷ [] }

-- an extent, with the join of the boxes of its features
abbrev pub extent : Bounds → State
extent bounds = record { kind = 2; numbers = patterns bounds }

-- a size of so many bytes
abbrev pub size : ℕ → State
size bytes = record { kind = 3; numbers = bytes ∷ [] }

-- a cap that has taken so many features, and takes no more than its limit
abbrev pub cap : ℕ → ℕ → State
cap features limit = record { kind = 4; numbers = features ∷ limit ∷ [] }

-- a sum, or the largest number of 64 bits where the sum passes it
abbrev pub sum_up_to_max : ℕ → ℕ → ℕ
sum_up_to_max a b = min (a + b) (2 ^ 64 - 1)

-- the numbers of a reporter that has taken one feature more
abbrev pub step_numbers : ℕ → List ℕ → Entry → List ℕ
step_numbers kind numbers e =
    if kind == 1 then sum_up_to_max (slice_index numbers 0) 1 ∷ []
    else if kind == 2 then patterns (join (box_of numbers) e.own)
    else if kind == 3 then sum_up_to_max (slice_index numbers 0) (length e.buffer) ∷ []
    else sum_up_to_max (slice_index numbers 0) 1 ∷ slice_index numbers 1 ∷ []

-- the reporter that has taken one feature more
unfoldable pub step : State → Entry → State
step s e = record { kind = s.kind; numbers = step_numbers s.kind s.numbers e }

-- it takes no more: a cap that is at its limit, and no other
unfoldable pub refuses : State → Entry → Bool
refuses s e = if s.kind == 4 then slice_index s.numbers 0 == slice_index s.numbers 1 else false

-- one that is handed a feature: whether it stays, and what it is then
pub record Hands {R : Type 0} (shown : R → State) (e : Entry) (r : R) (stays : Bool) (left : R) : Type 0 where
  pub told : stays ≡ not (refuses (shown r) e)
  pub stepped : IsTrue stays → shown left ≡ step (shown r) e

-- several, after each was handed a feature: those that did not refuse it, in their order, have taken it
abbrev pub fed : List State → Entry → List State
fed reports e = map (λ s. step s e) (filter (λ s. not (refuses s e)) reports)

-- the same after one feature after another
abbrev pub fed_all : List State → List Entry → List State
fed_all reports [] = reports
fed_all reports (e ∷ rest) = fed_all (fed reports e) rest
