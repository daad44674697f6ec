-- The features of a file, and those that a query finds.
use Rattle.std.specs.Prelude.{◌≡◌, ℕ, ◌+◌, ◌≤◌, List, [], ◌∷◌, length, slice_range}
use Rattle.std.specs.List.{filter}
use Rattle.order_keys.specs.declared.bounds.Bounds.{Bounds}
use Rattle.box_list.specs.Lists.{meets_any}
use Rattle.flat_layout.specs.Promises.{IsClean}
use Rattle.fgb_schema.specs.Paths.{feature_root}
use Rattle.fgb_schema.specs.Weights.{BreaksBuffer}
use Rattle.fgb_schema.specs.Headers.{Header}
use Rattle.fgb_schema.specs.Features.{feature_of, own_box}
use Rattle.fgb_file.specs.File.{box_of}

-- a feature of a file: its number, the place of its size prefix from the first feature on, its buffer, and its own box
pub record Entry : Type 0 where
  pub number : ℕ
  pub offset : ℕ
  pub buffer : List ℕ
  pub own : Bounds

-- all features of a file, the first of these with this number and offset
abbrev pub entries : Header → ℕ → ℕ → List (List ℕ) → List Entry
entries header number offset [] = []
entries header number offset (piece ∷ rest) =
    record { number = number; offset = offset; buffer = slice_range piece 4 (length piece); own = box_of header piece } ∷ entries header (number + 1) (offset + length piece) rest

-- those whose own box meets one of the boxes of the query, in file order, each once
abbrev pub found : Header → List Bounds → List (List ℕ) → List Entry
found header query pieces = filter (λ e. meets_any query e.own) (entries header 0 0 pieces)

-- the buffer breaks no rule under the header, and the box is the feature's own
pub record IsSound (header : Header) (e : Entry) : Type 0 where
  pub small : length e.buffer ≤ 268435456
  pub clean : IsClean (BreaksBuffer e.buffer (feature_root header))
  pub box : e.own ≡ own_box (feature_of header e.buffer)
