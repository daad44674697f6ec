-- Going through the features of a file.
use Rattle.std.specs.Prelude.{◌≡◌, ◌⊎◌, ℕ, ◌+◌, ◌*◌, ◌≤◌, min, List, Option, Some, None}
use Rattle.flat_layout.specs.Promises.{IsClean}
use Rattle.fgb_schema.specs.Paths.{feature_root}
use Rattle.fgb_schema.specs.Weights.{BreaksBuffer}
use Rattle.fgb_schema.specs.Headers.{Header}
use Rattle.fgb_outside.specs.Source.{Source, IfTold}
use Rattle.fgb_schema.specs.Features.{feature_of, own_box}
use Rattle.order_keys.specs.declared.bounds.Bounds.{Bounds}
use Rattle.level_bounds.specs.Levels.{Shape, node_count}
use Rattle.fgb_outside.specs.Asked.{IsInside}
use Rattle.read_stop.specs.Asks.{AsksOnly}
use Rattle.index_reader.specs.Going.{IsOver, given_of, Shows as ShowsLeaves}
use Rattle.index_reader.specs.declared.leaves.Leaves.{Leaves}
use Rattle.fgb_file.specs.File.{header_in, size_at, buffer_at, IsFramed, IsOpen, first_place, AreNodes, Passes}
use Rattle.fgb_reader.specs.Reading.{Fetches, Shows, end_of, first_of, next_of}
use Rattle.fgb_reader.specs.Tallies.{Counts, seen_of}
use Rattle.fgb_reader.specs.declared.pieces.Pieces.{Pieces}
use Rattle.fgb_reader.specs.declared.tally.Tally.{Tally}

-- a file has this header, and this between it and its first feature, which stands here; no node of an index breaks a rule
pub record IsOpened (image : List ℕ) (index : Option Shape) (header : Header) (first : ℕ) : Type 0 where
  pub opened : IsOpen image index
  pub nodes : AreNodes image index
  pub shown : header ≡ header_in image
  pub begins : first ≡ first_place image index

-- going through the features came to this place, and counted those that it passed
pub record Stands (image : List ℕ) (index : Option Shape) (at : ℕ) (tally : Tally) : Type 0 where
  pub pieces : List (List ℕ)
  pub passes : Passes image index pieces at
  pub counts : Counts image (first_place image index) pieces tally

-- the own box of the feature whose size prefix stands at this place
abbrev pub box_at : List ℕ → ℕ → Bounds
box_at image at = own_box (feature_of (header_in image) (buffer_at image at))

-- the feature whose size prefix stands at this place breaks no rule, and the next one stands there
pub record IsSound (image : List ℕ) (at next : ℕ) : Type 0 where
  pub framed : IsFramed image at
  pub clean : IsClean (BreaksBuffer (buffer_at image at) (feature_root (header_in image)))
  pub behind : next ≡ at + (4 + size_at image at)

-- without an index: the pieces went from where they began to the next place, asking for what lies between, and all in front of it was passed
pub record Goes (begun pieces : Pieces) (tally : Tally) (s s' : Source) : Type 0 where
  pub fetches : Fetches begun pieces s s'
  pub few : seen_of tally ≤ next_of pieces
  pub stands : IfTold s (λ image. Stands image None (next_of pieces) tally)

-- a part of the index, which begins at a place and ends where the first feature stands, or of the features
abbrev pub IsBehind : ℕ → ℕ → ℕ → ℕ × ℕ → Type 0
IsBehind place first end pair = IsInside place first pair ⊎ IsInside first end pair

-- these are the leaves of a tree
abbrev pub AreLeaves : Leaves → Type 0
AreLeaves leaves = (place : ℕ) × (t : Shape) × IsOver leaves place t

-- with one: the pieces and the leaves went on side by side, asking for parts of the index and of the features, and all
-- in front of the next place was passed
pub record GoesBeside (place end : ℕ) (t : Shape) (pieces : Pieces) (leaves : Leaves) (tally : Tally) (s s' : Source) : Type 0 where
  pub asks : AsksOnly (IsBehind place (place + 40 * node_count t) end) s s'
  pub shows : Shows pieces s'
  pub begins : first_of pieces ≡ place + 40 * node_count t
  pub ends : end_of pieces ≡ end
  pub shows_leaves : ShowsLeaves leaves s'
  pub over : IsOver leaves place t
  pub beside : given_of leaves ≡ min (seen_of tally) t.leaves
  pub few : seen_of tally ≤ next_of pieces
  pub stands : IfTold s (λ image. Stands image (Some t) (next_of pieces) tally)
