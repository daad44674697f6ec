-- A walk over the features: one feature of it, and what stands so far.
use Rattle.std.specs.Prelude.{◌≡◌, ℕ, ◌-◌, ◌≤◌, Bool, true, List, length, None}
use Rattle.std.specs.Bool.{MatchBool}
use Rattle.order_keys.specs.declared.bounds.Bounds.{Bounds}
use Rattle.box_list.specs.Lists.{meets_any}
use Rattle.flat_layout.specs.Promises.{IsClean}
use Rattle.fgb_schema.specs.Paths.{feature_root}
use Rattle.fgb_schema.specs.Weights.{BreaksBuffer}
use Rattle.fgb_schema.specs.Headers.{Header}
use Rattle.fgb_schema.specs.Features.{feature_of, own_box}
use Rattle.fgb_outside.specs.Source.{Source, IfTold}
use Rattle.fgb_file.specs.File.{header_end, header_in, Passes}
use Rattle.fgb_reader.specs.Reading.{Fetches, buffer_of, first_of, next_of, place_of}
use Rattle.fgb_reader.specs.Tallies.{Counts, seen_of}
use Rattle.fgb_reader.specs.declared.pieces.Pieces.{Pieces}
use Rattle.fgb_reader.specs.declared.tally.Tally.{Tally}
use Rattle.found_features.specs.Entries.{Entry, found}
use Rattle.found_features.specs.Visits.{Takes}
use Rattle.feature_scan.specs.Scans.{IsScan}

-- the buffer of the feature that is lent breaks no rule under the header
abbrev pub IsCleanLent : Header → Pieces → Type 0
IsCleanLent header p = IsClean (BreaksBuffer (buffer_of p) (feature_root header))

-- its entry, by its number
abbrev pub lent_entry : Header → Pieces → ℕ → Entry
lent_entry header p number = record { number = number; offset = place_of p - first_of p; buffer = buffer_of p; own = own_box (feature_of header (buffer_of p)) }

-- it breaks no rule, and was handed over just where its own box meets one of the boxes
pub record PassesOne {V : Type 0} (step : V → Entry → V → Type 0) (header : Header) (boxes : List Bounds) (p : Pieces) (number : ℕ) (handed : Bool) (v w : V) : Type 0 where
  pub clean : IsCleanLent header p
  pub met : handed ≡ meets_any boxes (own_box (feature_of header (buffer_of p)))
  pub taken : MatchBool handed (step v (lent_entry header p number) w) (w ≡ v)

-- it was not handed over, or the visitor failed at it, where its own box meets one of the boxes
pub data FailsOne {V : Type 0} (failed_step : V → Entry → V → Type 0) (header : Header) (boxes : List Bounds) (p : Pieces) (number : ℕ) (v w : V) : Type 0 where
  unhanded : w ≡ v → FailsOne failed_step header boxes p number v w
  failed : IsCleanLent header p → meets_any boxes (own_box (feature_of header (buffer_of p))) ≡ true → failed_step v (lent_entry header p number) w
      → FailsOne failed_step header boxes p number v w

-- the features in front of a place were passed and counted, and the found ones among them were taken, so many
pub record Stands {V : Type 0} (step : V → Entry → V → Type 0) (image : List ℕ) (boxes : List Bounds) (at : ℕ) (tally : Tally) (count : ℕ) (v w : V) : Type 0 where
  pub pieces : List (List ℕ)
  pub passes : Passes image None pieces at
  pub counts : Counts image (header_end image) pieces tally
  pub many : count ≡ length (found (header_in image) boxes pieces)
  pub takes : Takes step v (found (header_in image) boxes pieces) w

-- the walk went from where it began to the next place, asking for what lies between
pub record Goes {V : Type 0} (step : V → Entry → V → Type 0) (header : Header) (boxes : List Bounds) (first end : ℕ) (begun p : Pieces) (tally : Tally) (count : ℕ) (s t : Source) (v w : V) : Type 0 where
  pub fetches : Fetches begun p s t
  pub few : seen_of tally ≤ next_of p
  pub fewer : count ≤ seen_of tally
  pub stands : IfTold s (λ image. IsScan image header first end → Stands step image boxes (next_of p) tally count v w)
