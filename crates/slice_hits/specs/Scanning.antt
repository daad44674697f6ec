-- A walk through all features of a file without an index.
use Rattle.std.specs.Prelude.{◌≡◌, ℕ, ◌+◌, ◌-◌, List, length, None}
use Rattle.order_keys.specs.declared.bounds.Bounds.{Bounds}
use Rattle.fgb_file.specs.File.{Passes, header_end, header_in}
use Rattle.fgb_reader.specs.Tallies.{Counts}
use Rattle.found_features.specs.Entries.{Entry, found}
use Rattle.slice_hits.specs.declared.scan.Scan.{Scan}
use Rattle.slice_hits.specs.Reading.{AreOf}

-- it has passed features of this file that break no rule, and these are the found ones of them
pub record Stands (image : List ℕ) (boxes : List Bounds) (entries : List Entry) (scan : Scan) : Type 0 where
  pub over : AreOf image None scan.features
  pub sought : scan.boxes ≡ boxes
  pub pieces : List (List ℕ)
  pub passes : Passes image None pieces scan.at
  pub counts : Counts image (header_end image) pieces scan.tally
  pub given : entries ≡ found (header_in image) boxes pieces

-- no more features come
abbrev pub left : Scan → ℕ
left scan = length scan.features.bytes.now - scan.at + 1
