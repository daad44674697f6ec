-- Bytes that are written later, in pieces.
use Rattle.std.specs.Prelude.{◌≡◌, ℕ, ◌≤◌, List, ◌++◌}
use Rattle.fgb_outside.specs.Sink.{Sink, Appends}

-- what was written, and what stands on the page now, are what stood on it and the text
pub record Adds (old new : Sink) (page page' text : List ℕ) : Type 0 where
  pub written : List ℕ
  pub appends : Appends old new written
  pub whole : written ++ page' ≡ page ++ text
  pub later : old.faults ≤ new.faults

-- what was written, and what stands on the page now, are a front of what stood on it and the text
pub record AddsPart (old new : Sink) (page page' text : List ℕ) : Type 0 where
  pub written : List ℕ
  pub rest : List ℕ
  pub appends : Appends old new written
  pub front : (written ++ page') ++ rest ≡ page ++ text
  pub later : old.faults ≤ new.faults
