-- What a visitor was handed, whatever is told of the source.
use Rattle.std.proofs.Common.{List, ◌≡◌, ℕ, Bool, true, false}
use Rattle.order_keys.specs.declared.bounds.Bounds.{Bounds}
use Rattle.fgb_schema.specs.Headers.{Header}
use Rattle.fgb_reader.specs.declared.pieces.Pieces.{Pieces}
use Rattle.found_features.specs.Entries.{Entry}
use Rattle.found_features.specs.Visits.{TakesSome, Handed}
use Rattle.found_features.proofs.Taking.{some_same, some_one, handed_same, handed_fails}
use Rattle.feature_scan.specs.Walks.{PassesOne, FailsOne, unhanded, failed, lent_entry}

module _ {V : Type 0} (step failed_step : V → Entry → V → Type 0) (header : Header) (boxes : List Bounds) (p : Pieces) (number : ℕ) where
  -- the feature that is lent was passed
  pub some_passed : (handed : Bool) (v w : V) → PassesOne step header boxes p number handed v w → TakesSome step v w
  some_passed true v w one = some_one step v w (lent_entry header p number) one.taken
  some_passed false v w one = some_same step v w one.taken

  -- it failed
  pub handed_failed : (v w : V) → FailsOne failed_step header boxes p number v w → Handed step failed_step v w
  handed_failed v w (unhanded same) = handed_same step failed_step v w same
  handed_failed v w (failed clean met fails) = handed_fails step failed_step v w (lent_entry header p number) fails
