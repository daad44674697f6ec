-- A query of a file that breaks no rule is not refused.
use Rattle.std.proofs.Common.{◌≡◌, ◌∙◌, ℕ, List, Option, Result, Err, ap, subst}
use Rattle.flat_layout.specs.declared.Broken.{Broken}
use Rattle.order_keys.specs.declared.bounds.Bounds.{Bounds}
use Rattle.level_bounds.specs.Levels.{Shape}
use Rattle.fgb_schema.specs.Headers.{Header}
use Rattle.fgb_file.specs.File.{IsFile, IsValid}
use Rattle.fgb_file.proofs.Passing.{first_invalid}
use Rattle.fgb_file.proofs.Valid.{valid_file}
use Rattle.found_features.specs.Entries.{Entry}
use Rattle.found_features.specs.Visits.{HeaderBytes}
use Rattle.found_features.specs.Stops.{IfRefused}
use Rattle.found_features.specs.declared.stop.QueryError.{QueryError}
use Rattle.found_features.specs.declared.stop.QueryError.TheVariants.{Refused}
use Rattle.box_query.specs.Answers.{Refuses}
use Rattle.box_query.specs.Visited.{VisitedRefused, in_front, behind}

-- what holds of a refusal
pub at_refusal : {T : Type 0} (r : Result T QueryError) (error : QueryError) (broken : Broken) (P : Broken → Type 0) → r ≡ Err error → error ≡ Refused broken → IfRefused r P → P broken
at_refusal r error broken P is what holds = subst (λ x. IfRefused x P) (is ∙ ap Err what) holds

pub never_refused : {V : Type 0} (start : V → Header → V → Type 0) (failed_start : V → HeaderBytes → V → Type 0) (step failed_step : V → Entry → V → Type 0) (image : List ℕ) (boxes : List Bounds) (v w : V) (broken : Broken) → IsValid image
    → ((image : List ℕ) (index : Option Shape) (pieces : List (List ℕ)) (boxes : List Bounds) (broken : Broken) (entries : List Entry) → IsFile image index pieces → Refuses image boxes broken entries → ⊥)
    → VisitedRefused start failed_start step failed_step image boxes v w broken → ⊥
never_refused start failed_start step failed_step image boxes v w broken valid never (in_front breaks same) = first_invalid image breaks.first valid
never_refused start failed_start step failed_step image boxes v w broken valid never (behind entries refuses begins) =
    let file = valid_file image valid in never image file.0 file.1 boxes broken entries file.2 refuses
