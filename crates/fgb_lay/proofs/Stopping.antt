-- Why laying a file stops.
use Rattle.std.proofs.Common.{◌≡◌, Result, Ok, Err, IsErrAnd, sym, subst}
use Rattle.std.specs.Prelude.{IfErr}
use Rattle.fgb_pack.specs.Plans.{IsOfPlan}
use Rattle.fgb_pack.specs.declared.done.PackError.{PackError}
use Rattle.fgb_pack.specs.declared.done.PackError.TheVariants.{Refused, SourceFailed, SinkFailed, TooLarge, Memory}
use Rattle.fgb_lay.specs.Laying.{IsOfLaying}

plan_own : (error : PackError) → IsOfPlan error → IsOfLaying error
plan_own (Refused broken) is = is
plan_own SourceFailed is = is
plan_own SinkFailed is = tt
plan_own TooLarge is = tt
plan_own Memory is = tt

pub plan_exit : {T : Type 0} (r : Result T PackError) (error : PackError) → IsErrAnd r (λ e. e ≡ error) → IsOfPlan error → IfErr r IsOfLaying
plan_exit (Ok x) error is own = tt
plan_exit (Err e) error is own = plan_own e (subst IsOfPlan (sym is) own)
