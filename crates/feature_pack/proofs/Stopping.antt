-- Why packing features stops.
use Rattle.std.proofs.Common.{◌≡◌, ◌∙◌, Result, Ok, Err, IsErrAnd, sym, subst}
use Rattle.std.specs.Prelude.{IfErr}
use Rattle.flat_builder.specs.declared.error.BuildError.{BuildError}
use Rattle.flat_builder.specs.declared.error.BuildError.TheVariants as build_error
use Rattle.fgb_pack.specs.Causes.{IsBuildCause}
use Rattle.fgb_pack.specs.Plans.{IsOfPlan}
use Rattle.fgb_pack.specs.declared.done.PackError.{PackError}
use Rattle.fgb_pack.specs.declared.done.PackError.TheVariants.{Refused, SourceFailed, SinkFailed, TooLarge, Memory}
use Rattle.feature_pack.specs.Plans.{IsOfFeatures, IsOfSink}

plan_ours : (e : PackError) → IsOfPlan e → IsOfFeatures e
plan_ours (Refused broken) own = own
plan_ours SourceFailed own = own
plan_ours SinkFailed own = absurd own
plan_ours TooLarge own = tt
plan_ours Memory own = tt

sink_ours : (e : PackError) → IsOfSink e → IsOfFeatures e
sink_ours (Refused broken) own = own
sink_ours SourceFailed own = own
sink_ours SinkFailed own = tt
sink_ours TooLarge own = absurd own
sink_ours Memory own = tt

-- an error of laying that is passed on
pub own_of_build : {T : Type 0} (r : Result T PackError) (error : BuildError) → IsErrAnd r (IsBuildCause error) → IfErr r IsOfFeatures
own_of_build (Ok x) error is = tt
own_of_build (Err e) build_error.Memory is = subst IsOfFeatures (sym is) tt
own_of_build (Err e) build_error.TooLarge is = subst IsOfFeatures (sym is) tt

pub no_sink_of_build : {T : Type 0} (r : Result T PackError) (error : BuildError) → IsErrAnd r (IsBuildCause error) → r ≡ Err SinkFailed → ⊥
no_sink_of_build (Ok x) error is same = is
no_sink_of_build (Err e) build_error.Memory is same = let known : e ≡ SinkFailed = cc same in absurd (cc (is, known))
no_sink_of_build (Err e) build_error.TooLarge is same = let known : e ≡ SinkFailed = cc same in absurd (cc (is, known))

-- one of planning
module _ {T : Type 0} where
  pub own_of_plan : (r : Result T PackError) (error : PackError) → IsErrAnd r (λ e. e ≡ error) → IsOfPlan error → IfErr r IsOfFeatures
  own_of_plan (Ok x) error is own = tt
  own_of_plan (Err e) error is own = plan_ours e (subst IsOfPlan (sym is) own)

  pub no_sink_of_plan : (r : Result T PackError) (error : PackError) → IsErrAnd r (λ e. e ≡ error) → IsOfPlan error → r ≡ Err SinkFailed → ⊥
  no_sink_of_plan (Ok x) error is own same = is
  no_sink_of_plan (Err e) error is own same = let known : e ≡ SinkFailed = cc same in subst IsOfPlan (sym is ∙ known) own

  -- and one of writing
  pub own_of_sink : (r : Result T PackError) (error : PackError) → IsErrAnd r (λ e. e ≡ error) → IsOfSink error → IfErr r IsOfFeatures
  own_of_sink (Ok x) error is own = tt
  own_of_sink (Err e) error is own = sink_ours e (subst IsOfSink (sym is) own)

  pub no_large_of_sink : (r : Result T PackError) (error : PackError) → IsErrAnd r (λ e. e ≡ error) → IsOfSink error → r ≡ Err TooLarge → ⊥
  no_large_of_sink (Ok x) error is own same = is
  no_large_of_sink (Err e) error is own same = let known : e ≡ TooLarge = cc same in subst IsOfSink (sym is ∙ known) own
