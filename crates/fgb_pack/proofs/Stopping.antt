-- Why planning and packing stop.
use Rattle.std.proofs.Common.{◌≡◌, Result, Ok, Err, IsErrAnd, refl, sym, subst, ◌∙◌}
use Rattle.std.specs.Prelude.{IfErr}
use Rattle.flat_layout.specs.declared.Broken.{Broken}
use Rattle.flat_builder.specs.declared.error.BuildError.{BuildError}
use Rattle.flat_builder.specs.declared.error.BuildError.TheVariants as build_error
use Rattle.read_stop.specs.Stops.{AtRefusal as AtReadRefusal}
use Rattle.read_stop.specs.declared.stop.ReadStop.{ReadStop}
use Rattle.read_stop.specs.declared.stop.ReadStop.TheVariants as read_stop
use Rattle.fgb_pack.specs.Causes.{AtRefusal, IfRefused, IsBuildCause, IsReadCause}
use Rattle.fgb_pack.specs.Plans.{IsOfPlan}
use Rattle.fgb_pack.specs.declared.done.PackError.{PackError}
use Rattle.fgb_pack.specs.declared.done.PackError.TheVariants.{TooLarge}

-- the exit of the `?` of an error of reading
at_read : (stop : ReadStop) (error : PackError) (P : Broken → Type 0) → IsReadCause stop error → AtReadRefusal stop P → AtRefusal error P
at_read (read_stop.Refused broken) error P is holds = subst (λ e. AtRefusal e P) (sym is) holds
at_read read_stop.SourceFailed error P is holds = subst (λ e. AtRefusal e P) (sym is) tt
at_read read_stop.Memory error P is holds = subst (λ e. AtRefusal e P) (sym is) tt

pub read_exit : {T : Type 0} (r : Result T PackError) (stop : ReadStop) (P : Broken → Type 0) → IsErrAnd r (IsReadCause stop) → AtReadRefusal stop P → IfRefused r P
read_exit (Ok x) stop P is holds = tt
read_exit (Err error) stop P is holds = at_read stop error P is holds

-- the exit of the `?` of an error of laying a header
pub build_own : {T : Type 0} (r : Result T PackError) (error : BuildError) → IsErrAnd r (IsBuildCause error) → IfErr r IsOfPlan
build_own (Ok x) error is = tt
build_own (Err e) build_error.Memory is = subst IsOfPlan (sym is) tt
build_own (Err e) build_error.TooLarge is = subst IsOfPlan (sym is) tt

pub build_large : {T : Type 0} (r : Result T PackError) (error : BuildError) → IsErrAnd r (IsBuildCause error) → r ≡ Err TooLarge → error ≡ build_error.TooLarge
build_large r build_error.TooLarge cause is = refl
build_large (Ok x) build_error.Memory cause is = cc
build_large (Err e) build_error.Memory cause is = cc

-- an error that was passed on
pub same_error : {T : Type 0} (r : Result T PackError) (error other : PackError) → IsErrAnd r (λ e. e ≡ error) → r ≡ Err other → error ≡ other
same_error (Ok x) error other is same = cc
same_error (Err e) error other is same = let known : e ≡ other = cc same in sym is ∙ known
