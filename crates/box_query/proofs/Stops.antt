-- What a `?` passes on of a query's error.
use Rattle.std.proofs.Common.{◌≡◌, Result, Ok, Err, IsErrAnd, IsErrOf, sym, ap, subst, ◌∙◌}
use Rattle.flat_layout.specs.declared.Broken.{Broken}
use Rattle.found_features.specs.Stops.{AtRefusal, IfRefused}
use Rattle.found_features.specs.declared.stop.QueryError.{QueryError}
use Rattle.found_features.specs.declared.stop.QueryError.TheVariants.{SourceFailed}

-- a refusal
pub stop_exit : {T : Type 0} (r : Result T QueryError) (stop : QueryError) (P : Broken → Type 0) → IsErrAnd r (λ s. s ≡ stop) → AtRefusal stop P → IfRefused r P
stop_exit (Ok x) stop P is holds = tt
stop_exit (Err s) stop P is holds = subst (λ s. AtRefusal s P) (sym is) holds

-- a failed source
pub failed_of : {T U : Type 0} (r : Result T QueryError) (stop : QueryError) → IsErrAnd r (λ s. s ≡ stop) → IsErrOf r SourceFailed → IsErrOf {T = U} (Err stop) SourceFailed
failed_of (Ok x) stop is failed = absurd is
failed_of (Err s) stop is failed = let same : s ≡ SourceFailed = cc (failed) in ap Err (sym is ∙ same)
